-- |z| ≤ m, and bounds that are put together as a term is: the way to show that a sum or a product fits.
use mathlib.Core.Path.{◌≡◌, refl}
use Prim.Native.Nat.{ℕ, zero, suc, ◌+◌, ◌*◌, ◌^◌, ◌≤◌}
use native.Mathlib.Nat.{mul-le-mul}
use native.Mathlib.Omega.{arith}
use lib.Dec.{T, leb, ltb, leb→le, ltb→lt}
use lib.IntN.{ℤ, pos, negsuc, neg_ℤ, nat_abs, ◌+ℤ◌, ◌-ℤ◌, ◌*ℤ◌}
use mir.Syntax.{Width}
use mir.Val.{SFits, hbits, to_z, of_z}
use mir.Facts.{to_z-of_z}
use Rattle.integer.specs.Range.{Within}
use Rattle.integer.proofs.Parts.{pp, np, zarith, add_parts, neg-parts, fits}

-- as rules for `omega`
pub within_in : {m : ℕ} {z : ℤ} → Within m z → pp z + np z ≤ m
within_in {m} {z = pos n} h = omega (arith, h.abs)
within_in {m} {z = negsuc n} h = omega (arith, h.abs)

within-out' : (m : ℕ) (z : ℤ) → pp z ≤ m + np z → np z ≤ m + pp z → nat_abs z ≤ m
within-out' m (pos n) h k = omega arith
within-out' m (negsuc n) h k = omega arith

pub within! : (m : ℕ) (z : ℤ) → (pp z ≤ m + np z) × (np z ≤ m + pp z) → Within m z
within! m z h = record { abs = within-out' m z h.0 h.1 }

-- put together
pub within-lit : {m : ℕ} {z : ℤ} → T (leb (nat_abs z) m) → Within m z
within-lit {m} {z} t = record { abs = leb→le (nat_abs z) m t }

pub within-le : {m n : ℕ} {z : ℤ} → m ≤ n → Within m z → Within n z
within-le {m} {n} {z} h k = record { abs = omega (arith, k.abs) }

pub within-add : {m n : ℕ} {a b : ℤ} → Within m a → Within n b → Within (m + n) (a +ℤ b)
within-add {m} {n} {a} {b} h k = within! (m + n) (a +ℤ b) (omega (arith, within_in h, within_in k, add_parts a b))

pub within-neg : {m : ℕ} {a : ℤ} → Within m a → Within m (neg_ℤ a)
within-neg {m} {a} h = within! m (neg_ℤ a) (omega (arith, within_in h, neg-parts a))

pub within-sub : {m n : ℕ} {a b : ℤ} → Within m a → Within n b → Within (m + n) (a -ℤ b)
within-sub h k = within-add h (within-neg k)

abs_neg : (n : ℕ) → nat_abs (neg_ℤ (pos n)) ≡ n
abs_neg zero = refl
abs_neg (suc n) = refl

abs-mul : (a b : ℤ) → nat_abs (a *ℤ b) ≡ nat_abs a * nat_abs b
abs-mul (pos a) (pos b) = refl
abs-mul (pos a) (negsuc b) = abs_neg (a * suc b)
abs-mul (negsuc a) (pos b) = abs_neg (suc a * b)
abs-mul (negsuc a) (negsuc b) = refl

pub within-mul : {m n : ℕ} {a b : ℤ} → Within m a → Within n b → Within (m * n) (a *ℤ b)
within-mul {m} {n} {a} {b} h k = record { abs = rw abs-mul (mul-le-mul h.abs k.abs) }

-- a number within m fits a width that holds m
pub within-fits : (w : Width) {m : ℕ} {z : ℤ} → T (ltb m (2 ^ hbits w)) → Within m z → SFits w z
within-fits w {m} {z} t h = fits w z (omega (arith, within_in h, ltb→lt m (2 ^ hbits w) t))

-- a number within m, as the machine reads it back
pub back : (w : Width) {m : ℕ} {z : ℤ} → T (ltb m (2 ^ hbits w)) → Within m z → to_z w (of_z w z) ≡ z
back w t h = to_z-of_z {w = w} (within-fits w t h)

pub ruleset zwithin = (zarith, within_in)

pub abs-parts : (z : ℤ) → nat_abs z ≡ pp z + np z
abs-parts (pos n) = omega arith
abs-parts (negsuc n) = omega arith
