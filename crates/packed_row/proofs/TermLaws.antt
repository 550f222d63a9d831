-- A term from the place of the bound at which it is least: at the lower bound for a coefficient that is not below 0, at the upper for one
-- below; the greatest is at the other bound. For a coefficient of 0 either bound does.
use Prim.Native.Nat.{◌*◌, ◌+◌, ◌-◌, ◌≤◌, ℕ}
use lib.IntN.{◌*ℤ◌, pos, zero-*ℤ, ℤ}
use lib.Signed.{◌<ℤ◌, ◌≤ℤ◌, le_z, lt_z}
use mathlib.Core.Bool.{Bool, cond, false, true}
use mathlib.Core.List.{List}
use mathlib.Core.Logic.{◌⊎◌, inl, inr}
use mathlib.Core.Path.{◌∙◌, ◌≡◌, refl, sym}
use native.Mathlib.Omega.{arith}
use Rattle.std.specs.Int.{int_max}
use Rattle.integer.specs.Order.{max_z}
use Rattle.integer.proofs.Parts.{le_z-no, lt-false, lt-is, lt-isn't, lt-true, zarith}
use Rattle.integer.proofs.Tests.{cond_ind, le_test}
use Rattle.model.specs.Box.{at, lower, upper}
use Rattle.model.proofs.BoxLaws.{≤ℤ-antisymm}
use Rattle.row.specs.Activity.{max_term, min_term}
use Rattle.row.proofs.ActivityLaws.{max_term-ind, max_term-nonpos, min_term-ind, min_term-nonpos}

-- the number of places from the lower bound on
abbrev pub Negative : ℤ → ℕ → Type 0
Negative a s = ((a <ℤ pos 0) × (s ≡ 1)) ⊎ ((pos 0 ≤ℤ a) × (s ≡ 0))

negative_of : (a : ℤ) {s : ℕ} (t : Bool) → lt_z a (pos 0) ≡ t → s ≡ cond t 1 0 → Negative a s
negative_of a true e z = inl (lt-true a (pos 0) e, z)
negative_of a false e z = inr (lt-false a (pos 0) e, z)

pub negative : (a : ℤ) {s : ℕ} → s ≡ cond (lt_z a (pos 0)) 1 0 → Negative a s
negative a z = negative_of a (lt_z a (pos 0)) refl z

pub negative-small : {a : ℤ} {s : ℕ} → Negative a s → s ≤ 1
negative-small (inl (h, e)) = omega arith
negative-small (inr (h, e)) = omega arith

weaken : {a : ℤ} → a <ℤ pos 0 → a ≤ℤ pos 0
weaken {a} h = omega zarith

same-product : {a : ℤ} (x y : ℤ) → pos 0 ≤ℤ a → a ≤ℤ pos 0 → a *ℤ x ≡ a *ℤ y
same-product x y h k = rw (≤ℤ-antisymm k h) (zero-*ℤ x ∙ sym (zero-*ℤ y))

module _ {a : ℤ} (B : List ℤ) (j : ℕ) {s : ℕ} where
  pub near-least : Negative a s → a *ℤ at B (2 * j + s) ≡ min_term a (lower B j) (upper B j)
  near-least (inl (h, e)) = rw e (sym (min_term-nonpos a (lower B j) (upper B j) (weaken h)))
  near-least (inr (h, e)) =
      let k : 2 * j + s ≡ 2 * j = omega arith in
      rw k (min_term-ind a (lower B j) (upper B j) (λ (x : ℤ). a *ℤ lower B j ≡ x) (λ _. refl) (same-product (lower B j) (upper B j) h))

  pub far-most : Negative a s → a *ℤ at B (4 * j + 1 - (2 * j + s)) ≡ max_term a (lower B j) (upper B j)
  far-most (inl (h, e)) =
      let k : 4 * j + 1 - (2 * j + s) ≡ 2 * j = omega arith in
      rw k (sym (max_term-nonpos a (lower B j) (upper B j) (weaken h)))
  far-most (inr (h, e)) =
      let k : 4 * j + 1 - (2 * j + s) ≡ 2 * j + 1 = omega arith in
      rw k (max_term-ind a (lower B j) (upper B j) (λ (x : ℤ). a *ℤ upper B j ≡ x) (λ _. refl) (same-product (upper B j) (lower B j) h))

  -- either is one of the variable's bounds
  pub places : (P : ℤ → Type 0) → P (lower B j) → P (upper B j) → Negative a s → P (at B (2 * j + s)) × P (at B (4 * j + 1 - (2 * j + s)))
  places P l u (inl (h, e)) = let k : 4 * j + 1 - (2 * j + s) ≡ 2 * j = omega arith in rw (k, e) (u, l)
  places P l u (inr (h, e)) =
      let k : 4 * j + 1 - (2 * j + s) ≡ 2 * j + 1 = omega arith in
      let i : 2 * j + s ≡ 2 * j = omega arith in
      rw (k, i) (l, u)

-- the greater of two numbers, as std computes it
pub max_same : (x y : ℤ) → int_max x y ≡ max_z x y
unfolding max_z
max_same x y = cond_ind (le_z x y) y x (λ (z : ℤ). int_max x y ≡ z) (λ t. rw (lt-isn't ((le_test x y).0 t))) (λ t. rw (lt-is (le_z-no t)))
