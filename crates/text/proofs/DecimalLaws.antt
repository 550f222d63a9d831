-- Decimal notation is right, it is the only right one, and a number of 32 bits has at most 10 digits. By induction on the places.
use Prim.Native.Nat.{◌%◌, ◌*◌, ◌+◌, ◌-◌, ◌/◌, ◌<◌, ◌^◌, ◌≤◌, suc, zero, ℕ}
use borrow.Author.Tests.{le-ltb, lt-ltb}
use lib.Dec.{lit<}
use lib.IntN.{nat_abs, negsuc, pos, ℤ}
use lib.ListN.{get_or-append, get_or, length, length-append}
use lib.Signed.{◌<ℤ◌, ◌≤ℤ◌}
use mathlib.Core.List.{List, [], ◌++◌, ◌∷◌}
use mathlib.Core.Path.{◌∙◌, ◌≡◌, refl, subst, sym}
use native.Mathlib.Decide.{dec_lt}
use native.Mathlib.Nat.{div-lt_iff_lt-mul, pow-suc}
use native.Mathlib.Omega.{arith}
use Rattle.integer.proofs.Parts.{zarith}
use Rattle.text.specs.Decimal.{Numeral, decimal, digit, digits, more, signed, value, value_after}

-- ---- one digit, and one more

digits-small : (places n : ℕ) → n < 10 → digits (suc places) n ≡ (48 + n) ∷ []
unfolding digits
digits-small places n h = rw (lt-ltb n 10 h)

digits_more : (places n : ℕ) → 10 ≤ n → digits (suc places) n ≡ digits places (n / 10) ++ ((48 + n % 10) ∷ [])
unfolding digits
digits_more places n h = rw (le-ltb n 10 h)

-- any number of places that is enough gives the same digits
enough : (f g n : ℕ) → n < f → n < g → digits f n ≡ digits g n
enough zero g n h k = absurd (let z : ⊥ = omega arith in z)
enough (suc f) zero n h k = absurd (let z : ⊥ = omega arith in z)
enough (suc f) (suc g) n h k = go (dec_lt n 10) (enough f g (n / 10))
  where
    go : Dec (n < 10) → (n / 10 < f → n / 10 < g → digits f (n / 10) ≡ digits g (n / 10)) → digits (suc f) n ≡ digits (suc g) n
    go (yes l) r = digits-small f n l ∙ sym (digits-small g n l)
    go (no l) r =
        let m : 10 ≤ n = omega arith in
        rw (digits_more f n m, digits_more g n m, r (omega arith) (omega arith))

pub decimal-small : (n : ℕ) → n < 10 → decimal n ≡ (48 + n) ∷ []
unfolding decimal
decimal-small n h = digits-small n n h

pub decimal-more : (n : ℕ) → 10 ≤ n → decimal n ≡ decimal (n / 10) ++ ((48 + n % 10) ∷ [])
unfolding decimal
decimal-more n h = digits_more n n h ∙ rw (enough n (suc (n / 10)) (n / 10) (omega arith) (omega arith))

-- ---- the notation is right

numeral-below : (k n : ℕ) → n < k → Numeral (decimal n) n
numeral-below zero n h = absurd (let z : ⊥ = omega arith in z)
numeral-below (suc k) n h = go (dec_lt n 10) (numeral-below k (n / 10))
  where
    go : Dec (n < 10) → (n / 10 < k → Numeral (decimal (n / 10)) (n / 10)) → Numeral (decimal n) n
    go (yes l) r = rw (decimal-small n l) (digit l)
    go (no l) r =
        let m : 10 ≤ n = omega arith in
        let whole : n / 10 * 10 + n % 10 ≡ n = omega arith in
        rw (decimal-more n m) (subst (Numeral (decimal (n / 10) ++ ((48 + n % 10) ∷ []))) whole (more (r (omega arith)) (omega arith) (omega arith)))

pub decimal-numeral : (n : ℕ) → Numeral (decimal n) n
decimal-numeral n = numeral-below (suc n) n (omega arith)

-- and no other is
pub numeral-decimal : {text : List ℕ} {n : ℕ} → Numeral text n → text ≡ decimal n
numeral-decimal (digit {d} h) = sym (decimal-small d h)
numeral-decimal (more {text} {n} {d} r some h) =
    let e : (n * 10 + d) / 10 ≡ n = omega arith in
    let f : (n * 10 + d) % 10 ≡ d = omega arith in
    sym (decimal-more (n * 10 + d) (omega arith) ∙ rw (e, f, numeral-decimal r))

-- ---- what a right notation is: the value of its digits is the number, and it has no leading zero

value-last : (text : List ℕ) (n b : ℕ) → value_after n (text ++ (b ∷ [])) ≡ value_after n text * 10 + (b - 48)
unfolding value_after
value-last [] n b = refl
value-last (a ∷ text) n b = value-last text (n * 10 + (a - 48)) b

pub numeral-value : {text : List ℕ} {n : ℕ} → Numeral text n → value text ≡ n
unfolding value value_after
numeral-value (digit h) = omega arith
numeral-value (more {text} {n} {d} r some h) = value-last text 0 (48 + d) ∙ rw (numeral-value r) (omega arith)

numeral-length : {text : List ℕ} {n : ℕ} → Numeral text n → 0 < length text
numeral-length (digit h) = omega arith
numeral-length (more {text} {n} {d} r some h) = omega (arith, numeral-length r, length-append text ((48 + d) ∷ []))

pub numeral-leading : {text : List ℕ} {n : ℕ} → Numeral text n → 0 < n → 48 < get_or text 0 0
numeral-leading (digit h) some = omega arith
numeral-leading (more {text} {n} {d} r some h) _ = rw (get_or-append text ((48 + d) ∷ []) 0 0 (numeral-length r)) (numeral-leading r some)

-- ---- the sign

pub signed-natural : (z : ℤ) → pos 0 ≤ℤ z → signed z ≡ decimal (nat_abs z)
unfolding signed
signed-natural (pos n) h = refl
signed-natural (negsuc n) h = absurd h.le

pub signed-negative : (z : ℤ) → z <ℤ pos 0 → signed z ≡ 45 ∷ decimal (nat_abs z)
unfolding signed
signed-negative (pos n) h = absurd (let z : ⊥ = omega (zarith, h) in z)
signed-negative (negsuc n) h = refl

-- ---- room

pub decimal-length : (k n : ℕ) → n < 10 ^ suc k → length (decimal n) ≤ suc k
decimal-length zero n h = let l : n < 10 = omega arith in rw (decimal-small n l) (omega arith)
decimal-length (suc k) n h = go (dec_lt n 10) (decimal-length k (n / 10))
  where
    go : Dec (n < 10) → (n / 10 < 10 ^ suc k → length (decimal (n / 10)) ≤ suc k) → length (decimal n) ≤ suc (suc k)
    go (yes l) r = rw (decimal-small n l) (omega arith)
    go (no l) r =
        let m : 10 ≤ n = omega arith in
        let q : n / 10 < 10 ^ suc k = (div-lt_iff_lt-mul (lit< tt)).1 (omega (arith, pow-suc 10 (suc k))) in
        rw (decimal-more n m, length-append) (omega (arith, r q))
