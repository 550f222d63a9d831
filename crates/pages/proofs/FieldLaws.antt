-- Fields: their columns, and the numbers in them.
use Prim.Native.Nat.{◌%◌, ◌*◌, ◌+◌, ◌-◌, ◌/◌, ◌<◌, ◌^◌, ◌≤◌, suc, zero, ℕ}
use borrow.Author.Tests.{eq-eqb, lt-ltb, ne_eqb}
use lib.Dec.{eqb}
use lib.IntN.{nat_abs, negsuc, pos, ℤ}
use lib.ListN.{length, length-append, length-replicate}
use mathlib.Core.Bool.{Bool, cond, false, true}
use mathlib.Core.List.{List, [], ◌++◌, ◌∷◌, append-nil}
use mathlib.Core.Path.{◌∙◌, ◌≡◌, ap, refl}
use native.Mathlib.Decide.{dec_lt}
use native.Mathlib.Omega.{arith}
use Rattle.text.specs.Decimal.{Numeral, decimal, digit, more, signed, value}
use Rattle.text.proofs.DecimalLaws.{decimal-length, decimal-numeral, numeral-value}
use Rattle.pages.specs.Page.{left, literal_text, right, spaces}
use Rattle.pages.specs.Reading.{is_blank, is_digit, is_minus, is_none, keep, literal_in, natural_in, whole_in}

-- ---- columns

pub right-length : (w : ℕ) (text : List ℕ) → length text ≤ w → length (right w text) ≡ w
unfolding right
right-length w text h = simp (length-append, length-replicate) (omega arith)

pub left-length : (w : ℕ) (text : List ℕ) → length text ≤ w → length (left w text) ≡ w
unfolding left
left-length w text h = simp (length-append, length-replicate) (omega arith)

pub signed-length : (k : ℕ) (z : ℤ) → nat_abs z < 10 ^ suc k → length (signed z) ≤ suc (suc k)
unfolding signed
signed-length k (pos n) h = omega (arith, decimal-length k n h)
signed-length k (negsuc n) h = omega (arith, decimal-length k (suc n) h)

pub literal-length : (q : ℕ) → q < 200_000 → length (literal_text q) ≤ 6
unfolding literal_text
literal-length q h = omega (arith, decimal-length 4 (q / 2) (omega arith))

-- ---- the bytes that pass a test

pub keep_append : (p : ℕ → Bool) (s t : List ℕ) → keep p (s ++ t) ≡ keep p s ++ keep p t
unfolding keep
keep_append p [] t = refl
keep_append p (b ∷ s) t = go (p b) (keep_append p s t)
  where
    go : (x : Bool) → keep p (s ++ t) ≡ keep p s ++ keep p t → cond x (b ∷ keep p (s ++ t)) (keep p (s ++ t)) ≡ cond x (b ∷ keep p s) (keep p s) ++ keep p t
    go true e = ap (λ (r : List ℕ). b ∷ r) e
    go false e = e

pub keep-spaces : (p : ℕ → Bool) → p 32 ≡ false → (w : ℕ) → keep p (spaces w) ≡ []
unfolding keep
keep-spaces p h zero = refl
keep-spaces p h (suc w) = rw h (keep-spaces p h w)

pub keep-right : (p : ℕ → Bool) → p 32 ≡ false → (w : ℕ) (text : List ℕ) → keep p (right w text) ≡ keep p text
unfolding right
keep-right p h w text = keep_append p (spaces (w - length text)) text ∙ rw (keep-spaces p h (w - length text))

pub keep_left : (p : ℕ → Bool) → p 32 ≡ false → (w : ℕ) (text : List ℕ) → keep p (left w text) ≡ keep p text
unfolding left
keep_left p h w text = keep_append p text (spaces (w - length text)) ∙ rw (keep-spaces p h (w - length text), append-nil)

-- ---- decimal notation has only digits

digit-is : (d : ℕ) → d < 10 → is_digit (48 + d) ≡ true
unfolding is_digit
digit-is d h = rw (lt-ltb 47 (48 + d) (omega arith), lt-ltb (48 + d) 58 (omega arith))

digit-no-minus : (d : ℕ) → is_minus (48 + d) ≡ false
unfolding is_minus
digit-no-minus d = ne_eqb (48 + d) 45 (λ e. omega arith)

numeral-digits : {text : List ℕ} {n : ℕ} → Numeral text n → keep is_digit text ≡ text
unfolding keep
numeral-digits (digit {d} h) = rw (digit-is d h)
numeral-digits (more {text} {n} {d} r some h) = keep_append is_digit text ((48 + d) ∷ []) ∙ rw (numeral-digits r, digit-is d h)

numeral-minus : {text : List ℕ} {n : ℕ} → Numeral text n → keep is_minus text ≡ []
unfolding keep
numeral-minus (digit {d} h) = rw (digit-no-minus d)
numeral-minus (more {text} {n} {d} r some h) = keep_append is_minus text ((48 + d) ∷ []) ∙ rw (numeral-minus r, digit-no-minus d)

numeral-some : {text : List ℕ} {n : ℕ} → Numeral text n → is_none text ≡ false
unfolding is_none
numeral-some (digit h) = refl
numeral-some (more {text} {n} {d} r some h) = go text (numeral-some r)
  where
    go : (s : List ℕ) → is_none s ≡ false → is_none (s ++ ((48 + d) ∷ [])) ≡ false
    go [] e = refl
    go (b ∷ s) e = refl

pub decimal-digits : (n : ℕ) → keep is_digit (decimal n) ≡ decimal n
decimal-digits n = numeral-digits (decimal-numeral n)

pub decimal-minus : (n : ℕ) → keep is_minus (decimal n) ≡ []
decimal-minus n = numeral-minus (decimal-numeral n)

pub decimal-some : (n : ℕ) → is_none (decimal n) ≡ false
decimal-some n = numeral-some (decimal-numeral n)

pub decimal-value : (n : ℕ) → value (decimal n) ≡ n
decimal-value n = numeral-value (decimal-numeral n)

space-digit : is_digit 32 ≡ false
unfolding is_digit
space-digit = refl

space-minus : is_minus 32 ≡ false
unfolding is_minus
space-minus = refl

-- ---- the numbers in columns

pub natural-right : (w n : ℕ) → natural_in (right w (decimal n)) ≡ n
unfolding natural_in
natural-right w n = rw (keep-right is_digit space-digit w (decimal n), decimal-digits n) (decimal-value n)

pub blank-right : (w n : ℕ) → is_blank (right w (decimal n)) ≡ false
unfolding is_blank
blank-right w n = rw (keep-right is_digit space-digit w (decimal n), decimal-digits n) (decimal-some n)

pub blank-spaces : (w : ℕ) → is_blank (spaces w) ≡ true
unfolding is_blank is_none
blank-spaces w = rw (keep-spaces is_digit space-digit w)

minus-digits : (text : List ℕ) → keep is_digit (45 ∷ text) ≡ keep is_digit text
unfolding keep is_digit
minus-digits text = refl

minus_minus : (text : List ℕ) → keep is_minus (45 ∷ text) ≡ 45 ∷ keep is_minus text
unfolding keep is_minus
minus_minus text = refl

plus-minus : (text : List ℕ) → keep is_minus (43 ∷ text) ≡ keep is_minus text
unfolding keep is_minus
plus-minus text = refl

pub whole-right : (w : ℕ) (z : ℤ) → whole_in (right w (signed z)) ≡ z
unfolding whole_in natural_in is_none signed
whole-right w (pos n) =
    rw (keep-right is_digit space-digit w (decimal n), keep-right is_minus space-minus w (decimal n), decimal-digits n, decimal-minus n, decimal-value n)
whole-right w (negsuc n) =
    rw (keep-right is_digit space-digit w (45 ∷ decimal (suc n)), keep-right is_minus space-minus w (45 ∷ decimal (suc n)), minus-digits (decimal (suc n)), minus_minus (decimal (suc n)), decimal-digits (suc n), decimal-value (suc n))

-- ---- a literal in six columns

sign-digits : (q : ℕ) → keep is_digit (literal_text q) ≡ decimal (q / 2)
unfolding literal_text keep is_digit
sign-digits q = go (dec_lt (q % 2) 1)
  where
    go : Dec (q % 2 < 1) → keep is_digit (literal_text q) ≡ decimal (q / 2)
    go (yes h) = rw (ne_eqb (q % 2) 1 (λ e. omega arith)) (decimal-digits (q / 2))
    go (no h) = rw (eq-eqb (q % 2) 1 (omega arith)) (decimal-digits (q / 2))

sign_zero : (q : ℕ) → q % 2 < 1 → is_none (keep is_minus (literal_text q)) ≡ false
unfolding literal_text keep is_minus is_none
sign_zero q h = rw (ne_eqb (q % 2) 1 (λ e. omega arith))

sign-one : (q : ℕ) → q % 2 ≡ 1 → is_none (keep is_minus (literal_text q)) ≡ true
unfolding literal_text is_none
sign-one q h = rw (eq-eqb (q % 2) 1 h, plus-minus (decimal (q / 2)), decimal-minus (q / 2))

pub literal-left : (q : ℕ) → literal_in (left 6 (literal_text q)) ≡ q ∷ []
unfolding literal_in is_blank natural_in
literal-left q =
    rw (keep_left is_digit space-digit 6 (literal_text q), keep_left is_minus space-minus 6 (literal_text q), sign-digits q, decimal-some (q / 2), decimal-value (q / 2)) (go (dec_lt (q % 2) 1))
  where
    go : Dec (q % 2 < 1) → (2 * (q / 2) + cond (is_none (keep is_minus (literal_text q))) 1 0) ∷ [] ≡ q ∷ []
    go (yes h) = let e : 2 * (q / 2) + 0 ≡ q = omega arith in rw (sign_zero q h) (ap (λ (x : ℕ). x ∷ []) e)
    go (no h) = let e : 2 * (q / 2) + 1 ≡ q = omega arith in rw (sign-one q (omega arith)) (ap (λ (x : ℕ). x ∷ []) e)
