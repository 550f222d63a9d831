-- Every byte of a line is a space, a sign or a digit: no line feed stands within one.
use Prim.Native.Nat.{◌%◌, ◌+◌, ◌-◌, ◌/◌, ◌<◌, ◌≤◌, suc, zero, ℕ}
use lib.Dec.{eqb}
use lib.IntN.{negsuc, pos, ℤ}
use lib.ListN.{get_or, length}
use mathlib.Core.Bool.{Bool, cond, false, true}
use mathlib.Core.List.{List, [], ◌++◌, ◌∷◌}
use native.Mathlib.Omega.{arith}
use Rattle.text.specs.Decimal.{Numeral, decimal, digit, more, signed}
use Rattle.text.proofs.DecimalLaws.{decimal-numeral}
use Rattle.pages.specs.Page.{first_line, further_line, left, literal_text, literals, number_line, right, slots, spaces}

pub data Printed : List ℕ → Type 0 where
  nothing : Printed []
  byte : {b : ℕ} {text : List ℕ} → 32 ≤ b → b < 58 → Printed text → Printed (b ∷ text)

pub printed-append : {s t : List ℕ} → Printed s → Printed t → Printed (s ++ t)
printed-append nothing k = k
printed-append (byte l g h) k = byte l g (printed-append h k)

pub printed-at : {text : List ℕ} → Printed text → (j : ℕ) → j < length text → (32 ≤ get_or text j 0) × (get_or text j 0 < 58)
printed-at nothing j k = absurd (let z : ⊥ = omega arith in z)
printed-at (byte l g h) zero k = (l, g)
printed-at (byte l g h) (suc j) k = printed-at h j (omega arith)

pub printed-spaces : (w : ℕ) → Printed (spaces w)
printed-spaces zero = nothing
printed-spaces (suc w) = byte {b = 32} (omega arith) (omega arith) (printed-spaces w)

printed-right : (w : ℕ) {text : List ℕ} → Printed text → Printed (right w text)
unfolding right
printed-right w {text} h = printed-append (printed-spaces (w - length text)) h

printed-left : (w : ℕ) {text : List ℕ} → Printed text → Printed (left w text)
unfolding left
printed-left w {text} h = printed-append h (printed-spaces (w - length text))

printed-numeral : {text : List ℕ} {n : ℕ} → Numeral text n → Printed text
printed-numeral (digit {d} h) = byte {b = 48 + d} (omega arith) (omega arith) nothing
printed-numeral (more {text} {n} {d} r some h) = printed-append (printed-numeral r) (byte {b = 48 + d} (omega arith) (omega arith) nothing)

printed-decimal : (n : ℕ) → Printed (decimal n)
printed-decimal n = printed-numeral (decimal-numeral n)

printed-signed : (z : ℤ) → Printed (signed z)
unfolding signed
printed-signed (pos n) = printed-decimal n
printed-signed (negsuc n) = byte {b = 45} (omega arith) (omega arith) (printed-decimal (suc n))

printed-literal : (q : ℕ) → Printed (literal_text q)
unfolding literal_text
printed-literal q = go (eqb (q % 2) 1)
  where
    go : (x : Bool) → Printed (cond x 43 45 ∷ decimal (q / 2))
    go true = byte {b = 43} (omega arith) (omega arith) (printed-decimal (q / 2))
    go false = byte {b = 45} (omega arith) (omega arith) (printed-decimal (q / 2))

printed-slots : (c : ℕ) (qs : List ℕ) → Printed (slots c qs)
unfolding slots
printed-slots zero qs = nothing
printed-slots (suc c) [] = printed-append (printed-spaces 6) (printed-slots c [])
printed-slots (suc c) (q ∷ qs) = printed-append (printed-left 6 (printed-literal q)) (printed-slots c qs)

printed-literals : (qs : List ℕ) → Printed (literals qs)
unfolding literals
printed-literals qs = printed-append (printed-slots 8 qs) (printed-spaces 9)

printed-space : {text : List ℕ} → Printed text → Printed (32 ∷ text)
printed-space h = byte {b = 32} (omega arith) (omega arith) h

pub printed-first : (k : ℕ) (l u : ℤ) (qs : List ℕ) → Printed (first_line k l u qs)
unfolding first_line
printed-first k l u qs =
    printed-append (printed-right 6 (printed-decimal k)) (printed-space (printed-append (printed-right 7 (printed-signed l)) (printed-space (printed-append (printed-right 7 (printed-signed u)) (printed-space (printed-literals qs))))))

pub printed-further : (qs : List ℕ) → Printed (further_line qs)
unfolding further_line
printed-further qs = printed-append (printed-spaces 23) (printed-literals qs)

pub printed-number : (p : ℕ) → Printed (number_line p)
unfolding number_line
printed-number p = printed-append (printed-spaces 74) (printed-right 6 (printed-decimal _))
