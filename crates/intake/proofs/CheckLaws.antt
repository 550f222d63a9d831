-- Laws of the checks of an input: they are those of the whole input, and what they accept is as long as a book.
use Prim.Native.Nat.{◌-◌, ◌<◌, ◌≤◌, ℕ}
use borrow.Author.Tests.{eq-eqb, le-leb, lt-leb, ne_eqb}
use lib.Dec.{eqb, leb}
use lib.ListN.{length, length-drop}
use mathlib.Core.Bool.{false, true}
use mathlib.Core.List.{List, ◌++◌}
use mathlib.Core.Path.{◌∙◌, ◌≡◌, ap, ap₂, refl, sym}
use native.Mathlib.Decide.{dec_lt, ℕ_discrete}
use native.Mathlib.Omega.{arith}
use Rattle.integer.proofs.Tests.{eqb-test}
use Rattle.model.specs.Checks.{first, size_checks}
use Rattle.model.proofs.CheckLaws.{fails, first-none, past}
use Rattle.book.specs.Answers.{Answer, refused, sizes_are, unless}
use Rattle.book.specs.Book.{length_given, rows, trailer_of, variables}
use Rattle.book.specs.BookChecks.{given_length_checks, head_checks, layout_checks, offset_checks}
use Rattle.little_endian.specs.Bytes.{Bytes}
use Rattle.book.proofs.AcceptLaws.{layout-test}
use Rattle.book.proofs.AnswerLaws.{accepted-by, refused-by}
use Rattle.little_endian.proofs.ByteLaws.{number_at-below, part_bytes}
use Rattle.book.proofs.EncodeLaws.{length-below, trailer-part}
use Rattle.intake.specs.Checks.{SizedBook, TooLong, head_call, input_call, input_checks, too_long}
use Rattle.intake.specs.Intake.{last_bytes}
use Rattle.intake.proofs.InputLaws.{last-trailer, length_last}

-- what is accepted has n and m, and no check fails
pub accepted : (fault p q n m : ℕ) → unless fault (sizes_are p q) ≡ sizes_are n m → (fault ≡ 0) × (p ≡ n) × (q ≡ m)
accepted fault p q n m e = go (ℕ_discrete fault 0)
  where
    go : Dec (fault ≡ 0) → (fault ≡ 0) × (p ≡ n) × (q ≡ m)
    go (yes z) = let h : sizes_are p q ≡ sizes_are n m = accepted-by z (sizes_are p q) ∙ e in (z, (cc), (cc))
    go (no k) =
        let h : refused fault ≡ sizes_are n m = refused-by refl k (sizes_are p q) ∙ e in
        let z : ◌≡◌ {A = ℕ} 0 1 = cc in
        absurd (let y : ⊥ = omega arith in y)

-- the last 16 bytes and the length tell what the whole input would
input-right : (bs : List ℕ) → input_call (last_bytes bs) (length bs) ≡ head_call bs
unfolding input_call head_call input_checks head_checks
input-right bs = go (dec_lt (length bs) 16)
  where
    go : Dec (length bs < 16) → input_call (last_bytes bs) (length bs) ≡ head_call bs
    go (yes k) =
        let short : leb 16 (length bs) ≡ false = lt-leb 16 (length bs) k in
        sym (refused-by (fails _ 1 _ short) (λ z. omega arith) _) ∙ refused-by (fails _ 1 _ short) (λ z. omega arith) _
    go (no k) =
        let long : leb 16 (length bs) ≡ true = le-leb 16 (length bs) (omega arith) in
        let l : eqb (length (last_bytes bs)) 16 ≡ true = eq-eqb (length (last_bytes bs)) 16 (length_last bs) in
        let e : last_bytes bs ≡ trailer_of bs = last-trailer bs (omega arith) in
        let a : first (input_checks (last_bytes bs) (length bs)) ≡ first (head_checks bs) =
        sym (past _ 1 _ long (past _ 5 _ l refl)) ∙ past _ 1 _ long (ap (λ (t : List ℕ). first (given_length_checks t (length bs) ++ layout_checks t)) e) in
        ap₂ (λ (f : ℕ) (t : List ℕ). unless f (sizes_are (variables t) (rows t))) a e

input-sized : (t : List ℕ) (len n m : ℕ) → input_call t len ≡ sizes_are n m → SizedBook n m len
unfolding input_call input_checks given_length_checks layout_checks size_checks offset_checks
input-sized t len n m e =
    let a = accepted (first (input_checks t len)) (variables t) (rows t) n m e in
    let h = (first-none (input_checks t len) tt).0 a.0 in
    let l = (layout-test t).0 ((first-none (layout_checks t) tt).1 h.1.1.1) in
    let g : length_given t ≡ len = (eqb-test (length_given t) len).0 h.1.1.0 in
    rw (← a.1, ← a.2)
    (record {
      some = l.some;
      few = l.few;
      few_rows = l.few_rows;
      given = sym g ∙ l.ends;
      short = omega (arith, l.ends, length-below (variables t) (rows t) l.few l.few_rows);
    })

-- an answer by these checks is right of every input that ends so, and tells how long it is
pub answers : (t : List ℕ) (len : ℕ) {a : Answer} → a ≡ input_call t len
    → (a ≡ input_call t len)
    × (((bs : List ℕ) → len ≡ length bs → t ≡ last_bytes bs → a ≡ head_call bs) × ((n m : ℕ) → a ≡ sizes_are n m → SizedBook n m len))
answers t len e =
    (e, ((λ bs l k. e ∙ ap₂ input_call k l ∙ input-right bs), (λ n m k. input-sized t len n m (sym e ∙ k))))

-- ---- too long

-- a trailer's length has four bytes
given_below : (bs : List ℕ) → Bytes bs → 16 ≤ length bs → length_given (trailer_of bs) < too_long
unfolding trailer_of
given_below bs h k =
    let t : Bytes (trailer_of bs) = rw (trailer-part bs) at (part_bytes (length bs - 16) (length bs - (length bs - 16)) bs h) in
    number_at-below 4 12 (trailer_of bs) t (omega (arith, length-drop (length bs - 16) bs))

-- so it is not that of an input of 2³² bytes or more
pub too_long_lem : (len : ℕ) → too_long ≤ len → TooLong len
unfolding head_call head_checks given_length_checks
too_long_lem len h = record {
  refusal = λ bs b k.
      let long : leb 16 (length bs) ≡ true = le-leb 16 (length bs) (omega arith) in
      let other : eqb (length_given (trailer_of bs)) (length bs) ≡ false =
      ne_eqb (length_given (trailer_of bs)) (length bs) (λ e. omega (arith, given_below bs b (omega arith))) in
      sym (refused-by (past _ 1 _ long (fails _ 2 _ other)) (λ z. omega arith) _);
}
