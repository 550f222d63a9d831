-- What the checks of a book come to: a book is accepted exactly if its trailer says its length and its layout and its model is
-- valid.
use Prim.Native.Nat.{◌*◌, ◌<◌, ◌≤◌, ℕ}
use lib.Dec.{T, eqb}
use lib.IntN.{ℤ}
use lib.ListN.{get_or, length}
use mathlib.Core.Bool.{Bool, ◌&&◌, not}
use mathlib.Core.List.{List, [], ◌++◌}
use mathlib.Core.Logic.{◌↔◌}
use mathlib.Core.Path.{◌∙◌, ◌≡◌, ap, refl, sym}
use native.Mathlib.Decide.{ℕ_discrete}
use native.Mathlib.Omega.{arith}
use Rattle.integer.proofs.IndexLaws.{all-test}
use Rattle.integer.proofs.Tests.{all_three, eqb-test, leb-test, test-false, test-true}
use Rattle.model.specs.Checks.{Check, box_checks, first, length_checks, model_checks, model_fault, none, number_checks, size_checks, table_byte_checks, table_length_checks}
use Rattle.model.specs.Limits.{max_rows, max_variables}
use Rattle.model.specs.Model.{Model, model_of}
use Rattle.model.specs.Rows.{Rows, is_equality}
use Rattle.model.specs.Valid.{ValidModel}
use Rattle.model.proofs.CheckLaws.{LengthsFit, ends, fails, fault-none, first-none, first-stop, first-zero-append, fits-fault-none, goes, length-test, numbered, past, size-test}
use Rattle.book.specs.Answers.{read_fault, write_fault}
use Rattle.book.specs.Book.{HoldsModel, book_length, bounds_offset, decode, length_given, model_in, rows, rows_offset, trailer_of, variables}
use Rattle.book.specs.BookChecks.{book_checks, book_fault, first_edition_checks, given_length_checks, head_checks, inequalities, layout_checks, model_number_checks, offset_checks, read_checks, write_checks}
use Rattle.book.specs.RoundTrips.{FirstEdition}
use Rattle.book.proofs.DecodeLaws.{length-bounds_of, length-coefs_of, length-kinds_of, length-rhs_of}

-- the three lists of checks that a model in memory takes
pub valid-checks : (M : Model)
    → ValidModel M ↔ ((first (size_checks M.n M.m) ≡ 0) × (first (length_checks M) ≡ 0) × (first (model_number_checks M) ≡ 0))
unfolding model_fault model_checks size_checks length_checks table_length_checks box_checks number_checks table_byte_checks first
valid-checks M =
    let f = fault-none M in
    let N = model_number_checks M in
    let numbers = first-zero-append N [] tt in
    let lengths = first-zero-append (length_checks M) (N ++ []) tt in
    let sizes = first-zero-append (size_checks M.n M.m) (length_checks M ++ (N ++ [])) tt in (
      (λ v. let s = sizes.0 (f.1 v) in
          let l = lengths.0 s.1 in
          (s.0, l.0, (numbers.0 l.1).0)),
      (λ h. f.0 (sizes.1 (h.0, lengths.1 (h.1, numbers.1 (h.2, refl))))),
    )

pub size-passed : (n m : ℕ) → first (size_checks n m) ≡ 0 → (0 < n) × (n ≤ max_variables) × (m ≤ max_rows)
unfolding size_checks
size-passed n m e = (size-test n m).0 ((first-none (size_checks n m) tt).0 e).0

-- a trailer that says n and m within their limits, and the layout that they give
pub record Layout (t : List ℕ) : Type 0 where
  pub some : 0 < variables t
  pub few : variables t ≤ max_variables
  pub few_rows : rows t ≤ max_rows
  pub bounds_start : bounds_offset t ≡ 0
  pub rows_start : rows_offset t ≡ 8 * variables t
  pub ends : length_given t ≡ book_length (variables t) (rows t)

-- what check 4 asks
abbrev pub Offsets : List ℕ → Type 0
Offsets t = (bounds_offset t ≡ 0) × (rows_offset t ≡ 8 * variables t) × (length_given t ≡ book_length (variables t) (rows t))

offsets-test : (t : List ℕ)
    → T (eqb (bounds_offset t) 0 && eqb (rows_offset t) (8 * variables t) && eqb (length_given t) (book_length (variables t) (rows t))) ↔ Offsets t
offsets-test t =
    all_three (eqb (bounds_offset t) 0) (eqb (rows_offset t) (8 * variables t)) (eqb (length_given t) (book_length (variables t) (rows t)))
    (eqb-test (bounds_offset t) 0) (eqb-test (rows_offset t) (8 * variables t)) (eqb-test (length_given t) (book_length (variables t) (rows t)))

pub layout-test : (t : List ℕ) → (first (layout_checks t) ≡ 0) ↔ Layout t
unfolding layout_checks size_checks offset_checks
layout-test t =
    let d = first-none (layout_checks t) tt in
    let s = size-test (variables t) (rows t) in
    let o = offsets-test t in (
      (λ e. let h = d.0 e in
          let a = s.0 h.0 in
          let b = o.0 h.1.0 in
          record { some = a.0; few = a.1; few_rows = a.2; bounds_start = b.0; rows_start = b.1; ends = b.2 }),
      (λ l. d.1 (s.1 (l.some, l.few, l.few_rows), (o.1 (l.bounds_start, l.rows_start, l.ends), tt))),
    )

-- past check 3, the answer of check 4
pub layout-refused : (t : List ℕ) → first (size_checks (variables t) (rows t)) ≡ 0 → (Offsets t → ⊥) → 4 ≡ first (layout_checks t)
unfolding layout_checks size_checks offset_checks
layout-refused t s h = goes (size_checks (variables t) (rows t)) (offset_checks t) tt refl s (fails _ 4 [] (test-false _ (offsets-test t) h))

pub layout-accepted : (t : List ℕ) → first (size_checks (variables t) (rows t)) ≡ 0 → Offsets t → 0 ≡ first (layout_checks t)
unfolding layout_checks size_checks offset_checks
layout-accepted t s h = goes (size_checks (variables t) (rows t)) (offset_checks t) tt refl s (past _ 4 [] (test-true _ (offsets-test t) h) ends)

-- a book that has a trailer, which says the book's length and a layout
pub record Head (bs : List ℕ) : Type 0 where
  pub long : 16 ≤ length bs
  pub whole : length_given (trailer_of bs) ≡ length bs
  pub layout : Layout (trailer_of bs)

pub head-test : (bs : List ℕ) → (first (head_checks bs) ≡ 0) ↔ Head bs
unfolding head_checks given_length_checks layout_checks size_checks offset_checks
head-test bs =
    let t = trailer_of bs in
    let d = first-none (head_checks bs) tt in
    let k = first-none (layout_checks t) tt in
    let l = layout-test t in (
      (λ e. let h = d.0 e in
          record { long = (leb-test 16 (length bs)).0 h.0; whole = (eqb-test (length_given t) (length bs)).0 h.1.0; layout = l.0 (k.1 h.1.1) }),
      (λ h. d.1 ((leb-test 16 (length bs)).1 h.long, ((eqb-test (length_given t) (length bs)).1 h.whole, k.0 (l.1 h.layout)))),
    )

pub head-numbered : (bs : List ℕ) → T (numbered (head_checks bs))
unfolding head_checks given_length_checks layout_checks size_checks offset_checks
head-numbered bs = tt

-- the sizes and lengths of the model of a book with a layout are right
pub decoded-sizes : (bs : List ℕ) → Layout (trailer_of bs) → first (size_checks (decode bs).n (decode bs).m) ≡ 0
unfolding size_checks decode model_in
decoded-sizes bs l =
    let t = trailer_of bs in
    (first-none (size_checks (variables t) (rows t)) tt).1 ((size-test (variables t) (rows t)).1 (l.some, l.few, l.few_rows), tt)

pub decoded-lengths : (bs : List ℕ) → first (length_checks (decode bs)) ≡ 0
unfolding length_checks decode model_in
decoded-lengths bs =
    let t = trailer_of bs in
    let n = variables t in
    let m = rows t in
    (first-none (length_checks (decode bs)) tt).1 ((length-test (decode bs)).1 (length-bounds_of n m bs, length-coefs_of n m bs, length-rhs_of n m bs, length-kinds_of m), tt)

-- a book is accepted exactly if it has a head and its model is valid
pub book-test : (bs : List ℕ) → (book_fault bs ≡ 0) ↔ (Head bs × ValidModel (decode bs))
unfolding book_fault book_checks
book-test bs =
    let M = decode bs in
    let d = first-zero-append (head_checks bs) (model_number_checks M) (head-numbered bs) in
    let v = valid-checks M in (
      (λ e. let h = d.0 e in
          let k = (head-test bs).0 h.0 in
          (k, v.1 (decoded-sizes bs k.layout, decoded-lengths bs, h.1))),
      (λ h. d.1 ((head-test bs).1 h.0, (v.0 h.1).2)),
    )

-- a book with a head holds its model
pub head-holds : (bs : List ℕ) → Head bs → HoldsModel (variables (trailer_of bs)) (rows (trailer_of bs)) bs
unfolding book_length
head-holds bs h =
    let l = h.layout in
    record { few = l.few; few_rows = l.few_rows; body = omega (arith, h.whole, l.ends) }

-- ---- reading and writing

pub model-numbered : (M : Model) (fits : Bool) → T (numbered (model_checks M none fits))
unfolding model_checks size_checks length_checks table_length_checks box_checks number_checks table_byte_checks
model-numbered M fits = tt

-- a book that is read is accepted, and the buffers have its model's lengths
pub read-passed : (bs : List ℕ) (B : List ℤ) (A : Rows) → read_fault bs B A ≡ 0
    → Head bs × LengthsFit (model_of (decode bs).n (decode bs).m B A) × (book_fault bs ≡ 0)
unfolding read_fault read_checks book_fault book_checks length_checks
read-passed bs B A e =
    let M = decode bs in
    let lent = model_of M.n M.m B A in
    let L = length_checks lent in
    let h = (first-zero-append (head_checks bs) (L ++ model_number_checks M) (head-numbered bs)).0 e in
    let k = (first-zero-append L (model_number_checks M) tt).0 h.1 in (
      (head-test bs).0 h.0,
      (length-test lent).0 ((first-none L tt).0 k.0).0,
      (first-zero-append (head_checks bs) (model_number_checks M) (head-numbered bs)).1 (h.0, k.1),
    )

-- what check 17 asks
pub inequalities-test : (K : List ℕ) → T (inequalities K) ↔ ((i : ℕ) → i < length K → T (not (eqb (get_or K i 0) 1)))
unfolding inequalities
inequalities-test K = all-test (length K) (λ i. not (eqb (get_or K i 0) 1)) (λ i. ((λ t. t), (λ t. t)))

-- a model that is written is valid and has no = row, and the buffer has its book's length
pub write-passed : (M : Model) (bs : List ℕ) → write_fault M bs ≡ 0 → FirstEdition M × (length bs ≡ book_length M.n M.m)
unfolding write_fault write_checks first_edition_checks model_fault is_equality
write-passed M bs e =
    let k = book_length M.n M.m in
    let fits = eqb (length bs) k in
    let K = M.rows.kinds in
    let p = (first-zero-append (model_checks M none fits) (first_edition_checks K) (model-numbered M fits)).0 e in
    let h = (fits-fault-none M fits).0 p.0 in
    let q = (inequalities-test K).0 ((first-none (first_edition_checks K) tt).0 p.1).0 in
    (record { valid = h.0; inequality = λ i l. q i (omega (arith, h.0.kinds_len)) }, (eqb-test (length bs) k).0 h.1)

-- the model's chain answers for the call: beyond the limits of n and m the answer is 3, whatever is said of the book's length
pub write-answers : (M : Model) (bs : List ℕ) (fits : Bool)
    → (first (size_checks M.n M.m) ≡ 0 → fits ≡ eqb (length bs) (book_length M.n M.m))
    → model_fault M none fits ≡ first (model_checks M none (eqb (length bs) (book_length M.n M.m)))
unfolding model_fault model_checks
write-answers M bs fits h = cases (ℕ_discrete (first sizes) 0)
  where
    right : Bool
    right = eqb (length bs) (book_length M.n M.m)

    sizes : List Check
    sizes = size_checks M.n M.m

    cases : Dec (first sizes ≡ 0) → model_fault M none fits ≡ model_fault M none right
    cases (yes e) = ap (λ f. model_fault M none f) (h e)
    cases (no n) = first-stop sizes _ n ∙ sym (first-stop sizes _ n)
