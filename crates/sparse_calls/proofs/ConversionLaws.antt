-- What the checks of a conversion come to: past the layout's checks they are those of the call that writes the model. And the round
-- trips of the conversions.
use Prim.Native.Nat.{ℕ}
use lib.Dec.{eqb}
use lib.ListN.{length}
use mathlib.Core.Bool.{Bool, cond, true}
use mathlib.Core.List.{List, [], ◌∷◌, append-nil}
use mathlib.Core.Path.{◌∙◌, ◌≡◌, ap, sym}
use native.Mathlib.Omega.{arith}
use Rattle.model.specs.Checks.{Check, box_checks, first, length_checks, model_checks, model_fault, must, none, number_checks, size_checks, table_byte_checks, table_length_checks}
use Rattle.model.specs.Model.{Model}
use Rattle.model.proofs.CheckLaws.{first-append, first-go, first-zero-append, stops}
use Rattle.little_endian.specs.Bytes.{Bytes}
use Rattle.book.specs.Answers.{refused, write_fault, written}
use Rattle.book.specs.Book.{book_length, decode}
use Rattle.book.specs.BookChecks.{book_checks, book_fault, first_edition_checks, head_checks, model_number_checks, write_checks}
use Rattle.book.specs.RoundTrips.{FirstEdition}
use Rattle.book.proofs.AcceptLaws.{decoded-lengths, decoded-sizes, head-numbered, head-test, model-numbered, write-passed}
use Rattle.book.proofs.AnswerLaws.{becomes}
use Rattle.book.proofs.RoundTripLaws.{unless-accepted}
use Rattle.sparse_layout.specs.SparseBook.{decode_sparse}
use Rattle.sparse_layout.specs.SparseChecks.{sparse_checks, sparse_fault, sparse_layout_checks}
use Rattle.sparse_layout.specs.SparseTrips.{to_first, to_sparse}
use Rattle.sparse_layout.proofs.SparseAcceptLaws.{sparse-layout-numbered, sparse-layout-test, sparse-lengths, sparse-sizes}
use Rattle.sparse_layout.proofs.SparseTripLaws.{first-sparse-first, sparse-first-sparse}
use Rattle.sparse_calls.specs.SparseCalls.{sparse_write_fault, to_first_call, to_first_checks, to_first_fault, to_first_written, to_sparse_call, to_sparse_checks, to_sparse_fault, to_sparse_written}

-- the model's chain past its sizes and lengths
model-tail : (M : Model) (fits : Bool) → first (size_checks M.n M.m) ≡ 0 → first (length_checks M) ≡ 0
    → model_fault M none fits ≡ first (must fits 5 ∷ model_number_checks M)
unfolding model_fault model_checks size_checks length_checks table_length_checks table_byte_checks
model-tail M fits s l =
    first-go (size_checks M.n M.m) _ tt s ∙ first-go (length_checks M) _ tt l
    ∙ ap (λ (ys : List Check). first (must fits 5 ∷ ys)) (append-nil (model_number_checks M))

-- ---- to the sparse edition

pub to-sparse-same : (bs cs : List ℕ) → first (head_checks bs) ≡ 0 → sparse_write_fault (decode bs) cs ≡ to_sparse_fault bs cs
unfolding sparse_write_fault to_sparse_fault to_sparse_checks
to-sparse-same bs cs e =
    model-tail (decode bs) _ (decoded-sizes bs ((head-test bs).0 e).layout) (decoded-lengths bs)
    ∙ sym (first-go (head_checks bs) _ (head-numbered bs) e)

pub to-sparse-refused : (bs cs : List ℕ) {r : ℕ} → r ≡ first (head_checks bs) → (r ≡ 0 → ⊥) → r ≡ to_sparse_fault bs cs
unfolding to_sparse_fault to_sparse_checks
to-sparse-refused bs cs e n = stops _ _ e n

pub length-same : (bs : List ℕ) → first (head_checks bs) ≡ 0 → model_fault (decode bs) none true ≡ book_fault bs
unfolding book_fault book_checks first
length-same bs e =
    model-tail (decode bs) true (decoded-sizes bs ((head-test bs).0 e).layout) (decoded-lengths bs)
    ∙ sym (first-go (head_checks bs) _ (head-numbered bs) e)

pub length-refused-head : (bs : List ℕ) {r : ℕ} → r ≡ first (head_checks bs) → (r ≡ 0 → ⊥) → r ≡ book_fault bs
unfolding book_fault book_checks
length-refused-head bs e n = stops _ _ e n

never : (k : ℕ) → refused k ≡ written → ⊥
never k e = let z : ◌≡◌ {A = ℕ} 0 1 = cc in omega arith

-- past a check of the length
past-length : (ok : Bool) (ys : List Check) → first (must ok 5 ∷ ys) ≡ 0 → first ys ≡ 0
past-length ok ys e = ((first-zero-append (must ok 5 ∷ []) ys tt).0 e).1

-- a book that is converted is accepted
first-accepted : (bs cs : List ℕ) → to_sparse_fault bs cs ≡ 0 → book_fault bs ≡ 0
unfolding to_sparse_fault to_sparse_checks book_fault book_checks
first-accepted bs cs z =
    let d = head-numbered bs in
    let x = (first-zero-append (head_checks bs) _ d).0 z in
    (first-zero-append (head_checks bs) (model_number_checks (decode bs)) d).1 (x.0, past-length _ _ x.1)

-- "An accepted first-edition book comes back byte for byte"
pub to-sparse-back : (bs cs ds : List ℕ) → Bytes bs → ds ≡ to_sparse_written bs cs → to_sparse_call bs cs ≡ written → (sparse_fault ds ≡ 0) × (to_first ds ≡ bs)
unfolding to_sparse_call to_sparse_written
to-sparse-back bs cs ds b e a =
    let z = (unless-accepted (to_sparse_fault bs cs) written written never a).0 in
    let r = first-sparse-first bs (record { bytes = b; faultless = first-accepted bs cs z }) in
    rw (e, ← becomes z cs (to_sparse bs)) (r.0.faultless, r.1)

-- ---- to the first edition

pub to-first-same : (bs cs : List ℕ) → first (sparse_layout_checks bs) ≡ 0 → write_fault (decode_sparse bs) cs ≡ to_first_fault bs cs
unfolding write_fault write_checks to_first_fault to_first_checks model_fault box_checks number_checks
to-first-same bs cs e =
    let M = decode_sparse bs in
    let fits = eqb (length cs) (book_length M.n M.m) in
    let E = first_edition_checks M.rows.kinds in
    let l = (sparse-layout-test bs).0 e in
    first-append (model_checks M none fits) E (model-numbered M fits)
    ∙ ap (λ (r : ℕ). cond (eqb r 0) (first E) r) (model-tail M fits (sparse-sizes bs l.head) (sparse-lengths bs))
    ∙ sym (first-append (must fits 5 ∷ model_number_checks M) E tt)
    ∙ sym (first-go (sparse_layout_checks bs) _ (sparse-layout-numbered bs) e)

pub to-first-refused : (bs cs : List ℕ) {r : ℕ} → r ≡ first (sparse_layout_checks bs) → (r ≡ 0 → ⊥) → r ≡ to_first_fault bs cs
unfolding to_first_fault to_first_checks
to-first-refused bs cs e n = stops _ _ e n

pub sparse-accepted : (bs cs : List ℕ) → to_first_fault bs cs ≡ 0 → (sparse_fault bs ≡ 0) × FirstEdition (decode_sparse bs)
unfolding to_first_fault to_first_checks sparse_fault sparse_checks box_checks number_checks
sparse-accepted bs cs z =
    let M = decode_sparse bs in
    let d = sparse-layout-numbered bs in
    let N = model_number_checks M in
    let x = (first-zero-append (sparse_layout_checks bs) _ d).0 z in
    let y = (first-zero-append N (first_edition_checks M.rows.kinds) tt).0 (past-length _ _ x.1) in
    ((first-zero-append (sparse_layout_checks bs) N d).1 (x.0, y.0), (write-passed M cs (to-first-same bs cs x.0 ∙ z)).0)

-- ", and so does an accepted sparse one whose rows are all ≤."
pub to-first-back : (bs cs ds : List ℕ) → Bytes bs → ds ≡ to_first_written bs cs → to_first_call bs cs ≡ written → (book_fault ds ≡ 0) × (to_sparse ds ≡ bs)
unfolding to_first_call to_first_written
to-first-back bs cs ds b e a =
    let z = (unless-accepted (to_first_fault bs cs) written written never a).0 in
    let h = sparse-accepted bs cs z in
    let r = sparse-first-sparse bs (record { bytes = b; faultless = h.0 }) h.1 in
    rw (e, ← becomes z cs (to_first bs)) (r.0.faultless, r.1)
