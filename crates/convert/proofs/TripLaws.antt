-- What is converted comes back: by the round trips of the two editions, since an accepted sparse book is taken for one. Assumes nothing.
use Prim.Native.Nat.{◌≤◌, ℕ}
use borrow.Author.Tests.{eq-eqb, le-leb}
use lib.Dec.{eqb}
use lib.ListN.{length}
use mathlib.Core.Bool.{false, true}
use mathlib.Core.List.{List, ◌++◌, ◌∷◌}
use mathlib.Core.Path.{◌∙◌, ◌≡◌, ap, refl, sym}
use native.Mathlib.Omega.{arith}
use Rattle.model.specs.Checks.{box_checks, must, number_checks}
use Rattle.model.specs.Rows.{is_equality}
use Rattle.model.proofs.CheckLaws.{first-none, first-zero-append, past}
use Rattle.book.specs.Book.{book_length, decode}
use Rattle.book.specs.BookChecks.{book_fault, first_edition_checks, model_number_checks}
use Rattle.book.specs.RoundTrips.{Accepted, FirstEdition}
use Rattle.book.proofs.AcceptLaws.{inequalities-test}
use Rattle.book.proofs.RoundTripLaws.{writes-read}
use Rattle.sparse_layout.specs.SparseBook.{decode_sparse, sparse_model_in}
use Rattle.sparse_layout.specs.SparseChecks.{sparse_checks, sparse_fault, sparse_layout_checks}
use Rattle.sparse_layout.specs.SparseTrips.{SparseAccepted, to_first, to_sparse}
use Rattle.sparse_layout.proofs.SparseAcceptLaws.{sparse-layout-numbered, sparse-test}
use Rattle.sparse_layout.proofs.SparseEncodeLaws.{length-encode_sparse, sparse_length-below}
use Rattle.sparse_layout.proofs.SparseTripLaws.{first-sparse-first, no-rows-same, sparse-first-sparse, sparse-reads-written, sparse-writes-read}
use Rattle.sparse_calls.specs.SparseCalls.{to_first_checks}
use Rattle.convert.specs.Output.{first_edition, is_sparse, max_sparse, output, sparse_edition, to_first_number}
use Rattle.convert.specs.Trips.{FirstComesBack, NoRowsStay, SparseComesBack}
use Rattle.convert.proofs.ConvertLaws.{book-when}

-- an accepted book of the first edition is converted to the sparse one
output-first : (bs : List ℕ) → book_fault bs ≡ 0 → is_sparse bs ≡ false → output bs ≡ to_sparse bs
unfolding output sparse_edition
output-first bs z s = rw s (sym (book-when z (to_sparse bs)))

-- an accepted sparse book is taken for one: it is not too long
pub accepted-is-sparse : (bs : List ℕ) → SparseAccepted bs → is_sparse bs ≡ true
unfolding is_sparse decode_sparse sparse_model_in
accepted-is-sparse bs a =
    let h = ((sparse-test bs).0 a.faultless).0.head in
    let M = decode_sparse bs in
    let l : length bs ≤ max_sparse =
    omega (arith, ap length (sparse-writes-read bs a).1, length-encode_sparse M, sparse_length-below M h.few h.few_rows) in
    rw (eq-eqb (sparse_fault bs) 0 a.faultless, le-leb (length bs) max_sparse l)

-- an accepted sparse book without an = row is not refused on the way to the first edition
not-refused : (cs : List ℕ) → sparse_fault cs ≡ 0 → FirstEdition (decode_sparse cs) → to_first_number cs ≡ 0
unfolding to_first_number to_first_checks sparse_fault sparse_checks first_edition_checks is_equality box_checks number_checks
not-refused cs z f =
    let M = decode_sparse cs in
    let L = book_length M.n M.m in
    let K = M.rows.kinds in
    let N = model_number_checks M in
    let d = sparse-layout-numbered cs in
    let h = (first-zero-append (sparse_layout_checks cs) N d).0 z in
    let q = (first-none (first_edition_checks K) tt).1 ((inequalities-test K).1 (λ i l. f.inequality i (omega (arith, f.valid.kinds_len))), tt) in
    (first-zero-append (sparse_layout_checks cs) (must (eqb L L) 5 ∷ (N ++ first_edition_checks K)) d).1
    (h.0, sym (past (eqb L L) 5 _ (eq-eqb L L refl) (sym ((first-zero-append N (first_edition_checks K) tt).1 (h.1, q)))))

-- so without an = row it is converted to the first edition
output-sparse : (bs : List ℕ) → SparseAccepted bs → FirstEdition (decode_sparse bs) → output bs ≡ to_first bs
unfolding output first_edition
output-sparse bs a f = rw (accepted-is-sparse bs a) (sym (book-when (not-refused bs a.faultless f) (to_first bs)))

pub sparse-comes-back : SparseComesBack
sparse-comes-back bs a f s =
    let r = sparse-first-sparse bs a f in
    ap output (output-sparse bs a f) ∙ output-first (to_first bs) r.0.faultless s ∙ r.1

-- the sparse edition of an accepted book holds its model
same-model : (bs : List ℕ) → Accepted bs → decode_sparse (to_sparse bs) ≡ decode bs
unfolding to_sparse
same-model bs a = (sparse-reads-written (decode bs) (writes-read bs a).0.valid).1

pub first-comes-back : FirstComesBack
first-comes-back bs a s =
    let r = first-sparse-first bs a in
    ap output (output-first bs a.faultless s) ∙ output-sparse (to_sparse bs) r.0 (rw (same-model bs a) (writes-read bs a).0) ∙ r.1

-- with no rows the two editions of a model are the same bytes, so the sparse edition accepts them
no_rows : (bs : List ℕ) → Accepted bs → (decode bs).m ≡ 0 → to_sparse bs ≡ bs
unfolding to_sparse
no_rows bs a e = no-rows-same (decode bs) e ∙ (writes-read bs a).1

pub no-rows-stay : NoRowsStay
no-rows-stay bs a e =
    let r = first-sparse-first bs a in
    let same : to_sparse bs ≡ bs = no_rows bs a e in
    let b : SparseAccepted bs = rw same at r.0 in
    let f : FirstEdition (decode_sparse bs) = rw (ap decode_sparse (sym same) ∙ same-model bs a) (writes-read bs a).0 in
    output-sparse bs b f ∙ ap to_first (sym same) ∙ r.1
