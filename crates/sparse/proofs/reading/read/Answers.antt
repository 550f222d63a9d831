-- `sparse::reading::read`: a refused call leaves the buffers; an accepted one fills them with the book's model, and the round
-- trip follows from the other promises (`sparse-reads-back`). Assumes nothing.
use Rattle.std.proofs.Common.{ℕ, ◌∙◌, ◌≡◌, ap, ap₂, sym, arith}
use Rattle.std.proofs.lemmas.Result.{err_from_is_err_and}
use Rattle.model.specs.Refusals.{number_of}
use Rattle.model.specs.Rows.{rows_of}
use Rattle.model.proofs.RefusalLaws.{number_of-ne0}
use Rattle.little_endian.specs.Bytes.{Bytes}
use Rattle.book.specs.Answers.{refused, sizes_answer, sizes_are}
use Rattle.book.proofs.AnswerLaws.{accepted-by, becomes, refused-by, stays}
use Rattle.book.specs.Book.{bounds_of}
use Rattle.sparse_layout.specs.SparseBook.{decode_sparse, sparse_coefs_of, sparse_kinds_of, sparse_model_in, sparse_rhs_of}
use Rattle.sparse_calls.specs.SparseCalls.{sparse_bounds_read, sparse_coefs_read, sparse_kinds_read, sparse_read_call, sparse_read_fault, sparse_rhs_read}
use Rattle.sparse_calls.proofs.SparseCallLaws.{layout-holds, sparse-read-passed, sparse-reads-back}
use Rattle.sparse.proofs.reading.read.Goals as goal

pub returns-in_err-check_book : goal.returns-in_err-check_book
unfolding sizes_answer sparse_read_call sparse_bounds_read sparse_coefs_read sparse_rhs_read sparse_kinds_read
returns-in_err-check_book c =
    let q = err_from_is_err_and c.from_residual.result c.from_residual.ensures.1 in
    let z = c.in_err-check_book.field-0.0 in
    let e = c.in_err-check_book.ensures in
    let n = number_of-ne0 z in
    let a = c.args in
    let bs = a.book.now in
    let B = a.bounds.now in
    let A = rows_of a.coefs.now a.rhs.now a.kinds.now in
    let known : Bytes bs = record { below = λ i. omega (arith, c.type_inv.book i) } in
    let f = sparse_read_fault bs B A in
    let M = decode_sparse bs in
    let said : refused (number_of z) ≡ sparse_read_call bs B A = refused-by {fault = f} e n (sizes_are M.n M.m) in
    let kept₁ = stays {fault = f} e n B M.box in
    let kept₂ = stays {fault = f} e n A.coefs M.rows.coefs in
    let kept₃ = stays {fault = f} e n A.rhs M.rows.rhs in
    let kept₄ = stays {fault = f} e n A.kinds M.rows.kinds in
    rw (q.1, q.2) (record {
      answer = said;
      bounds_read = kept₁;
      coefs_read = kept₂;
      rhs_read = kept₃;
      kinds_read = kept₄;
      round_trip = λ n m h. sparse-reads-back bs B _ A A known kept₁ kept₂ kept₃ kept₄ n m (sym said ∙ h);
    })

-- the book is laid out
pub trailer_u16-n-requires : goal.trailer_u16-n-requires
trailer_u16-n-requires c = omega (arith, (sparse-read-passed _ _ _ (sym c.in_ok-check_book.ensures)).0.head.long)

pub trailer_u16-m-requires : goal.trailer_u16-m-requires
trailer_u16-m-requires c = omega (arith, (sparse-read-passed _ _ _ (sym c.in_ok-check_book.ensures)).0.head.long)

-- the sizes that are read are the book's: the rows lie within it, and the buffers have their lengths
pub read_numbers-requires : goal.read_numbers-requires
unfolding decode_sparse sparse_model_in
read_numbers-requires c =
    let a = c.args in
    let known : Bytes a.book.now = record { below = λ i. omega (arith, c.type_inv.book i) } in
    let h = sparse-read-passed a.book.now a.bounds.now (rows_of a.coefs.now a.rhs.now a.kinds.now) (sym c.in_ok-check_book.ensures) in
    rw (c.trailer_u16-n.ensures, c.trailer_u16-m.ensures) (record { layout = layout-holds a.book.now known h.0; lengths = h.1 })

-- the buffers hold the book's model
pub returns : goal.returns
unfolding sizes_answer sparse_read_call sparse_bounds_read sparse_coefs_read sparse_rhs_read sparse_kinds_read decode_sparse sparse_model_in
returns c =
    let a = c.args in
    let bs = a.book.now in
    let B = a.bounds.now in
    let A = rows_of a.coefs.now a.rhs.now a.kinds.now in
    let M = decode_sparse bs in
    let n = c.trailer_u16-n.ensures in
    let m = c.trailer_u16-m.ensures in
    let known : Bytes bs = record { below = λ i. omega (arith, c.type_inv.book i) } in
    let z = sym c.in_ok-check_book.ensures in
    let e = c.read_numbers.ensures in
    let said = ap₂ sizes_are n m ∙ accepted-by z (sizes_are M.n M.m) in
    let new₁ = e.bounds_read ∙ ap (λ (k : ℕ). bounds_of k bs) n ∙ becomes z B M.box in
    let new₂ = e.coefs_read ∙ ap₂ (λ (j k : ℕ). sparse_coefs_of j k bs) n m ∙ becomes z A.coefs M.rows.coefs in
    let new₃ = e.rhs_read ∙ ap₂ (λ (j k : ℕ). sparse_rhs_of j k bs) n m ∙ becomes z A.rhs M.rows.rhs in
    let new₄ = e.kinds_read ∙ ap₂ (λ (j k : ℕ). sparse_kinds_of j k bs) n m ∙ becomes z A.kinds M.rows.kinds in
    record {
      answer = said;
      bounds_read = new₁;
      coefs_read = new₂;
      rhs_read = new₃;
      kinds_read = new₄;
      round_trip = λ p q h. sparse-reads-back bs B _ A (rows_of _ _ _) known new₁ new₂ new₃ new₄ p q (sym said ∙ h);
    }
