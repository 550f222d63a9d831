-- `sparse::writing::write`: a refused call leaves the book; an accepted one writes it piece by piece (`sparse-assembled`), and the
-- round trip follows from the other promises (`sparse-writes-back`). Assumes nothing.
use Rattle.std.proofs.Common.{◌*◌, ◌-◌, ℕ, List, length, ◌∙◌, ◌≡◌, ap, ap₂, sym, arith}
use Rattle.std.proofs.lemmas.Result.{err_from_is_err_and}
use Rattle.model.specs.Box.{at}
use Rattle.model.specs.Model.{Model, model_of}
use Rattle.model.specs.Refusals.{number_of}
use Rattle.model.specs.Rows.{rows_of}
use Rattle.model.specs.Valid.{ValidModel}
use Rattle.model.proofs.RefusalLaws.{number_of-ne0}
use Rattle.book.specs.Answers.{refused, write_answer, written}
use Rattle.book.specs.Book.{bound_bytes, trailer_bytes}
use Rattle.sparse_layout.specs.SparseBook.{encode_sparse, sparse_length, sparse_row_bytes, sparse_row_bytes_at}
use Rattle.little_endian.specs.Bytes.{integer_bytes, integers_bytes}
use Rattle.little_endian.specs.Pieces.{joined, overwrite}
use Rattle.sparse_calls.specs.SparseCalls.{sparse_write_call, sparse_write_fault, sparse_written}
use Rattle.book.proofs.AnswerLaws.{accepted-by, becomes, refused-by, stays}
use Rattle.book.proofs.EncodeLaws.{length-trailer_bytes}
use Rattle.sparse_layout.proofs.SparseEncodeLaws.{sparse-assembled, sparse_length-below}
use Rattle.little_endian.proofs.PieceLaws.{length_part, overwrite-part}
use Rattle.sparse_calls.proofs.SparseCallLaws.{sparse-write-passed, sparse-writes-back}
use Rattle.sparse.proofs.writing.write.Goals as goal

pub returns-in_err-check_writing : goal.returns-in_err-check_writing
unfolding write_answer sparse_write_call sparse_written
returns-in_err-check_writing c =
    let q = err_from_is_err_and c.from_residual.result c.from_residual.ensures.1 in
    let z = c.in_err-check_writing.field-0.0 in
    let e = c.in_err-check_writing.ensures in
    let n = number_of-ne0 z in
    let a = c.args in
    let M = model_of a.n a.m a.bounds.now (rows_of a.coefs.now a.rhs.now a.kinds.now) in
    let bs = a.book.now in
    let f = sparse_write_fault M bs in
    let said : refused (number_of z) ≡ sparse_write_call M bs = refused-by {fault = f} e n written in
    let kept = stays {fault = f} e n bs (encode_sparse M) in
    rw (q.1, q.2) (record { answer = said; book_written = kept; round_trip = λ h. sparse-writes-back M bs _ kept (sym said ∙ h) })

-- the model is valid, and the book has its length
ready : (M : Model) (bs : List ℕ) → 0 ≡ sparse_write_fault M bs → ValidModel M × (length bs ≡ sparse_length M)
ready M bs e = let h = sparse-write-passed M bs (sym e) in (h.0, h.1)

-- the place of the trailer leaves 16 bytes
sixteen : (M : Model) (L : ℕ) → L ≡ sparse_length M → L - (L - 16) ≡ 16
unfolding sparse_length
sixteen M L e = omega arith

pub write_integers-requires : goal.write_integers-requires
unfolding sparse_length
write_integers-requires c = let r = ready _ _ c.in_ok-check_writing.ensures in omega (arith, r.0.box.len, r.1)

pub write_rows-requires : goal.write_rows-requires
unfolding sparse_length
write_rows-requires c =
    let r = ready _ _ c.in_ok-check_writing.ensures in
    let v = r.0 in
    (v.few, v.kinds_len ∙ sym v.rhs_len, rw v.rhs_len v.coefs_len, rw v.rhs_len (omega (arith, r.1, c.write_integers.auto.bytes)))

pub overflow_sub-end : goal.overflow_sub-end
unfolding sparse_length
overflow_sub-end c = let r = ready _ _ c.in_ok-check_writing.ensures in omega (arith, r.1, c.write_rows.auto.book, c.write_integers.auto.bytes)

-- the part lent is the trailer
pub write_trailer-requires : goal.write_trailer-requires
unfolding sparse_length
write_trailer-requires c =
    let a = c.args in
    let M = model_of a.n a.m a.bounds.now (rows_of a.coefs.now a.rhs.now a.kinds.now) in
    let r = ready M a.book.now c.in_ok-check_writing.ensures in
    let v = r.0 in
    let bs = c.write_rows.new.book in
    let kept : length bs ≡ length a.book.now = c.write_rows.auto.book ∙ c.write_integers.auto.bytes in
    (rw (sixteen M (length bs) (kept ∙ r.1)) (length_part (length bs - 16) 16 bs (omega (arith, r.1))), v.few, v.few_rows, omega (arith, r.1, sparse_length-below M v.few v.few_rows))

pub returns : goal.returns
unfolding write_answer sparse_write_call sparse_written integers_bytes bound_bytes sparse_row_bytes
returns c =
    let a = c.args in
    let M = model_of a.n a.m a.bounds.now (rows_of a.coefs.now a.rhs.now a.kinds.now) in
    let bs = a.book.now in
    let cs = c.write_rows.new.book in
    let q = length cs - 16 in
    let z = sym c.in_ok-check_writing.ensures in
    let r = ready M bs c.in_ok-check_writing.ensures in
    let v = r.0 in
    let kept : length cs ≡ length bs = c.write_rows.auto.book ∙ c.write_integers.auto.bytes in
    let body : cs ≡ overwrite (8 * M.n) (joined M.m (sparse_row_bytes_at M.n M.rows)) (overwrite 0 (bound_bytes M) bs) =
    c.write_rows.ensures
    ∙ ap₂ (λ (k : ℕ) (bs : List ℕ). overwrite (8 * M.n) (joined k (sparse_row_bytes_at M.n M.rows)) bs) v.rhs_len
    (c.write_integers.ensures ∙ ap (λ (k : ℕ). overwrite 0 (joined k (λ i. integer_bytes (at M.box i))) bs) v.box.len) in
    let call = c.write_trailer in
    let l : length call.new.trailer ≡ length cs - q = ap length call.ensures ∙ length-trailer_bytes M.n M.m (length cs) ∙ sym (sixteen M (length cs) (kept ∙ r.1)) in
    let said = accepted-by z written in
    let new =
    overwrite-part q (length cs - q) call.new.trailer cs l
    ∙ ap₂ (overwrite q) (call.ensures ∙ ap (trailer_bytes M.n M.m) (kept ∙ r.1)) body
    ∙ sparse-assembled M bs q r.1 (ap (λ (k : ℕ). k - 16) kept)
    ∙ becomes z bs (encode_sparse M) in
    record { answer = said; book_written = new; round_trip = λ h. sparse-writes-back M bs _ new (sym said ∙ h) }
