-- `book_writing::write`: a refused call leaves the book; an accepted one writes it piece by piece (`book-assembled`), and the
-- round trip follows from the other promises (`writes-back`). Assumes nothing.
use Rattle.std.proofs.Common.{◌*◌, ◌-◌, ℕ, List, length, ◌∙◌, ◌≡◌, ap, ap₂, sym, arith}
use Rattle.std.proofs.lemmas.Result.{err_from_is_err_and}
use Rattle.model.specs.Box.{at}
use Rattle.model.specs.Model.{Model, model_of}
use Rattle.model.specs.Refusals.{number_of}
use Rattle.model.specs.Rows.{rows_of}
use Rattle.model.specs.Valid.{ValidModel}
use Rattle.model.proofs.RefusalLaws.{number_of-ne0}
use Rattle.book.specs.Answers.{book_written, refused, write_answer, write_call, write_fault, written}
use Rattle.book.specs.Book.{book_length, bound_bytes, encode, row_bytes, row_bytes_at, trailer_bytes}
use Rattle.little_endian.specs.Bytes.{integer_bytes, integers_bytes}
use Rattle.little_endian.specs.Pieces.{joined, overwrite}
use Rattle.book.proofs.AcceptLaws.{write-passed}
use Rattle.book.proofs.AnswerLaws.{accepted-by, becomes, refused-by, stays}
use Rattle.book.proofs.EncodeLaws.{book-assembled, length-below, length-trailer_bytes}
use Rattle.little_endian.proofs.PieceLaws.{length_part, overwrite-part}
use Rattle.book.proofs.RoundTripLaws.{writes-back}
use Rattle.book_writing.proofs.write.Goals as goal

pub returns-in_err-check_writing : goal.returns-in_err-check_writing
unfolding write_answer write_call book_written
returns-in_err-check_writing c =
    let q = err_from_is_err_and c.from_residual.result c.from_residual.ensures.1 in
    let z = c.in_err-check_writing.field-0.0 in
    let e = c.in_err-check_writing.ensures in
    let n = number_of-ne0 z in
    let a = c.args in
    let M = model_of a.n a.m a.bounds.now (rows_of a.coefs.now a.rhs.now a.kinds.now) in
    let bs = a.book.now in
    let f = write_fault M bs in
    let said : refused (number_of z) ≡ write_call M bs = refused-by {fault = f} e n written in
    let kept = stays {fault = f} e n bs (encode M) in
    rw (q.1, q.2) (record { answer = said; book_written = kept; round_trip = λ h. writes-back M bs _ kept (sym said ∙ h) })

-- the model is valid, and the book has its length
ready : (M : Model) (bs : List ℕ) → 0 ≡ write_fault M bs → ValidModel M × (length bs ≡ book_length M.n M.m)
ready M bs e = let h = write-passed M bs (sym e) in (h.0.valid, h.1)

-- the place of the trailer leaves 16 bytes
sixteen : (n m L : ℕ) → L ≡ book_length n m → L - (L - 16) ≡ 16
unfolding book_length
sixteen n m L e = omega arith

pub write_integers-requires : goal.write_integers-requires
unfolding book_length
write_integers-requires c = let r = ready _ _ c.in_ok-check_writing.ensures in omega (arith, r.0.box.len, r.1)

pub write_rows-requires : goal.write_rows-requires
unfolding book_length
write_rows-requires c =
    let r = ready _ _ c.in_ok-check_writing.ensures in
    let v = r.0 in (
      record { few = v.few; few_rows = omega (arith, v.rhs_len, v.few_rows); body = rw v.rhs_len (omega (arith, r.1, c.write_integers.auto.bytes)) },
      rw v.rhs_len v.coefs_len,
    )

pub overflow_sub-end : goal.overflow_sub-end
unfolding book_length
overflow_sub-end c = let r = ready _ _ c.in_ok-check_writing.ensures in omega (arith, r.1, c.write_rows.auto.book, c.write_integers.auto.bytes)

-- the part lent is the trailer
pub write_trailer-requires : goal.write_trailer-requires
unfolding book_length
write_trailer-requires c =
    let r = ready _ _ c.in_ok-check_writing.ensures in
    let v = r.0 in
    let bs = c.write_rows.new.book in
    let kept : length bs ≡ length c.args.book.now = c.write_rows.auto.book ∙ c.write_integers.auto.bytes in
    (rw (sixteen c.args.n c.args.m (length bs) (kept ∙ r.1)) (length_part (length bs - 16) 16 bs (omega (arith, r.1))), v.few, v.few_rows, omega (arith, r.1, length-below _ _ v.few v.few_rows))

pub returns : goal.returns
unfolding write_answer write_call book_written integers_bytes bound_bytes row_bytes
returns c =
    let a = c.args in
    let M = model_of a.n a.m a.bounds.now (rows_of a.coefs.now a.rhs.now a.kinds.now) in
    let bs = a.book.now in
    let cs = c.write_rows.new.book in
    let q = length cs - 16 in
    let z = sym c.in_ok-check_writing.ensures in
    let r = ready M bs c.in_ok-check_writing.ensures in
    let v = r.0 in
    let kept : length cs ≡ length bs = c.write_rows.auto.book ∙ c.write_integers.auto.bytes in
    let body : cs ≡ overwrite (8 * M.n) (joined M.m (row_bytes_at M.n M.rows)) (overwrite 0 (bound_bytes M) bs) =
    c.write_rows.ensures
    ∙ ap₂ (λ (k : ℕ) (bs : List ℕ). overwrite (8 * M.n) (joined k (row_bytes_at M.n M.rows)) bs) v.rhs_len
    (c.write_integers.ensures ∙ ap (λ (k : ℕ). overwrite 0 (joined k (λ i. integer_bytes (at M.box i))) bs) v.box.len) in
    let call = c.write_trailer in
    let l : length call.new.trailer ≡ length cs - q = ap length call.ensures ∙ length-trailer_bytes M.n M.m (length cs) ∙ sym (sixteen M.n M.m (length cs) (kept ∙ r.1)) in
    let said = accepted-by z written in
    let new =
    overwrite-part q (length cs - q) call.new.trailer cs l
    ∙ ap₂ (overwrite q) (call.ensures ∙ ap (trailer_bytes M.n M.m) (kept ∙ r.1)) body
    ∙ book-assembled M bs q r.1 (ap (λ (k : ℕ). k - 16) kept)
    ∙ becomes z bs (encode M) in
    record { answer = said; book_written = new; round_trip = λ h. writes-back M bs _ new (sym said ∙ h) }
