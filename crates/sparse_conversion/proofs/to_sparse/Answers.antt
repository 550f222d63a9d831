-- `sparse_conversion::to_sparse`: past the head's checks the call that writes the book's model answers (`to-sparse-same`).
-- Assumes nothing.
use Rattle.std.proofs.Common.{ℕ, ◌∙◌, ◌≡◌, ap, ap₂, sym, arith}
use Rattle.std.proofs.lemmas.Result.{err_from_is_err_and}
use Rattle.model.specs.Refusals.{number_of}
use Rattle.model.proofs.RefusalLaws.{number_of-ne0}
use Rattle.little_endian.specs.Bytes.{Bytes}
use Rattle.book.specs.Answers.{lent, refused, unless, write_answer, written}
use Rattle.book.specs.Book.{decode, model_in}
use Rattle.book.proofs.AcceptLaws.{head-holds, head-test}
use Rattle.book.proofs.AnswerLaws.{refused-by, stays}
use Rattle.sparse_layout.specs.SparseBook.{encode_sparse}
use Rattle.sparse_layout.specs.SparseTrips.{to_sparse}
use Rattle.sparse_calls.specs.SparseCalls.{sparse_write_call, sparse_written, to_sparse_call, to_sparse_fault, to_sparse_written}
use Rattle.sparse_calls.proofs.ConversionLaws.{to-sparse-back, to-sparse-refused, to-sparse-same}
use Rattle.sparse_conversion.proofs.RoomLaws.{bounds-room, coefs-room, head-limits, kinds-front, kinds-room, rhs-room}
use Rattle.sparse_conversion.proofs.to_sparse.Goals as goal

pub returns-in_err-check_head : goal.returns-in_err-check_head
unfolding write_answer to_sparse_call to_sparse_written
returns-in_err-check_head c =
    let q = err_from_is_err_and c.from_residual.result c.from_residual.ensures.1 in
    let z = c.in_err-check_head.field-0.0 in
    let bs = c.args.from.now in
    let cs = c.args.to.now in
    let known : Bytes bs = record { below = λ i. omega (arith, c.type_inv.from i) } in
    let n = number_of-ne0 z in
    let e = to-sparse-refused bs cs c.in_err-check_head.ensures n in
    let said : refused (number_of z) ≡ to_sparse_call bs cs = refused-by {fault = to_sparse_fault bs cs} e n written in
    let kept = stays {fault = to_sparse_fault bs cs} e n cs (to_sparse bs) in
    rw (q.1, q.2) (record { answer = said; book_written = kept; round_trip = λ h. to-sparse-back bs cs _ known kept (sym said ∙ h) })

-- the head's checks are passed, so n and m are within their limits
pub trailer_u16-n-requires : goal.trailer_u16-n-requires
trailer_u16-n-requires c = omega (arith, ((head-test _).0 (sym c.in_ok-check_head.ensures)).long)

pub trailer_u16-m-requires : goal.trailer_u16-m-requires
trailer_u16-m-requires c = omega (arith, ((head-test _).0 (sym c.in_ok-check_head.ensures)).long)

pub overflow_mul-width : goal.overflow_mul-width
overflow_mul-width c = omega (arith, (head-limits c.args.from.now c.in_ok-check_head.ensures c.trailer_u16-n.ensures c.trailer_u16-m.ensures))

pub overflow_mul-cells : goal.overflow_mul-cells
overflow_mul-cells c = omega (arith, (head-limits c.args.from.now c.in_ok-check_head.ensures c.trailer_u16-n.ensures c.trailer_u16-m.ensures))

pub slice_bounds-bounds-end : goal.slice_bounds-bounds-end
slice_bounds-bounds-end c = omega (arith, (head-limits c.args.from.now c.in_ok-check_head.ensures c.trailer_u16-n.ensures c.trailer_u16-m.ensures))

pub slice_bounds-convert_first-end : goal.slice_bounds-convert_first-end
slice_bounds-convert_first-end c = sym (bounds-room (head-limits c.args.from.now c.in_ok-check_head.ensures c.trailer_u16-n.ensures c.trailer_u16-m.ensures).0)

pub slice_bounds-coefs-end : goal.slice_bounds-coefs-end
slice_bounds-coefs-end c = (head-limits c.args.from.now c.in_ok-check_head.ensures c.trailer_u16-n.ensures c.trailer_u16-m.ensures).2

pub slice_bounds-convert_first-end-2 : goal.slice_bounds-convert_first-end-2
slice_bounds-convert_first-end-2 c = sym (coefs-room (head-limits c.args.from.now c.in_ok-check_head.ensures c.trailer_u16-n.ensures c.trailer_u16-m.ensures).2)

pub slice_bounds-rhs-end : goal.slice_bounds-rhs-end
slice_bounds-rhs-end c = (head-limits c.args.from.now c.in_ok-check_head.ensures c.trailer_u16-n.ensures c.trailer_u16-m.ensures).1

pub slice_bounds-convert_first-end-3 : goal.slice_bounds-convert_first-end-3
slice_bounds-convert_first-end-3 c = sym (rhs-room (head-limits c.args.from.now c.in_ok-check_head.ensures c.trailer_u16-n.ensures c.trailer_u16-m.ensures).1)

pub slice_bounds-kinds-end : goal.slice_bounds-kinds-end
slice_bounds-kinds-end c = (head-limits c.args.from.now c.in_ok-check_head.ensures c.trailer_u16-n.ensures c.trailer_u16-m.ensures).1

pub slice_bounds-convert_first-end-4 : goal.slice_bounds-convert_first-end-4
slice_bounds-convert_first-end-4 c = sym (kinds-room (head-limits c.args.from.now c.in_ok-check_head.ensures c.trailer_u16-n.ensures c.trailer_u16-m.ensures).1)

pub convert_first-requires : goal.convert_first-requires
convert_first-requires c =
    let l = (head-limits c.args.from.now c.in_ok-check_head.ensures c.trailer_u16-n.ensures c.trailer_u16-m.ensures) in
    record {
      layout = rw (c.trailer_u16-n.ensures, c.trailer_u16-m.ensures) (head-holds _ ((head-test _).0 (sym c.in_ok-check_head.ensures)));
      lengths = (bounds-room l.0, coefs-room l.2, rhs-room l.1);
      inequalities = kinds-front l.1;
    }

pub returns : goal.returns
unfolding to_sparse_call to_sparse_written to_sparse sparse_write_call sparse_written decode
returns c =
    let bs = c.args.from.now in
    let cs = c.args.to.now in
    let n = c.trailer_u16-n.ensures in
    let m = c.trailer_u16-m.ensures in
    let known : Bytes bs = record { below = λ i. omega (arith, c.type_inv.from i) } in
    let e = c.convert_first.ensures in
    let same = to-sparse-same bs cs (sym c.in_ok-check_head.ensures) in
    let said = e.answer ∙ ap₂ (λ (j k : ℕ). sparse_write_call (model_in j k bs) cs) n m ∙ ap (λ (fault : ℕ). unless fault written) same in
    let new = e.book_written ∙ ap₂ (λ (j k : ℕ). sparse_written (model_in j k bs) cs) n m ∙ ap (λ (fault : ℕ). lent fault cs (encode_sparse (decode bs))) same in
    record { answer = said; book_written = new; round_trip = λ h. to-sparse-back bs cs _ known new (sym said ∙ h) }
