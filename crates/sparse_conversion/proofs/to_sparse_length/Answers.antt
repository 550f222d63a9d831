-- `sparse_conversion::to_sparse_length`: past the head's checks the answer is that of the book's model (`length-same`).
-- Assumes nothing.
use Rattle.std.proofs.Common.{ℕ, ◌∙◌, ap, ap₂, sym, arith}
use Rattle.std.proofs.lemmas.Result.{err_from_is_err_and}
use Rattle.model.proofs.RefusalLaws.{number_of-ne0}
use Rattle.book.specs.Book.{decode, model_in}
use Rattle.book.proofs.AcceptLaws.{head-holds, head-test}
use Rattle.sparse_layout.specs.SparseBook.{sparse_length}
use Rattle.sparse_calls.specs.SparseCalls.{bytes_unless, length_answer, sparse_length_call, to_sparse_length_call}
use Rattle.sparse_calls.proofs.ConversionLaws.{length-refused-head, length-same}
use Rattle.sparse_calls.proofs.SparseCallLaws.{length-refused}
use Rattle.sparse_conversion.proofs.RoomLaws.{bounds-room, coefs-room, head-limits, kinds-front, kinds-room, rhs-room}
use Rattle.sparse_conversion.proofs.to_sparse_length.Goals as goal

pub returns-in_err-check_head : goal.returns-in_err-check_head
unfolding length_answer to_sparse_length_call
returns-in_err-check_head c =
    let p = err_from_is_err_and c.from_residual.result c.from_residual.ensures.1 in
    let n = number_of-ne0 c.in_err-check_head.field-0.0 in
    rw (p.1, p.2) (length-refused (length-refused-head _ c.in_err-check_head.ensures n) n _)

-- the head's checks are passed, so n and m are within their limits
pub trailer_u16-n-requires : goal.trailer_u16-n-requires
trailer_u16-n-requires c = omega (arith, ((head-test _).0 (sym c.in_ok-check_head.ensures)).long)

pub trailer_u16-m-requires : goal.trailer_u16-m-requires
trailer_u16-m-requires c = omega (arith, ((head-test _).0 (sym c.in_ok-check_head.ensures)).long)

pub overflow_mul-width : goal.overflow_mul-width
overflow_mul-width c = omega (arith, (head-limits c.args.from.now c.in_ok-check_head.ensures c.trailer_u16-n.ensures c.trailer_u16-m.ensures))

pub overflow_mul-cells : goal.overflow_mul-cells
overflow_mul-cells c = omega (arith, (head-limits c.args.from.now c.in_ok-check_head.ensures c.trailer_u16-n.ensures c.trailer_u16-m.ensures))

pub slice_bounds-bounds-end : goal.slice_bounds-bounds-end
slice_bounds-bounds-end c = omega (arith, (head-limits c.args.from.now c.in_ok-check_head.ensures c.trailer_u16-n.ensures c.trailer_u16-m.ensures))

pub slice_bounds-measure_first-end : goal.slice_bounds-measure_first-end
slice_bounds-measure_first-end c = sym (bounds-room (head-limits c.args.from.now c.in_ok-check_head.ensures c.trailer_u16-n.ensures c.trailer_u16-m.ensures).0)

pub slice_bounds-coefs-end : goal.slice_bounds-coefs-end
slice_bounds-coefs-end c = (head-limits c.args.from.now c.in_ok-check_head.ensures c.trailer_u16-n.ensures c.trailer_u16-m.ensures).2

pub slice_bounds-measure_first-end-2 : goal.slice_bounds-measure_first-end-2
slice_bounds-measure_first-end-2 c = sym (coefs-room (head-limits c.args.from.now c.in_ok-check_head.ensures c.trailer_u16-n.ensures c.trailer_u16-m.ensures).2)

pub slice_bounds-rhs-end : goal.slice_bounds-rhs-end
slice_bounds-rhs-end c = (head-limits c.args.from.now c.in_ok-check_head.ensures c.trailer_u16-n.ensures c.trailer_u16-m.ensures).1

pub slice_bounds-measure_first-end-3 : goal.slice_bounds-measure_first-end-3
slice_bounds-measure_first-end-3 c = sym (rhs-room (head-limits c.args.from.now c.in_ok-check_head.ensures c.trailer_u16-n.ensures c.trailer_u16-m.ensures).1)

pub slice_bounds-kinds-end : goal.slice_bounds-kinds-end
slice_bounds-kinds-end c = (head-limits c.args.from.now c.in_ok-check_head.ensures c.trailer_u16-n.ensures c.trailer_u16-m.ensures).1

pub slice_bounds-measure_first-end-4 : goal.slice_bounds-measure_first-end-4
slice_bounds-measure_first-end-4 c = sym (kinds-room (head-limits c.args.from.now c.in_ok-check_head.ensures c.trailer_u16-n.ensures c.trailer_u16-m.ensures).1)

pub measure_first-requires : goal.measure_first-requires
measure_first-requires c =
    let l = (head-limits c.args.from.now c.in_ok-check_head.ensures c.trailer_u16-n.ensures c.trailer_u16-m.ensures) in
    record {
      layout = rw (c.trailer_u16-n.ensures, c.trailer_u16-m.ensures) (head-holds _ ((head-test _).0 (sym c.in_ok-check_head.ensures)));
      lengths = (bounds-room l.0, coefs-room l.2, rhs-room l.1);
      inequalities = kinds-front l.1;
    }

pub returns : goal.returns
unfolding to_sparse_length_call sparse_length_call decode
returns c =
    let bs = c.args.from.now in
    c.measure_first.ensures
    ∙ ap₂ (λ (j k : ℕ). sparse_length_call (model_in j k bs)) c.trailer_u16-n.ensures c.trailer_u16-m.ensures
    ∙ ap (λ (fault : ℕ). bytes_unless fault (sparse_length (decode bs))) (length-same bs (sym c.in_ok-check_head.ensures))
