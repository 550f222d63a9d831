-- `sparse_conversion::to_first`: past the layout's checks the call that writes the book's model answers (`to-first-same`).
-- Assumes nothing.
use Rattle.std.proofs.Common.{ℕ, ◌∙◌, ◌≡◌, ap, ap₂, sym, arith}
use Rattle.std.proofs.lemmas.Result.{err_from_is_err_and}
use Rattle.model.specs.Refusals.{number_of}
use Rattle.model.proofs.RefusalLaws.{number_of-ne0}
use Rattle.little_endian.specs.Bytes.{Bytes}
use Rattle.book.specs.Answers.{book_written, lent, refused, unless, write_answer, write_call, written}
use Rattle.book.specs.Book.{encode}
use Rattle.book.proofs.AnswerLaws.{refused-by, stays}
use Rattle.sparse_layout.specs.SparseBook.{decode_sparse, sparse_model_in}
use Rattle.sparse_layout.specs.SparseTrips.{to_first}
use Rattle.sparse_layout.proofs.SparseAcceptLaws.{sparse-layout-test}
use Rattle.sparse_calls.specs.SparseCalls.{to_first_call, to_first_fault, to_first_written}
use Rattle.sparse_calls.proofs.ConversionLaws.{to-first-back, to-first-refused, to-first-same}
use Rattle.sparse_calls.proofs.SparseCallLaws.{layout-holds}
use Rattle.sparse_conversion.proofs.RoomLaws.{bounds-room, coefs-room, layout-limits, kinds-room, rhs-room}
use Rattle.sparse_conversion.proofs.to_first.Goals as goal

pub returns-in_err-check_layout : goal.returns-in_err-check_layout
unfolding write_answer to_first_call to_first_written
returns-in_err-check_layout c =
    let q = err_from_is_err_and c.from_residual.result c.from_residual.ensures.1 in
    let z = c.in_err-check_layout.field-0.0 in
    let bs = c.args.from.now in
    let cs = c.args.to.now in
    let known : Bytes bs = record { below = λ i. omega (arith, c.type_inv.from i) } in
    let n = number_of-ne0 z in
    let e = to-first-refused bs cs c.in_err-check_layout.ensures n in
    let said : refused (number_of z) ≡ to_first_call bs cs = refused-by {fault = to_first_fault bs cs} e n written in
    let kept = stays {fault = to_first_fault bs cs} e n cs (to_first bs) in
    rw (q.1, q.2) (record { answer = said; book_written = kept; round_trip = λ h. to-first-back bs cs _ known kept (sym said ∙ h) })

-- the layout's checks are passed, so n and m are within their limits
pub trailer_u16-n-requires : goal.trailer_u16-n-requires
trailer_u16-n-requires c = omega (arith, ((sparse-layout-test _).0 (sym c.in_ok-check_layout.ensures)).head.long)

pub trailer_u16-m-requires : goal.trailer_u16-m-requires
trailer_u16-m-requires c = omega (arith, ((sparse-layout-test _).0 (sym c.in_ok-check_layout.ensures)).head.long)

pub overflow_mul-width : goal.overflow_mul-width
overflow_mul-width c = omega (arith, (layout-limits c.args.from.now c.in_ok-check_layout.ensures c.trailer_u16-n.ensures c.trailer_u16-m.ensures))

pub overflow_mul-cells : goal.overflow_mul-cells
overflow_mul-cells c = omega (arith, (layout-limits c.args.from.now c.in_ok-check_layout.ensures c.trailer_u16-n.ensures c.trailer_u16-m.ensures))

pub slice_bounds-bounds-end : goal.slice_bounds-bounds-end
slice_bounds-bounds-end c = omega (arith, (layout-limits c.args.from.now c.in_ok-check_layout.ensures c.trailer_u16-n.ensures c.trailer_u16-m.ensures))

pub slice_bounds-convert_sparse-end : goal.slice_bounds-convert_sparse-end
slice_bounds-convert_sparse-end c = sym (bounds-room (layout-limits c.args.from.now c.in_ok-check_layout.ensures c.trailer_u16-n.ensures c.trailer_u16-m.ensures).0)

pub slice_bounds-coefs-end : goal.slice_bounds-coefs-end
slice_bounds-coefs-end c = (layout-limits c.args.from.now c.in_ok-check_layout.ensures c.trailer_u16-n.ensures c.trailer_u16-m.ensures).2

pub slice_bounds-convert_sparse-end-2 : goal.slice_bounds-convert_sparse-end-2
slice_bounds-convert_sparse-end-2 c = sym (coefs-room (layout-limits c.args.from.now c.in_ok-check_layout.ensures c.trailer_u16-n.ensures c.trailer_u16-m.ensures).2)

pub slice_bounds-rhs-end : goal.slice_bounds-rhs-end
slice_bounds-rhs-end c = (layout-limits c.args.from.now c.in_ok-check_layout.ensures c.trailer_u16-n.ensures c.trailer_u16-m.ensures).1

pub slice_bounds-convert_sparse-end-3 : goal.slice_bounds-convert_sparse-end-3
slice_bounds-convert_sparse-end-3 c = sym (rhs-room (layout-limits c.args.from.now c.in_ok-check_layout.ensures c.trailer_u16-n.ensures c.trailer_u16-m.ensures).1)

pub slice_bounds-kinds-end : goal.slice_bounds-kinds-end
slice_bounds-kinds-end c = (layout-limits c.args.from.now c.in_ok-check_layout.ensures c.trailer_u16-n.ensures c.trailer_u16-m.ensures).1

pub slice_bounds-convert_sparse-end-4 : goal.slice_bounds-convert_sparse-end-4
slice_bounds-convert_sparse-end-4 c = sym (kinds-room (layout-limits c.args.from.now c.in_ok-check_layout.ensures c.trailer_u16-n.ensures c.trailer_u16-m.ensures).1)

pub convert_sparse-requires : goal.convert_sparse-requires
convert_sparse-requires c =
    let l = (layout-limits c.args.from.now c.in_ok-check_layout.ensures c.trailer_u16-n.ensures c.trailer_u16-m.ensures) in
    record {
      layout = rw (c.trailer_u16-n.ensures, c.trailer_u16-m.ensures) (layout-holds _ (record { below = λ i. omega (arith, c.type_inv.from i) }) ((sparse-layout-test _).0 (sym c.in_ok-check_layout.ensures)));
      lengths = (bounds-room l.0, coefs-room l.2, rhs-room l.1, kinds-room l.1);
    }

pub returns : goal.returns
unfolding to_first_call to_first_written to_first write_call book_written decode_sparse
returns c =
    let bs = c.args.from.now in
    let cs = c.args.to.now in
    let n = c.trailer_u16-n.ensures in
    let m = c.trailer_u16-m.ensures in
    let known : Bytes bs = record { below = λ i. omega (arith, c.type_inv.from i) } in
    let e = c.convert_sparse.ensures in
    let same = to-first-same bs cs (sym c.in_ok-check_layout.ensures) in
    let said = e.answer ∙ ap₂ (λ (j k : ℕ). write_call (sparse_model_in j k bs) cs) n m ∙ ap (λ (fault : ℕ). unless fault written) same in
    let new = e.book_written ∙ ap₂ (λ (j k : ℕ). book_written (sparse_model_in j k bs) cs) n m ∙ ap (λ (fault : ℕ). lent fault cs (encode (decode_sparse bs))) same in
    record { answer = said; book_written = new; round_trip = λ h. to-first-back bs cs _ known new (sym said ∙ h) }
