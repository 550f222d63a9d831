-- `reducer::calls::propagate_row` is `perform` of a visit: refused by the call's check, else the row's own answer on its part of the
-- matrix (`row_promises`, which the function names).
use Rattle.std.proofs.Common.{[], sym}
use Rattle.std.proofs.lemmas.Result.{err_from_is_err_and}
use Rattle.model.specs.Rows.{rows_of}
use Rattle.model.specs.State.{state_of}
use Rattle.model.proofs.RefusalLaws.{number_of-ne0}
use Rattle.semantics.specs.Call.{call_of, has_row, kind_of}
use Rattle.reducer.specs.OpenCalls.{row_answer}
use Rattle.reducer.proofs.OpenCallLaws.{on_row, perform-refused, promised}
use Rattle.matrix_view.proofs.RowInLaws.{row_in, valid-row}
use Rattle.reducer.proofs.calls.propagate_row.Goals as goal

pub returns-in_err-check_row_call : goal.returns-in_err-check_row_call
unfolding row_answer call_of
returns-in_err-check_row_call c =
    let a = c.args in
    let s = state_of a.n a.m a.bounds.now (rows_of a.coefs.now a.rhs.now a.kinds.now) [] in
    let k = call_of s 1 a.row 0 0 in
    let p = err_from_is_err_and c.from_residual.result c.from_residual.ensures.1 in
    let q = promised s s k _ (perform-refused s k c.in_err-check_row_call.ensures.propagated (number_of-ne0 c.in_err-check_row_call.field-0.0)) in
    record { defined = rw (p.1, p.2) q.0; meaning = rw (p.1, p.2) q.1 }

pub propagate_row_at-requires : goal.propagate_row_at-requires
unfolding kind_of has_row
propagate_row_at-requires c =
    let a = c.args in
    let v = on_row a.n a.m a.bounds.now (rows_of a.coefs.now a.rhs.now a.kinds.now) 1 a.row 0 tt (sym c.in_ok-check_row_call.ensures.propagated) in
    (row_in v.0 a.row v.1, valid-row v.0 a.row v.1 v.0.box)
