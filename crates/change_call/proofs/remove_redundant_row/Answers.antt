-- `change_call::remove_redundant_row` is `perform` of a drop: refused by the call's check, else the row's own answer, with what it left of
-- the row in its place (`removal_promises`, which the function names).
use Rattle.std.proofs.Common.{[], sym}
use Rattle.std.proofs.lemmas.Result.{err_from_is_err_and}
use Rattle.model.specs.Rows.{rows_of}
use Rattle.model.specs.State.{state_of}
use Rattle.model.proofs.RefusalLaws.{number_of-ne0}
use Rattle.semantics.specs.Call.{call_of, has_row, kind_of}
use Rattle.reducer.specs.OpenCalls.{remove_answer}
use Rattle.reducer.proofs.OpenCallLaws.{on_row, perform-refused, promised}
use Rattle.matrix_view.proofs.RowInLaws.{row_in, valid-row}
use Rattle.change_call.proofs.remove_redundant_row.Goals as goal

pub returns-in_err-check_row_call : goal.returns-in_err-check_row_call
unfolding remove_answer call_of
returns-in_err-check_row_call c =
    let a = c.args in
    let s = state_of a.n a.m a.bounds.now (rows_of a.coefs.now a.rhs.now a.kinds.now) [] in
    let k = call_of s 5 a.row 0 0 in
    let p = err_from_is_err_and c.from_residual.result c.from_residual.ensures.1 in
    let q = promised s s k _ (perform-refused s k c.in_err-check_row_call.ensures.removed (number_of-ne0 c.in_err-check_row_call.field-0.0)) in
    record { defined = rw (p.1, p.2) q.0; meaning = rw (p.1, p.2) q.1 }

pub remove_redundant_row_at-requires : goal.remove_redundant_row_at-requires
unfolding kind_of has_row
remove_redundant_row_at-requires c =
    let a = c.args in
    let v = on_row a.n a.m a.bounds.now (rows_of a.coefs.now a.rhs.now a.kinds.now) 5 a.row 0 tt (sym c.in_ok-check_row_call.ensures.removed) in
    (row_in v.0 a.row v.1, valid-row v.0 a.row v.1 v.0.box)
