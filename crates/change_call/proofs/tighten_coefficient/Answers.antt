-- `change_call::tighten_coefficient` is `perform` of a sharpen: refused by the call's check, else the row's own answer, with what it left
-- of the row in its place (`tightening_promises`, which the function names).
use Rattle.std.proofs.Common.{[], sym}
use Rattle.std.proofs.lemmas.Result.{err_from_is_err_and}
use Rattle.model.specs.Rows.{rows_of}
use Rattle.model.specs.State.{state_of}
use Rattle.model.proofs.RefusalLaws.{number_of-ne0}
use Rattle.semantics.specs.Call.{call_of, has_row, has_variable, kind_of}
use Rattle.call_laws.proofs.Accepted.{accepted}
use Rattle.reducer.specs.OpenCalls.{tighten_answer}
use Rattle.reducer.proofs.OpenCallLaws.{on_row, perform-refused, promised}
use Rattle.matrix_view.proofs.RowInLaws.{row_in, valid-row}
use Rattle.change_call.proofs.tighten_coefficient.Goals as goal

pub returns-in_err-check_tightening : goal.returns-in_err-check_tightening
unfolding tighten_answer call_of
returns-in_err-check_tightening c =
    let a = c.args in
    let s = state_of a.n a.m a.bounds.now (rows_of a.coefs.now a.rhs.now a.kinds.now) [] in
    let k = call_of s 4 a.row a.variable 0 in
    let p = err_from_is_err_and c.from_residual.result c.from_residual.ensures.1 in
    let q = promised s s k _ (perform-refused s k c.in_err-check_tightening.ensures (number_of-ne0 c.in_err-check_tightening.field-0.0)) in
    record { defined = rw (p.1, p.2) q.0; meaning = rw (p.1, p.2) q.1 }

pub tighten_coefficient_at-outcome-requires : goal.tighten_coefficient_at-outcome-requires
unfolding kind_of has_row has_variable state_of call_of
tighten_coefficient_at-outcome-requires c =
    let a = c.args in
    let A = rows_of a.coefs.now a.rhs.now a.kinds.now in
    let s = state_of a.n a.m a.bounds.now A [] in
    let v = on_row a.n a.m a.bounds.now A 4 a.row a.variable tt (sym c.in_ok-check_tightening.ensures) in
    record {
      fact = (row_in v.0 a.row v.1, valid-row v.0 a.row v.1 v.0.box);
      k_lt_n = (accepted s (call_of s 4 a.row a.variable 0) (sym c.in_ok-check_tightening.ensures)).variable tt;
    }
