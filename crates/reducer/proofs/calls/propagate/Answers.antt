-- `reducer::calls::propagate` is `perform` of a settle: refused by the call's check, else what the rows' propagation came to
-- (`rows_promises`, which the function names).
use Rattle.std.proofs.Common.{[], sym}
use Rattle.std.proofs.lemmas.Result.{err_from_is_err_and}
use Rattle.model.specs.Rows.{rows_of}
use Rattle.model.specs.State.{state_of}
use Rattle.model.proofs.RefusalLaws.{number_of-ne0}
use Rattle.semantics.specs.Call.{call_of}
use Rattle.call_laws.proofs.Accepted.{accepted}
use Rattle.reducer.specs.OpenCalls.{propagate_answer}
use Rattle.reducer.proofs.OpenCallLaws.{perform-refused, promised-ends}
use Rattle.reducer.proofs.calls.propagate.Goals as goal

pub returns-in_err-check_propagation : goal.returns-in_err-check_propagation
unfolding propagate_answer call_of
returns-in_err-check_propagation c =
    let a = c.args in
    let s = state_of a.n a.m a.bounds.now (rows_of a.coefs.now a.rhs.now a.kinds.now) [] in
    let k = call_of s 2 0 0 a.budget in
    let p = err_from_is_err_and c.from_residual.result c.from_residual.ensures.1 in
    let q = promised-ends s s k _ (perform-refused s k c.in_err-check_propagation.ensures (number_of-ne0 c.in_err-check_propagation.field-0.0)) in
    record {
      defined = rw (p.1, p.2) q.0;
      meaning = rw (p.1, p.2) q.1.0;
      ending = rw (p.1, p.2) q.1.1;
    }

pub propagate-requires : goal.propagate-requires
unfolding state_of call_of
propagate-requires c =
    let a = c.args in
    let s = state_of a.n a.m a.bounds.now (rows_of a.coefs.now a.rhs.now a.kinds.now) [] in
    (accepted s (call_of s 2 0 0 a.budget) (sym c.in_ok-check_propagation.ensures)).model
