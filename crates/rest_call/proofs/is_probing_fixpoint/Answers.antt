-- `rest_call::is_probing_fixpoint` is `rest`: refused by the model's check, else what the test of the box found (`rest_promises`,
-- which the function names).
use Rattle.std.proofs.Common.{[], sym}
use Rattle.std.proofs.lemmas.Result.{err_from_is_err_and}
use Rattle.model.specs.Rows.{rows_of}
use Rattle.model.specs.State.{state_of}
use Rattle.model.proofs.RefusalLaws.{number_of-ne0}
use Rattle.model.specs.Model.{model_of}
use Rattle.model.proofs.CheckLaws.{fault-none}
use Rattle.semantics.specs.RestTest.{rest_fault}
use Rattle.reducer.specs.OpenCalls.{rest_verdict}
use Rattle.reducer.proofs.OpenCallLaws.{rest-promised, rest-refused}
use Rattle.rest_call.proofs.is_probing_fixpoint.Goals as goal

pub returns-in_err-check_model : goal.returns-in_err-check_model
unfolding rest_verdict rest_fault state_of
returns-in_err-check_model c =
    let a = c.args in
    let s = state_of a.n a.m a.bounds.now (rows_of a.coefs.now a.rhs.now a.kinds.now) [] in
    let p = err_from_is_err_and c.from_residual.result c.from_residual.ensures.1 in
    let q = rest-promised s (rest-refused s c.in_err-check_model.ensures (number_of-ne0 c.in_err-check_model.field-0.0)) in
    record { defined = rw (p.1, p.2) q.0; meaning = rw (p.1, p.2) q.1.0; found = rw (p.1, p.2) q.1.1 }

pub test_rest-requires : goal.test_rest-requires
test_rest-requires c =
    let a = c.args in
    (fault-none (model_of a.n a.m a.bounds.now (rows_of a.coefs.now a.rhs.now a.kinds.now))).0 (sym c.in_ok-check_model.ensures)
