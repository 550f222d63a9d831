-- `open_checks::check_probe`: the checks of model and table, then those of variable and budget, which look at neither rows nor table.
use Rattle.std.proofs.Common.{◌∙◌, refl, sym}
use Rattle.std.proofs.lemmas.Result.{err_from_is_err_and}
use Rattle.model.specs.Model.{model_of}
use Rattle.model.specs.Rows.{rows_of}
use Rattle.model.specs.State.{state_of}
use Rattle.model.proofs.CheckLaws.{table-fault-none}
use Rattle.model.proofs.RefusalLaws.{number_of-ne0}
use Rattle.semantics.specs.Call.{has_table, kind_of}
use Rattle.semantics.specs.CallChecks.{lent_table}
use Rattle.call.proofs.FieldLaws.{own-probe}
use Rattle.open_checks.proofs.RefusalLaws.{model-refuses, own-fault}
use Rattle.open_checks.proofs.check_probe.Goals as goal

pub returns-in_err-check_model_with_table : goal.returns-in_err-check_model_with_table
unfolding state_of lent_table kind_of has_table
returns-in_err-check_model_with_table c =
    let a = c.args in
    let s = state_of a.n a.m a.bounds.now (rows_of a.coefs.now a.rhs.now a.kinds.now) a.table.now in
    let p = err_from_is_err_and c.from_residual.result c.from_residual.ensures.1 in
    rw (p.1, p.2) (model-refuses s 3 0 a.variable a.budget c.in_err-check_model_with_table.ensures (number_of-ne0 _))

pub check_probe_fields-requires : goal.check_probe_fields-requires
check_probe_fields-requires c =
    let a = c.args in
    let v = ((table-fault-none (model_of a.n a.m a.bounds.now (rows_of a.coefs.now a.rhs.now a.kinds.now)) a.table.now).0
    (sym c.in_ok-check_model_with_table.ensures)).0 in
    record { valid_box = v.box; n_nonzero = v.some }

pub returns : goal.returns
unfolding state_of lent_table kind_of has_table
returns c =
    let a = c.args in
    let s = state_of a.n a.m a.bounds.now (rows_of a.coefs.now a.rhs.now a.kinds.now) a.table.now in
    own-fault s 3 0 a.variable a.budget c.in_ok-check_model_with_table.ensures refl (c.check_probe_fields.ensures ∙ own-probe s a.variable a.budget)
