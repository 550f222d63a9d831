-- `open_checks::check_tightening`: the model's checks, then those of row and variable.
use Rattle.std.proofs.Common.{[], ◌∙◌, refl, sym}
use Rattle.std.proofs.lemmas.Result.{err_from_is_err_and}
use Rattle.model.specs.Model.{model_of}
use Rattle.model.specs.Rows.{rows_of}
use Rattle.model.specs.State.{state_of}
use Rattle.model.proofs.CheckLaws.{fault-none}
use Rattle.model.proofs.RefusalLaws.{number_of-ne0}
use Rattle.semantics.specs.Call.{has_table, kind_of}
use Rattle.call.proofs.FieldLaws.{own-tightening}
use Rattle.open_checks.proofs.RefusalLaws.{refused-first, refused-own}
use Rattle.open_checks.proofs.check_tightening.Goals as goal

pub returns-in_err-check_model : goal.returns-in_err-check_model
unfolding kind_of has_table
returns-in_err-check_model c =
    let a = c.args in
    let A = rows_of a.coefs.now a.rhs.now a.kinds.now in
    let p = err_from_is_err_and c.from_residual.result c.from_residual.ensures.1 in
    rw (p.1, p.2) (refused-first a.n a.m a.bounds.now A 4 a.row a.variable 0 tt c.in_err-check_model.ensures (number_of-ne0 _))

pub check_tightening_fields-requires : goal.check_tightening_fields-requires
check_tightening_fields-requires c =
    let a = c.args in
    let v = (fault-none (model_of a.n a.m a.bounds.now (rows_of a.coefs.now a.rhs.now a.kinds.now))).0 (sym c.in_ok-check_model.ensures) in
    record { valid_box = v.box; n_nonzero = v.some }

pub returns : goal.returns
unfolding kind_of has_table state_of
returns c =
    let a = c.args in
    let A = rows_of a.coefs.now a.rhs.now a.kinds.now in
    let s = state_of a.n a.m a.bounds.now A [] in
    refused-own a.n a.m a.bounds.now A 4 a.row a.variable 0 tt c.in_ok-check_model.ensures refl (c.check_tightening_fields.ensures ∙ own-tightening s a.row a.variable)
