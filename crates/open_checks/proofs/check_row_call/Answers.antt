-- `open_checks::check_row_call`: the model's checks, then that of the row, which is all that either kind has.
use Rattle.std.proofs.Common.{[], ◌∙◌, refl}
use Rattle.std.proofs.lemmas.Result.{err_from_is_err_and}
use Rattle.model.specs.Rows.{rows_of}
use Rattle.model.specs.State.{state_of}
use Rattle.model.proofs.RefusalLaws.{number_of-ne0}
use Rattle.semantics.specs.Call.{has_table, kind_of}
use Rattle.call.proofs.FieldLaws.{own-removal, own_row}
use Rattle.open_checks.proofs.RefusalLaws.{refused-first, refused-own}
use Rattle.open_checks.proofs.check_row_call.Goals as goal

pub returns-in_err-check_model : goal.returns-in_err-check_model
unfolding kind_of has_table
returns-in_err-check_model c =
    let a = c.args in
    let A = rows_of a.coefs.now a.rhs.now a.kinds.now in
    let p = err_from_is_err_and c.from_residual.result c.from_residual.ensures.1 in
    record {
      propagated = rw (p.1, p.2) (refused-first a.n a.m a.bounds.now A 1 a.row 0 0 tt c.in_err-check_model.ensures (number_of-ne0 _));
      removed = rw (p.1, p.2) (refused-first a.n a.m a.bounds.now A 5 a.row 0 0 tt c.in_err-check_model.ensures (number_of-ne0 _));
    }

pub returns : goal.returns
unfolding kind_of has_table state_of
returns c =
    let a = c.args in
    let A = rows_of a.coefs.now a.rhs.now a.kinds.now in
    let s = state_of a.n a.m a.bounds.now A [] in
    record {
      propagated = refused-own a.n a.m a.bounds.now A 1 a.row 0 0 tt c.in_ok-check_model.ensures refl (c.check_row.ensures ∙ own_row s a.row);
      removed = refused-own a.n a.m a.bounds.now A 5 a.row 0 0 tt c.in_ok-check_model.ensures refl (c.check_row.ensures ∙ own-removal s a.row);
    }
