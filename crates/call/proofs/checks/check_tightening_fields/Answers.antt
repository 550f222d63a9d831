-- `call::checks::check_tightening_fields`: the check of the row, and where it finds nothing those of the variable. Assumes nothing.
use Rattle.std.proofs.lemmas.Result.{err_from_is_err_and}
use borrow.Author.Rules.{rules}
use Rattle.model.specs.Checks.{first}
use Rattle.model.proofs.CheckLaws.{accepts, refuses}
use Rattle.call.specs.FieldChecks.{row_checks, tightening_checks, variable_checks}
use Rattle.call.proofs.checks.check_tightening_fields.Goals as goal

pub returns-in_err-check_row : goal.returns-in_err-check_row
unfolding tightening_checks
returns-in_err-check_row c =
    let p = err_from_is_err_and c.from_residual.result c.from_residual.ensures.1 in
    let a = c.args in
    rw (p.1, p.2) (refuses (row_checks a.m a.row) (variable_checks a.n a.bounds.now a.variable) _ c.in_err-check_row.ensures)

pub returns : goal.returns
unfolding tightening_checks row_checks
returns c =
    let e = c in
    let a = e.args in
    accepts (row_checks a.m a.row) (variable_checks a.n a.bounds.now a.variable) tt c.in_ok-check_row.ensures c.check_variable.ensures
