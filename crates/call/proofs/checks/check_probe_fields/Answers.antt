-- `call::checks::check_probe_fields`: the checks of the variable, and where they find nothing those of the budget. Assumes nothing.
use Rattle.std.proofs.lemmas.Result.{err_from_is_err_and}
use borrow.Author.Rules.{rules}
use Rattle.model.specs.Checks.{first}
use Rattle.model.proofs.CheckLaws.{accepts, refuses}
use Rattle.call.specs.FieldChecks.{budget_checks, probe_checks, variable_checks}
use Rattle.call.proofs.checks.check_probe_fields.Goals as goal

pub returns-in_err-check_variable : goal.returns-in_err-check_variable
unfolding probe_checks
returns-in_err-check_variable c =
    let p = err_from_is_err_and c.from_residual.result c.from_residual.ensures.1 in
    let a = c.args in
    rw (p.1, p.2) (refuses (variable_checks a.n a.bounds.now a.variable) (budget_checks a.budget) _ c.in_err-check_variable.ensures)

pub returns : goal.returns
unfolding probe_checks variable_checks
returns c =
    let e = c in
    let a = e.args in
    accepts (variable_checks a.n a.bounds.now a.variable) (budget_checks a.budget) tt c.in_ok-check_variable.ensures c.check_budget.ensures
