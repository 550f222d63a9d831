-- `prepared_checks::check_propagation`: what each call says is the test of its check, in their order. Assumes nothing.
use Rattle.std.proofs.Common.{arith, sym}
use Rattle.std.proofs.lemmas.Result.{err_from_is_err_and}
use Rattle.model.specs.Checks.{box_checks}
use Rattle.model.proofs.CheckLaws.{accepts, fails, past, refuses}
use Rattle.prepared_checks.specs.Checks.{propagate_checks, propagate_fault}
use Rattle.prepared_checks.proofs.CheckLaws.{fits-ours}
use Rattle.prepared_checks.proofs.check_propagation.Goals as goal

pub returns-then-not-fits : goal.returns-then-not-fits
unfolding propagate_fault propagate_checks
returns-then-not-fits c = fails _ 5 _ (sym c.if-not-fits.ensures)

pub bounds-ws-1 : goal.bounds-ws-1
bounds-ws-1 c = omega (arith, (fits-ours c.args.ws.now c.args.bounds.now c.args.reasons.now (sym c.if-not-fits.ensures)).len)

pub returns-in_err-check_box : goal.returns-in_err-check_box
unfolding propagate_fault propagate_checks
returns-in_err-check_box c =
    let p = err_from_is_err_and c.from_residual.result c.from_residual.ensures.1 in
    rw (p.1, p.2) (past _ 5 _ (sym c.if-not-fits.ensures) (refuses _ _ _ c.in_err-check_box.ensures))

pub returns : goal.returns
unfolding propagate_fault propagate_checks box_checks
returns c =
    past _ 5 _ (sym c.if-not-fits.ensures) (accepts (box_checks _ c.args.bounds.now) _ tt c.in_ok-check_box.ensures c.check_budget.ensures)
