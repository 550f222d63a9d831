-- `plan::bounds::check_bounds`: what each call says is the test of its check, and the checks are passed in their order.
use Prim.Native.Nat.{ℕ}
use mathlib.Core.List.{List, ◌++◌}
use mathlib.Core.Path.{◌≡◌}
use Rattle.model.specs.Checks.{Check, first, size_checks}
use Rattle.plan.specs.PlanChecks.{bounds_checks}
use Rattle.std.proofs.lemmas.Result.{err_from_is_err_and}
use Rattle.model.proofs.CheckLaws.{accepts, fails, past, refuses}
use mathlib.Core.Path.{sym}
use Rattle.plan.proofs.bounds.check_bounds.Goals as goal

-- past check 3
past-size : {r : ℕ} (n : ℕ) (ys : List Check) → 0 ≡ first (size_checks n 0) → r ≡ first ys → r ≡ first (size_checks n 0 ++ ys)
unfolding size_checks
past-size n ys e h = accepts (size_checks n 0) ys tt e h

pub returns-in_err-check_size : goal.returns-in_err-check_size
unfolding bounds_checks
returns-in_err-check_size c =
    let p = err_from_is_err_and c.from_residual.result c.from_residual.ensures.1 in
    rw (p.1, p.2) (refuses _ _ _ c.in_err-check_size.ensures)

pub returns-then-not-is_product : goal.returns-then-not-is_product
unfolding bounds_checks
returns-then-not-is_product c = past-size c.args.n _ c.in_ok-check_size.ensures (fails _ 5 _ (sym c.if-not-is_product.ensures))

pub returns-then-not-fits : goal.returns-then-not-fits
unfolding bounds_checks
returns-then-not-fits c =
    past-size c.args.n _ c.in_ok-check_size.ensures (past _ 5 _ (sym c.if-not-is_product.ensures) (fails _ 5 _ c.if-not-fits.true))

pub returns : goal.returns
unfolding bounds_checks
returns c =
    past-size c.args.n _ c.in_ok-check_size.ensures
    (past _ 5 _ (sym c.if-not-is_product.ensures) (past _ 5 _ c.if-not-fits.false c.check_box.ensures))
