-- `plan::bounds::width`: refused by the first check that fails, and else the two numbers; what they mean is `width-promised`.
use mathlib.Core.Path.{sym}
use Rattle.demands.specs.Passes.{enough_budget}
use Rattle.plan.specs.Answers.{width_answer, width_call}
use mathlib.Core.Bool.{true}
use Rattle.std.proofs.lemmas.Result.{err_from_is_err_and}
use Rattle.plan.proofs.PlanLaws.{accepted-by, bounds-passed, refused-by_name, width-promised}
use Rattle.plan.proofs.bounds.width.Goals as goal

pub returns-in_err-check_bounds : goal.returns-in_err-check_bounds
unfolding width_answer width_call
returns-in_err-check_bounds c =
    let p = err_from_is_err_and c.from_residual.result c.from_residual.ensures.1 in
    let w = width-promised c.args.n c.args.bounds.now _ (refused-by_name _ c.in_err-check_bounds.ensures _) in
    rw (p.1, p.2) (record { defined = w.0; meaning = w.1 })

pub total_width-width-requires : goal.total_width-width-requires
total_width-width-requires c =
    let v = bounds-passed c.args.n c.args.bounds.now true (sym c.in_ok-check_bounds.ensures) in
    (v.0, v.1, v.2)

pub returns : goal.returns
unfolding width_answer width_call enough_budget
returns c =
    let w = width-promised c.args.n c.args.bounds.now _ (rw c.total_width-width.ensures.0 (accepted-by (sym c.in_ok-check_bounds.ensures) _)) in
    record { defined = w.0; meaning = w.1 }
