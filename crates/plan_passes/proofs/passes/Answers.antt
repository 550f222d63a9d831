-- `plan_passes::passes`: refused by the first check that fails, and else the three numbers; what they mean is `passes-promised`.
use lib.ListN.{length}
use mathlib.Core.Path.{◌∙◌, ◌≡◌, ap, sym}
use Rattle.model.specs.Checks.{first}
use Rattle.demands.specs.Passes.{enough_budget}
use Rattle.plan.specs.Answers.{passes_answer, passes_call}
use Rattle.plan.specs.PlanChecks.{bounds_checks, list_fits}
use mathlib.Core.Bool.{Bool}
use Rattle.std.proofs.lemmas.Result.{err_from_is_err_and}
use Rattle.plan.proofs.PlanLaws.{accepted-by, bounds-passed, list-few, passes-promised, refused-by_name}
use lib.IntN.{ℤ}
use mathlib.Core.List.{List}
use Prim.Native.Nat.{ℕ}
use Rattle.plan_passes.proofs.passes.Goals as goal

-- the checks that were made are those with the list's length among them
checked : {r : ℕ} (n : ℕ) (B : List ℤ) (xs : List ℕ) (fits : Bool) → fits ≡ list_fits (length xs) → r ≡ first (bounds_checks n B fits) → r ≡ first (bounds_checks n B (list_fits (length xs)))
checked n B xs fits f e = e ∙ ap (λ (b : Bool). first (bounds_checks n B b)) f

pub returns-in_err-check_bounds : goal.returns-in_err-check_bounds
unfolding passes_answer passes_call
returns-in_err-check_bounds c =
    let a = c.args in
    let p = err_from_is_err_and c.from_residual.result c.from_residual.ensures.1 in
    let refused = checked a.n a.bounds.now a.calls.now _ c.list_fits.ensures c.in_err-check_bounds.ensures in
    let w = passes-promised a.n a.bounds.now a.calls.now _ (refused-by_name _ refused _) in
    rw (p.1, p.2) (record { defined = w.0; meaning = w.1 })

pub total_width-width-requires : goal.total_width-width-requires
total_width-width-requires c =
    let a = c.args in
    let passed = checked a.n a.bounds.now a.calls.now _ c.list_fits.ensures c.in_ok-check_bounds.ensures in
    let v = bounds-passed a.n a.bounds.now (list_fits (length a.calls.now)) (sym passed) in
    (v.0, v.1, v.2)

pub pass_limit-requires : goal.pass_limit-requires
pass_limit-requires c =
    let a = c.args in
    let passed = checked a.n a.bounds.now a.calls.now _ c.list_fits.ensures c.in_ok-check_bounds.ensures in
    list-few (length a.calls.now) (bounds-passed a.n a.bounds.now (list_fits (length a.calls.now)) (sym passed)).3

pub returns : goal.returns
unfolding passes_answer passes_call enough_budget
returns c =
    let a = c.args in
    let passed = checked a.n a.bounds.now a.calls.now _ c.list_fits.ensures c.in_ok-check_bounds.ensures in
    let w = passes-promised a.n a.bounds.now a.calls.now _ (rw (c.pass_limit.ensures, c.total_width-width.ensures.0) (accepted-by (sym passed) _)) in
    record { defined = w.0; meaning = w.1 }
