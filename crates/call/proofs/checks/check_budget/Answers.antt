-- `call::checks::check_budget`: the code's two tests are the check's. Assumes nothing.
use Prim.Native.Nat.{◌≤◌, ℕ}
use lib.Dec.{T, leb}
use mathlib.Core.Bool.{◌&&◌}
use mathlib.Core.Logic.{◌↔◌}
use native.Mathlib.Omega.{arith}
use Rattle.integer.proofs.Tests.{both, leb-test, test-false, test-true}
use Rattle.model.proofs.CheckLaws.{ends, fails, past}
use Rattle.semantics.specs.CallChecks.{max_budget}
use Rattle.call.specs.FieldChecks.{budget_checks}
use Rattle.call.proofs.checks.check_budget.Goals as goal

abbrev Within : ℕ → Type 0
Within b = (1 ≤ b) × (b ≤ max_budget)

tests : (b : ℕ) → T (leb 1 b && leb b max_budget) ↔ Within b
tests b = both (leb 1 b) (leb b max_budget) (leb-test 1 b) (leb-test b max_budget)

pub returns-then-budget-lt1 : goal.returns-then-budget-lt1
unfolding budget_checks
returns-then-budget-lt1 c =
    let b = c.args.budget in fails _ 15 _ (test-false _ (tests b) (λ (h : Within b). let z : ⊥ = omega arith in z))

pub returns-then-budget-gt-MAX_BUDGET : goal.returns-then-budget-gt-MAX_BUDGET
unfolding budget_checks
returns-then-budget-gt-MAX_BUDGET c =
    let b = c.args.budget in fails _ 15 _ (test-false _ (tests b) (λ (h : Within b). let z : ⊥ = omega arith in z))

pub returns : goal.returns
unfolding budget_checks
returns c =
    let b = c.args.budget in past _ 15 _ (test-true _ (tests b) (let w : Within b = (omega arith, omega arith) in w)) ends
