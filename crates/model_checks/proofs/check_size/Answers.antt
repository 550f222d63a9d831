-- `model_checks::check_size`: each comparison is a part of the one test (`size-test`).
use Rattle.std.proofs.Common.{◌≡◌, ℕ, ◌<◌, ◌≤◌, arith, sym}
use Rattle.integer.proofs.Tests.{test-false}
use Rattle.model.specs.Checks.{first, size_checks}
use Rattle.model.specs.Limits.{max_rows, max_variables}
use Rattle.model.proofs.CheckLaws.{fails, first-none, size-test}
use Rattle.model_checks.proofs.check_size.Goals as goal

refused : (n m : ℕ) → ((0 < n) × (n ≤ max_variables) × (m ≤ max_rows) → ⊥) → 3 ≡ first (size_checks n m)
unfolding size_checks
refused n m h = fails _ 3 _ (test-false _ (size-test n m) h)

accepted : (n m : ℕ) → (0 < n) × (n ≤ max_variables) × (m ≤ max_rows) → 0 ≡ first (size_checks n m)
unfolding size_checks
accepted n m h = sym ((first-none (size_checks n m) tt).1 ((size-test n m).1 h, tt))

pub returns-then-n-lt1 : goal.returns-then-n-lt1
returns-then-n-lt1 c = refused _ _ (λ h. omega arith)

pub returns-then-n-gt-MAX_VARIABLES : goal.returns-then-n-gt-MAX_VARIABLES
returns-then-n-gt-MAX_VARIABLES c = refused _ _ (λ h. omega arith)

pub returns-then-m-gt-MAX_ROWS : goal.returns-then-m-gt-MAX_ROWS
returns-then-m-gt-MAX_ROWS c = refused _ _ (λ h. omega arith)

pub returns : goal.returns
returns c = accepted c.args.n c.args.m (omega arith)
