-- `call::checks::check_row`: the code's one test is the check's. Assumes nothing.
use Prim.Native.Nat.{◌<◌}
use native.Mathlib.Omega.{arith}
use Rattle.integer.proofs.Tests.{ltb-test, test-false, test-true}
use Rattle.model.proofs.CheckLaws.{ends, fails, past}
use Rattle.call.specs.FieldChecks.{row_checks}
use Rattle.call.proofs.checks.check_row.Goals as goal

pub returns-then-m-row : goal.returns-then-m-row
unfolding row_checks
returns-then-m-row c =
    let a = c.args in
    fails _ 12 _ (test-false _ (ltb-test a.row a.m) (λ (h : a.row < a.m). let z : ⊥ = omega arith in z))

pub returns : goal.returns
unfolding row_checks
returns c = let a = c.args in past _ 12 _ (test-true _ (ltb-test a.row a.m) (omega arith)) ends
