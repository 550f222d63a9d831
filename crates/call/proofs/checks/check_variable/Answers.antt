-- `call::checks::check_variable`: the code's three tests are those of the two checks, in their order. Assumes nothing.
use Rattle.std.proofs.Common.{ℕ, ◌<◌}
use Prim.Native.Nat.{◌<◌}
use borrow.Author.Rules.{rules}
use lib.Dec.{ltb}
use mathlib.Core.Bool.{true}
use mathlib.Core.Path.{◌∙◌, ◌≡◌, sym}
use native.Mathlib.Omega.{arith}
use Rattle.integer.proofs.Tests.{ltb-test, test-false, test-true, told-false, told-true}
use Rattle.model.specs.Box.{is_empty}
use Rattle.model.proofs.CheckLaws.{ends, fails, past}
use Rattle.call.specs.FieldChecks.{variable_checks}
use Rattle.call.proofs.checks.check_variable.Goals as goal

pub returns-then-n-k : goal.returns-then-n-k
unfolding variable_checks
returns-then-n-k c =
    let a = c.args in
    fails _ 13 _ (test-false _ (ltb-test a.variable a.n) (λ (h : a.variable < a.n). let z : ⊥ = omega arith in z))

-- the variable is below n
below : (variable n : ℕ) → variable < n → ltb variable n ≡ true
below variable n h = test-true _ (ltb-test variable n) h

pub returns-then-is_empty : goal.returns-then-is_empty
unfolding variable_checks
returns-then-is_empty c =
    past _ 13 _ (below _ _ (omega arith)) (past _ 14 _ (rw (sym (c.is_empty.ensures c.args.n (omega arith) c.requires) ∙ c.if-is_empty.true)) ends)

pub returns-then-not-is_free : goal.returns-then-not-is_free
unfolding variable_checks
returns-then-not-is_free c =
    past _ 13 _ (below _ _ (omega arith))
    (fails _ 14 _ (rw (sym (c.is_empty.ensures c.args.n (omega arith) c.requires) ∙ c.if-is_empty.false, sym c.if-not-is_free.ensures)))

pub returns : goal.returns
unfolding variable_checks
returns c =
    past _ 13 _ (below _ _ (omega arith))
    (past _ 14 _ (rw (sym (c.is_empty.ensures c.args.n (omega arith) c.requires) ∙ c.if-is_empty.false, sym c.if-not-is_free.ensures)) ends)
