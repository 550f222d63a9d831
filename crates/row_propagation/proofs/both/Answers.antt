-- `row_propagation::both` is both_forms, case by case. Assumes nothing.
use borrow.Author.Rules.{rules}
use native.Mathlib.Omega.{arith}
use Rattle.row.specs.Answers.{both_forms}
use Rattle.row.proofs.KindMoves.{both-second}
use Rattle.row_propagation.proofs.both.Goals as goal

pub returns-in_default : goal.returns-in_default
returns-in_default c = both-second _ _ (search rules)

pub overflow_add-result : goal.overflow_add-result
overflow_add-result c = let h = c.requires.few _ _ c.in-Tightened.is c.in-Tightened-second.is in omega (arith, h)

pub returns-in-Infeasible : goal.returns-in-Infeasible
unfolding both_forms
returns-in-Infeasible c = rw (c.in-Tightened.is, c.in-Infeasible.is)

pub returns-in-Tightened-second : goal.returns-in-Tightened-second
unfolding both_forms
returns-in-Tightened-second c = rw (c.in-Tightened.is, c.in-Tightened-second.is)

pub returns-in-Unchanged : goal.returns-in-Unchanged
unfolding both_forms
returns-in-Unchanged c = rw (c.in-Tightened.is, c.in-Unchanged.is)
