-- `call::class_of_tightening`: each outcome has its class, by the laws of outcomes. Assumes nothing.
use borrow.Author.Rules.{rules}
use mathlib.Core.Path.{refl}
use Rattle.row.specs.Answers.{tightening_outcome}
use Rattle.call.proofs.OutcomeLaws.{counts-changed, counts-infeasible, counts-unchanged}
use Rattle.call.proofs.class_of_tightening.Goals as goal

pub enum_told-1 : goal.enum_told-1
enum_told-1 c = search rules

pub enum_told-in-Tightened : goal.enum_told-in-Tightened
enum_told-in-Tightened c = search rules

pub enum_told-in-Unchanged : goal.enum_told-in-Unchanged
enum_told-in-Unchanged c = search rules

pub returns-in-Infeasible : goal.returns-in-Infeasible
unfolding tightening_outcome
returns-in-Infeasible c = counts-infeasible tightening_outcome c.in-Infeasible.is refl

pub returns-in-Tightened : goal.returns-in-Tightened
unfolding tightening_outcome
returns-in-Tightened c = counts-changed tightening_outcome c.in-Tightened.is refl

pub returns-in-Unchanged : goal.returns-in-Unchanged
unfolding tightening_outcome
returns-in-Unchanged c = counts-unchanged tightening_outcome c.in-Unchanged.is refl
