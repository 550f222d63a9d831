-- `call::class_of_removal`: each outcome has its class, by the laws of outcomes. Assumes nothing.
use borrow.Author.Rules.{rules}
use mathlib.Core.Path.{refl}
use Rattle.row.specs.Answers.{removal_outcome}
use Rattle.call.proofs.OutcomeLaws.{counts-changed, counts-infeasible, counts-unchanged}
use Rattle.call.proofs.class_of_removal.Goals as goal

pub enum_told-1 : goal.enum_told-1
enum_told-1 c = search rules

pub enum_told-in-Removed : goal.enum_told-in-Removed
enum_told-in-Removed c = search rules

pub enum_told-in-Unchanged : goal.enum_told-in-Unchanged
enum_told-in-Unchanged c = search rules

pub returns-in-Infeasible : goal.returns-in-Infeasible
unfolding removal_outcome
returns-in-Infeasible c = counts-infeasible removal_outcome c.in-Infeasible.is refl

pub returns-in-Removed : goal.returns-in-Removed
unfolding removal_outcome
returns-in-Removed c = counts-changed removal_outcome c.in-Removed.is refl

pub returns-in-Unchanged : goal.returns-in-Unchanged
unfolding removal_outcome
returns-in-Unchanged c = counts-unchanged removal_outcome c.in-Unchanged.is refl
