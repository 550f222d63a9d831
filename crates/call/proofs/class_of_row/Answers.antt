-- `call::class_of_row`: each outcome has its class, by the laws of outcomes. Assumes nothing.
use borrow.Author.Rules.{rules}
use mathlib.Core.List.{[]}
use mathlib.Core.Path.{refl}
use Rattle.row.specs.Answers.{propagated_row_of}
use Rattle.call.proofs.OutcomeLaws.{counts-changed, counts-infeasible, counts-unchanged}
use Rattle.call.proofs.class_of_row.Goals as goal

pub enum_told-1 : goal.enum_told-1
enum_told-1 c = search rules

pub enum_told-in-Tightened : goal.enum_told-in-Tightened
enum_told-in-Tightened c = search rules

pub enum_told-in-Unchanged : goal.enum_told-in-Unchanged
enum_told-in-Unchanged c = search rules

pub returns-in-Infeasible : goal.returns-in-Infeasible
unfolding propagated_row_of
returns-in-Infeasible c = counts-infeasible (λ p. (propagated_row_of p []).outcome) c.in-Infeasible.is refl

pub returns-in-Tightened : goal.returns-in-Tightened
unfolding propagated_row_of
returns-in-Tightened c = counts-changed (λ p. (propagated_row_of p []).outcome) c.in-Tightened.is refl

pub returns-in-Unchanged : goal.returns-in-Unchanged
unfolding propagated_row_of
returns-in-Unchanged c = counts-unchanged (λ p. (propagated_row_of p []).outcome) c.in-Unchanged.is refl
