-- `call::count`: the class names the count that grows. Assumes nothing.
use borrow.Author.Rules.{rules}
use Rattle.semantics.specs.Run.{count_call}
use Rattle.call.specs.Classes.{class_is, counts_of}
use Rattle.call.proofs.count.Goals as goal

pub enum_told-1 : goal.enum_told-1
enum_told-1 c = search rules

pub overflow_add-next : goal.overflow_add-next
overflow_add-next c = search rules

pub enum_told-in-Infeasible : goal.enum_told-in-Infeasible
enum_told-in-Infeasible c = search rules

pub overflow_add-next-in-Infeasible : goal.overflow_add-next-in-Infeasible
overflow_add-next-in-Infeasible c = search rules

pub enum_told-in-Changed : goal.enum_told-in-Changed
enum_told-in-Changed c = search rules

pub overflow_add-next-in-Changed : goal.overflow_add-next-in-Changed
overflow_add-next-in-Changed c = search rules

pub enum_told-in-Unchanged : goal.enum_told-in-Unchanged
enum_told-in-Unchanged c = search rules

pub overflow_add-next-in-Unchanged : goal.overflow_add-next-in-Unchanged
overflow_add-next-in-Unchanged c = search rules

pub returns-in-Refused : goal.returns-in-Refused
unfolding class_is counts_of count_call
returns-in-Refused c = rw c.in-Refused.is

pub returns-in-Infeasible : goal.returns-in-Infeasible
unfolding class_is counts_of count_call
returns-in-Infeasible c = rw c.in-Infeasible.is

pub returns-in-Changed : goal.returns-in-Changed
unfolding class_is counts_of count_call
returns-in-Changed c = rw c.in-Changed.is

pub returns-in-Unchanged : goal.returns-in-Unchanged
unfolding class_is counts_of count_call
returns-in-Unchanged c = rw c.in-Unchanged.is
