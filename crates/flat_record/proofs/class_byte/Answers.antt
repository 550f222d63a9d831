-- `flat_record::class_byte`: each class has its byte. Assumes nothing.
use borrow.Author.Rules.{rules}
use Rattle.call.specs.Classes.{class_is}
use Rattle.flat_record.specs.Classes.{class_byte}
use Rattle.flat_record.proofs.class_byte.Goals as goal

pub returns-in-Refused : goal.returns-in-Refused
unfolding class_is class_byte
returns-in-Refused c = rw c.in-Refused.is

pub returns-in-Infeasible : goal.returns-in-Infeasible
unfolding class_is class_byte
returns-in-Infeasible c = rw c.in-Infeasible.is

pub returns-in-Changed : goal.returns-in-Changed
unfolding class_is class_byte
returns-in-Changed c = rw c.in-Changed.is

pub returns-in-Unchanged : goal.returns-in-Unchanged
unfolding class_is class_byte
returns-in-Unchanged c = rw c.in-Unchanged.is
