-- `flat_record::check_list`: the one chain of checks, of the model and the table, and of the list's own length with the others.
-- Assumes nothing.
use borrow.Author.Rules.{rules}
use Rattle.model.specs.Checks.{model_fault}
use Rattle.model.specs.State.{state_of}
use Rattle.semantics.specs.CallList.{list_checks, list_fault}
use Rattle.flat_record.proofs.check_list.Goals as goal

pub returns : goal.returns
unfolding list_fault list_checks state_of model_fault
returns c = c.check_model_with_table.ensures
