-- `flat_record::check_classes`: the one chain of checks, with the lengths of list and bytes among the others. Assumes nothing.
use borrow.Author.Rules.{rules}
use Rattle.model.specs.Checks.{model_fault}
use Rattle.model.specs.State.{state_of}
use Rattle.flat_record.specs.Classes.{classes_checks, classes_fault}
use Rattle.flat_record.proofs.check_classes.Goals as goal

pub returns : goal.returns
unfolding classes_fault classes_checks state_of model_fault
returns c = rw c.is_product-fits.ensures at c.check_model_with_table.ensures
