-- What the call list's answer stands for in the semantics. The reading is injective (`list_answer-injective`).
use Rattle.std.specs.Prelude.{ℕ, List, Result, Ok, Err}
use Rattle.model.specs.declared.refusal.Refusal.{Refusal}
use Rattle.model.specs.Refusals.{number_of}
use Rattle.semantics.specs.CallList as lists
use Rattle.model.specs.State.{State}
use Rattle.call.specs.Classes.{counts_of}
use Rattle.call.specs.declared.Counts.{Counts}
use Rattle.flat_record.specs.Classes.{ClassesRun}

unfoldable pub list_answer : Result Counts Refusal → lists.ListAnswer
list_answer (Err r) = lists.refused_list (number_of r)
list_answer (Ok counts) = lists.ran (counts_of counts)

unfoldable pub list_run : Result Counts Refusal → State → lists.ListRun
list_run r s = record { answer = list_answer r; state = s }

-- of a list that is run
unfoldable pub ran_to : Counts → State → lists.ListRun
ran_to k s = record { answer = lists.ran (counts_of k); state = s }

unfoldable pub classes_run : Result Counts Refusal → State → List ℕ → ClassesRun
classes_run r s C = record { list = list_run r s; classes = C }
