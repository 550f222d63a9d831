-- What each record of a call list did: its class as a byte, one a record, in the order of the records (D-67).
use Rattle.std.specs.Prelude.{◌*◌, ◌+◌, ℕ, eqb, length, cond, List, [], ◌∷◌, ◌≡◌}
use Rattle.model.specs.Checks.{Check, first, model_checks, table}
use Rattle.model.specs.State.{State}
use Rattle.semantics.specs.Call.{Call}
use Rattle.semantics.specs.CallList.{ListRun, records_of, refused_list, run_list}
use Rattle.semantics.specs.Run.{CallClass, Counts, changed_call, class_listed, infeasible_call, refused_call, step_listed, unchanged_call}

-- "refused, None, changed (a bound, row or table byte), unchanged": a class has the number of the place of its count in the answer
unfoldable pub class_byte : CallClass → ℕ
class_byte (refused_call number) = 0
class_byte infeasible_call = 1
class_byte changed_call = 2
class_byte unchanged_call = 3

-- of the calls that a list makes from s: "Each call in a list is given the state that the call before it left"
unfoldable pub classes_from : State → List Call → List ℕ
classes_from s [] = []
classes_from s (c ∷ cs) = class_byte (class_listed s c) ∷ classes_from (step_listed s c) cs

unfoldable pub classes_of : State → List ℕ → List ℕ
classes_of s xs = classes_from s (records_of s xs)

-- The checks of a list, with C lent for the classes: a byte for each record of four numbers, else 5, with the other lengths.
unfoldable pub classes_checks : State → List ℕ → List ℕ → List Check
classes_checks s xs C = model_checks s.model (table s.table) (eqb (length xs) (4 * length C))

unfoldable pub classes_fault : State → List ℕ → List ℕ → ℕ
classes_fault s xs C = first (classes_checks s xs C)

-- what a list answers and leaves, and the classes in the bytes lent for them
pub record ClassesRun : Type 0 where
  pub list : ListRun
  pub classes : List ℕ

-- as without them (`run_list`), and the classes; where a check fails, what is lent stays
unfoldable pub run_classes : State → List ℕ → List ℕ → ClassesRun
run_classes s xs C =
    cond (eqb (classes_fault s xs C) 0)
    (record { list = run_list s xs; classes = classes_of s xs })
    (record { list = record { answer = refused_list (classes_fault s xs C); state = s }; classes = C })

-- how often a byte occurs
unfoldable pub how_many : ℕ → List ℕ → ℕ
how_many b [] = 0
how_many b (x ∷ xs) = cond (eqb x b) 1 0 + how_many b xs

-- the four counts are the counts of the classes
pub record ClassesCounted (k : Counts) (C : List ℕ) : Type 0 where
  pub refused : k.refusals ≡ how_many 0 C
  pub infeasible : k.infeasibles ≡ how_many 1 C
  pub changed : k.changes ≡ how_many 2 C
  pub unchanged : k.unchanges ≡ how_many 3 C
