-- Call lists (01's run sheet): many calls on one model, checked once.
use Rattle.std.specs.Prelude.{◌*◌, ◌+◌, ◌/◌, ◌%◌, suc, zero, ℕ, eqb, get_or, length, cond, List, [], ◌∷◌}
use Rattle.model.specs.Checks.{Check, first, model_checks, table}
use Rattle.model.specs.State.{State}
use Rattle.semantics.specs.Call.{Call, is_retired, kind_of, lengths_of}
use Rattle.semantics.specs.Run.{Counts, no_counts, run_listed, tally}

-- "kind, ..; row; variable; budget; each an unsigned number of 32 bits": record i of a flat list of numbers, four to a record, as a
-- call on s
unfoldable pub record_at : State → List ℕ → ℕ → Call
record_at s xs i =
    record {
      kind = get_or xs (4 * i) 0;
      row = get_or xs (4 * i + 1) 0;
      variable = get_or xs (4 * i + 2) 0;
      budget = get_or xs (4 * i + 3) 0;
      n = s.model.n;
      m = s.model.m;
      lengths = lengths_of s;
    }

-- the records from number i on, `count` of them
unfoldable pub records_from : (count : ℕ) → State → List ℕ → ℕ → List Call
records_from zero s xs i = []
records_from (suc count) s xs i = record_at s xs i ∷ records_from count s xs (i + 1)

unfoldable pub records_of : State → List ℕ → List Call
records_of s xs = records_from (length xs / 4) s xs 0

-- "The model and table are checked before the first record", 10 last; a list of numbers that are not four to a record has a wrong
-- length, 5
unfoldable pub list_checks : State → List ℕ → List Check
list_checks s xs = model_checks s.model (table s.table) (eqb (length xs % 4) 0)

unfoldable pub list_fault : State → List ℕ → ℕ
list_fault s xs = first (list_checks s xs)

-- the calls whose kind is not retired
unfoldable pub unretired : List Call → List Call
unretired [] = []
unretired (c ∷ cs) = cond (is_retired (kind_of c.kind)) (unretired cs) (c ∷ unretired cs)

-- the calls that a list makes as direct calls are: one for each record that is not of a retired kind, none where it is refused as a
-- whole (that its run is a run over them is proved as `list-made`)
unfoldable pub calls_made : State → List ℕ → List Call
calls_made s xs = cond (eqb (list_fault s xs) 0) (unretired (records_of s xs)) []

-- "if they fail, the sheet as a whole is refused"; else "four counts whose sum is the list's length"
pub data ListAnswer : Type 0 where
  refused_list : ℕ → ListAnswer
  ran : Counts → ListAnswer

pub record ListRun : Type 0 where
  pub answer : ListAnswer
  pub state : State

-- "The run goes on after a refused call."
unfoldable pub run_list : State → List ℕ → ListRun
run_list s xs =
    cond (eqb (list_fault s xs) 0)
    (record { answer = ran (tally no_counts s (records_of s xs)); state = run_listed s (records_of s xs) })
    (record { answer = refused_list (list_fault s xs); state = s })
