-- Call records, and what one record more does to a call list's answer and state.
use Rattle.std.specs.Prelude.{◌+◌, ◌<◌, ◌^◌, ℕ, List, [], ◌∷◌}
use Rattle.semantics.specs.CallList.{ListAnswer, ListRun, ran, refused_list}
use Rattle.model.specs.Valid.{ValidState}
use Rattle.semantics.specs.Run.{Counts, class_listed, count_call, step_listed}
use Rattle.model.specs.State.{State}
use Rattle.call.specs.Calls.{call_on}
use Rattle.call.specs.declared.Call.{Call}

abbrev pub no_call : Call
no_call = record { kind = 0; row = 0; variable = 0; budget = 0 }

-- the flat list of the records' numbers: "kind, ..; row; variable; budget"
unfoldable pub numbers_of : List Call → List ℕ
numbers_of [] = []
numbers_of (c ∷ cs) = c.kind ∷ c.row ∷ c.variable ∷ c.budget ∷ numbers_of cs

unfoldable pub next_of : ListAnswer → State → Call → ListRun
next_of (refused_list number) s c = record { answer = refused_list number; state = s }
next_of (ran k) s c = record { answer = ran (count_call (class_listed s (call_on s c)) k); state = step_listed s (call_on s c) }

-- a list that is refused as a whole makes no call; else "The run goes on after a refused call."
unfoldable pub run_next : ListRun → Call → ListRun
run_next r c = next_of r.answer r.state c

-- a list that is run has a valid state, and its counts have room for one more
pub record Room (k : Counts) (s : State) : Type 0 where
  pub valid : ValidState s
  pub small : k.refusals + k.infeasibles + k.changes + k.unchanges < 2 ^ 63

unfoldable pub RunsAt : ListAnswer → State → Type 0
RunsAt (refused_list number) s = Unit {0}
RunsAt (ran k) s = Room k s

unfoldable pub Runs : ListRun → Type 0
Runs r = RunsAt r.answer r.state
