-- One call: its whole answer and the state afterwards.
use Rattle.std.specs.Prelude.{ℕ, eqb, cond}
use Rattle.model.specs.Rows.{row_at}
use Rattle.model.specs.State.{State, with_box, with_row}
use Rattle.row.specs.Outcome.{Outcome}
use Rattle.row.specs.KindChanges.{remove_row_of, tighten_row_of}
use Rattle.row.specs.Kinds.{propagate_row_of}
use Rattle.semantics.specs.Call.{Call, Kind, kind_of, probing, propagation, removal, row_propagation, tightening, unknown}
use Rattle.semantics.specs.CallChecks.{call_fault, listed_fault}
use Rattle.semantics.specs.Probe.{ProbeEnding, Side, probe}
use Rattle.semantics.specs.Propagate.{Ending, propagate}

-- 01's answers: the number of the check that refused the call; or the case and the numbers of the call's kind
pub data Answer : Type 0 where
  refused : ℕ → Answer
  -- visit, of a row by its kind: None, Narrowed, Same, and the number of bounds moved
  propagated_row : Outcome → ℕ → Answer
  -- settle: None, Settled or Spent, the passes made and the number of bounds moved
  propagated : Ending → ℕ → ℕ → Answer
  -- probe: None, Fixed v, Both with the bytes that became 1, and the two sides' passes, Spent and bounds moved
  probed : ProbeEnding → Side → Side → Answer
  -- sharpen: None, Sharpened, Same
  tightened : Outcome → Answer
  -- drop: None, Dropped, Same
  removed : Outcome → Answer

pub record Performed : Type 0 where
  pub answer : Answer
  pub state : State

-- an accepted call of each kind; its rule's own definition says the rest, of an = row too. Only a drop writes a kind.
unfoldable pub act : Kind → State → Call → Performed
act row_propagation s c =
    let M = s.model in
    let r = propagate_row_of M.n (row_at M.n M.rows c.row) M.box in
    record { answer = propagated_row r.outcome r.moved; state = with_box s r.box s.table }
act propagation s c =
    let M = s.model in
    let r = propagate c.budget M.n M.m M.rows M.box in
    record { answer = propagated r.ending r.passes r.moved; state = with_box s r.box s.table }
act probing s c =
    let M = s.model in
    let r = probe c.variable c.budget M.n M.m M.rows M.box s.table in
    record { answer = probed r.ending r.side0 r.side1; state = with_box s r.box r.table }
act tightening s c =
    let M = s.model in
    let r = tighten_row_of M.n (row_at M.n M.rows c.row) M.box c.variable in
    record { answer = tightened r.outcome; state = with_row s c.row r.row }
act removal s c =
    let M = s.model in
    let r = remove_row_of M.n (row_at M.n M.rows c.row) M.box in
    record { answer = removed r.outcome; state = with_row s c.row r.row }
act unknown s c = record { answer = refused 11; state = s }

-- "The first [check] that applies to the call is the answer; every lent number stays." Everything else is accepted.
unfoldable pub perform : State → Call → Performed
perform s c =
    cond (eqb (call_fault s c) 0) (act (kind_of c.kind) s c) (record { answer = refused (call_fault s c); state = s })

-- The same of a call that a list makes: "Old sheets still run; such a call is refused .. and changes nothing." (02, C-16)
unfoldable pub perform_listed : State → Call → Performed
perform_listed s c =
    cond (eqb (listed_fault s c) 0) (act (kind_of c.kind) s c) (record { answer = refused (listed_fault s c); state = s })
