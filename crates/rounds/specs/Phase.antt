-- What a phase of a round that is lent no table makes of the rows.
use Rattle.std.specs.Prelude.{ℕ, ℤ, Bool, List, ◌≡◌}
use Rattle.model.specs.Rows.{Rows}
use Rattle.model.specs.State.{State, state_of}
use Rattle.model.specs.Valid.{ValidTable}
use Rattle.semantics.specs.Call.{Call}
use Rattle.semantics.specs.Run.{run}
use Rattle.rounds.specs.Round.{any_change}

-- whatever the table is, the calls of f lead from the rows A to A', and b says whether one of them changed something
pub record Phase (f : State → List Call) (n m : ℕ) (B : List ℤ) (A A' : Rows) (b : Bool) : Type 0 where
  pub left : (t : List ℕ) → ValidTable n t → let s = state_of n m B A t in state_of n m B A' t ≡ run s (f s)
  pub changed : (t : List ℕ) → ValidTable n t → let s = state_of n m B A t in b ≡ any_change s (f s)
