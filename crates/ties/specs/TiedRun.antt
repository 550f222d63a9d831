-- Lists of calls among which are ties, and what any such list keeps.
use Rattle.std.specs.Prelude.{ℕ, ℤ, List, [], ◌∷◌, ◌↔◌, ◌≡◌}
use Rattle.semantics.specs.Call.{Call}
use Rattle.semantics.specs.CallList.{run_list}
use Rattle.semantics.specs.Run.{step}
use Rattle.call_laws.specs.Points.{TableHolds}
use Rattle.demands.specs.TwoRuns.{HandedIn}
use Rattle.ties.specs.TieCall.{TieCall, perform_tie, ties_fault}
use Rattle.ties.specs.Ties.{TiedFractional, TiedPoint, TiedState, ValidTiedState}

-- a direct call of one of the five kinds or a call list, which are lent no tie list and leave it alone; or a tie
pub data TiedCall : Type 0 where
  other : Call → TiedCall
  listed : List ℕ → TiedCall
  ties : TieCall → TiedCall

unfoldable pub step_tied : TiedState → TiedCall → TiedState
step_tied s (other c) = record { state = step s.state c; ties = s.ties }
step_tied s (listed xs) = record { state = (run_list s.state xs).state; ties = s.ties }
step_tied s (ties c) = (perform_tie s c).state

unfoldable pub run_tied : TiedState → List TiedCall → TiedState
run_tied s [] = s
run_tied s (c ∷ cs) = run_tied (step_tied s c) cs

-- the model handed in: one that passes the checks, a table all 0, and any tie list that passes 5 and 21
pub record HandedInTied (s : TiedState) : Type 0 where
  pub state : HandedIn s.state
  pub ties : ties_fault s.state.model.n s.ties ≡ 0

-- "for a table filled from empty by calls on this model, and the tie list as they left it .. a list of whole values in the box
-- meets the new rows and ties exactly when it met the old ones"; and each recorded implication holds at all of them
pub record KeepsTied (s r : TiedState) : Type 0 where
  pub sizes : (r.state.model.n ≡ s.state.model.n) × (r.state.model.m ≡ s.state.model.m)
  pub points : (x : List ℤ) → TiedPoint r x ↔ TiedPoint s x
  pub fractional : (x : List ℤ) (d : ℕ) → TiedFractional r x d → TiedFractional s x d
  pub implied : (x : List ℤ) → TiedPoint s x → TableHolds s.state.model.n r.state.table x
  pub valid : ValidTiedState r

-- (proved as `filled-from-empty`)
unfoldable pub FilledFromEmpty : Type 0
FilledFromEmpty = (s : TiedState) (cs : List TiedCall) → HandedInTied s → KeepsTied s (run_tied s cs)

-- "With any other table the call does the same, and then it is promised only that no point is added." (proved as `adds-no-point`)
pub record AddsNoPoint (s r : TiedState) : Type 0 where
  pub points : (x : List ℤ) → TiedPoint r x → TiedPoint s x
  pub fractional : (x : List ℤ) (d : ℕ) → TiedFractional r x d → TiedFractional s x d

unfoldable pub AnyTable : Type 0
AnyTable = (s : TiedState) (cs : List TiedCall) → AddsNoPoint s (run_tied s cs)

-- what one call means, that left r of s: no point is added, and a point is lost only where a recorded implication fails at it
-- (proved as `tie-promised` of the tie call)
pub record TieKeeps (s r : TiedState) : Type 0 where
  pub adds : AddsNoPoint s r
  pub keeps : (x : List ℤ) → TiedPoint s x → TableHolds s.state.model.n s.state.table x → TiedPoint r x
