-- Demand 3 in a tree: a prepared call is a call of demand 3's runs, so that runs that mix prepared calls with others, and with calls that
-- were refused, agree where they end at rest, and keep the points.
use Rattle.std.specs.Prelude.{◌≡◌, ℕ, T, ◌⊎◌, ◌↔◌, List, [], ◌∷◌, ℤ}
use Rattle.model.specs.Rows.{Rows}
use Rattle.model.specs.State.{State, state_of}
use Rattle.reducer.specs.OpenCalls.{performed}
use Rattle.semantics.specs.Call.{Call, call_of, kind_of, narrows}
use Rattle.semantics.specs.CallChecks.{call_fault}
use Rattle.semantics.specs.Perform.{Answer, perform}
use Rattle.semantics.specs.Run.{run}
use Rattle.call_laws.specs.Points.{AtRest, PointOf, TableHolds}
use Rattle.demands.specs.TwoRuns.{HandedIn}

-- a call made r of s: the equation that the contract of every open call says, prepared or not. "after it an accepted call is a visit, a
-- settle or a probe"
pub record Made (s r : State) : Type 0 where
  pub answer : Answer
  pub call : Call
  pub made : performed answer r ≡ perform s call
  pub narrow : call_fault s call ≡ 0 → T (narrows (kind_of call.kind))

-- states in turn: each is what a call made of the one before it, or that one itself, where a call was refused
unfoldable pub Mixed : State → List State → Type 0
Mixed s [] = Unit {0}
Mixed s (r ∷ rs) = (Made s r ⊎ (r ≡ s)) × Mixed r rs

unfoldable pub last_of : State → List State → State
last_of s [] = s
last_of s (r ∷ rs) = last_of r rs

-- the contract of a prepared propagate call, whatever the table is that goes with the state: it is lent none (proved as
-- `propagate-is-made`)
unfoldable pub PropagateIsMade : Type 0
PropagateIsMade =
    (n m : ℕ) (A : Rows) (B B' : List ℤ) (t : List ℕ) (budget : ℕ) (a : Answer)
    → performed a (state_of n m B' A []) ≡ perform (state_of n m B A []) (call_of (state_of n m B A []) 2 0 0 budget)
    → Made (state_of n m B A t) (state_of n m B' A t)

-- and that of a prepared probe, which is lent the table (proved as `probe-is-made`)
unfoldable pub ProbeIsMade : Type 0
ProbeIsMade =
    (n m : ℕ) (A : Rows) (B B' : List ℤ) (t t' : List ℕ) (variable budget : ℕ) (a : Answer)
    → performed a (state_of n m B' A t') ≡ perform (state_of n m B A t) (call_of (state_of n m B A t) 3 0 variable budget)
    → Made (state_of n m B A t) (state_of n m B' A t')

-- such a run is one of demand 3's, and the claim of `TwoRuns` is so of it
pub record MixedRuns (s : State) (before : List Call) (one two : List State) : Type 0 where
  pub same_end : AtRest (last_of (run s before) one)
      → (((last_of (run s before) one).model.box ≡ (last_of (run s before) two).model.box) ↔ AtRest (last_of (run s before) two))
  pub points1 : (x : List ℤ) → PointOf (last_of (run s before) one) x ↔ PointOf s x
  pub points2 : (x : List ℤ) → PointOf (last_of (run s before) two) x ↔ PointOf s x
  pub implied1 : (x : List ℤ) → PointOf s x → TableHolds s.model.n (last_of (run s before) one).table x
  pub implied2 : (x : List ℤ) → PointOf s x → TableHolds s.model.n (last_of (run s before) two).table x

-- proved as `demand-3-mixed`
unfoldable pub Demand3Mixed : Type 0
Demand3Mixed =
    (s : State) (before : List Call) (one two : List State) → HandedIn s → Mixed (run s before) one → Mixed (run s before) two
    → MixedRuns s before one two
