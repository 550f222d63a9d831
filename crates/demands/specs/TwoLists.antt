-- Demand 3 over call lists: the same claim with the list runner on both sides.
use Rattle.std.specs.Prelude.{◌+◌, ◌*◌, ◌<◌, ℕ, ℤ, length, replicate, List, ◌↔◌, ◌≡◌}
use Rattle.model.specs.State.{State}
use Rattle.semantics.specs.Call.{Call}
use Rattle.semantics.specs.CallList.{ListRun, ran, run_list}
use Rattle.semantics.specs.Run.{Counts, run}
use Rattle.call_laws.specs.Points.{AtRest, FractionalPointOf, PointOf, TableHolds}
use Rattle.demands.specs.Demand2.{RunMeans}
use Rattle.demands.specs.TwoRuns.{HandedIn}

-- of the model handed in, s; the calls before the parting; and the lists of the two runs after it
pub record TwoLists (s : State) (before : List Call) (one two : List ℕ) : Type 0 where
  pub same_end : AtRest (run_list (run s before) one).state
      → (((run_list (run s before) one).state.model.box ≡ (run_list (run s before) two).state.model.box)
      ↔ AtRest (run_list (run s before) two).state)
  pub points1 : (x : List ℤ) → PointOf (run_list (run s before) one).state x ↔ PointOf s x
  pub points2 : (x : List ℤ) → PointOf (run_list (run s before) two).state x ↔ PointOf s x
  pub implied1 : (x : List ℤ) → PointOf s x → TableHolds s.model.n (run_list (run s before) one).state.table x
  pub implied2 : (x : List ℤ) → PointOf s x → TableHolds s.model.n (run_list (run s before) two).state.table x

-- "Where two runs are compared, sharpenings and drops now come from direct calls made beforehand." (02, C-16): any direct calls,
-- refused ones too, and then any two lists, also ones that are refused as a whole. Of the lists nothing is asked: "after [the parting]
-- an accepted call is a visit, a settle or a probe", since a list accepts no other (proved as `demand-3-lists`).
unfoldable pub Demand3Lists : Type 0
Demand3Lists = (s : State) (before : List Call) (one two : List ℕ) → HandedIn s → TwoLists s before one two

-- "four counts whose sum is the list's length" (proved as `counts-add-up`)
unfoldable pub CountsAddUp : Type 0
CountsAddUp =
    (s : State) (xs : List ℕ) (k : Counts) → (run_list s xs).answer ≡ ran k
    → 4 * (k.refusals + k.infeasibles + k.changes + k.unchanges) ≡ length xs

-- Demand 2 of a whole list, refused or run: r is what it answers and leaves of s.
pub record ListMeans (s : State) (r : ListRun) : Type 0 where
  -- "the integer points are exactly those before it, and no fractional point is added"
  pub points : (x : List ℤ) → PointOf r.state x ↔ PointOf s x
  pub fractional : (x : List ℤ) (d : ℕ) → FractionalPointOf r.state x d → FractionalPointOf s x d
  -- "None" means that no integer point exists: a call that answers None is counted
  pub no_point : (k : Counts) → r.answer ≡ ran k → 0 < k.infeasibles → (x : List ℤ) → PointOf s x → ⊥
  -- each recorded implication holds at all of them, where those recorded before do; all do where the table was all 0
  pub holds : (x : List ℤ) → PointOf s x → TableHolds s.model.n s.table x → TableHolds s.model.n r.state.table x
  pub implied : s.table ≡ replicate (4 * (s.model.n * s.model.n)) 0 → (x : List ℤ) → PointOf s x → TableHolds s.model.n r.state.table x
  -- what it leaves is what calls left, each of which means what it means as a direct call: so in a list, too, a settle with a budget of
  -- at least the total width plus 1 is never Spent, and ends in the largest quiet box or None (02, C-24)
  pub made : (cs : List Call) × (r.state ≡ run s cs) × RunMeans s cs
  -- "No sharpening or dropping from sheets" (02, C-16): the rows, their right sides and kinds are what they were
  pub rows : r.state.model.rows ≡ s.model.rows
