-- Convergence: a large enough budget is never spent, and then propagation ends in the greatest fixpoint; rest in the demand's own
-- words; and rest can be reached.
use Rattle.std.specs.Prelude.{◌<◌, ◌≤◌, ℕ, T, pos, ℤ, ◌<ℤ◌, ◌≤ℤ◌, not, List, [], ◌∷◌, ◌↔◌, ◌≢◌, ◌⊎◌, ◌≡◌}
use Rattle.model.specs.Box.{Inside, NonEmpty, empty_box, is_free, width}
use Rattle.model.specs.Model.{Model}
use Rattle.model.specs.Rows.{Rows, row_at}
use Rattle.model.specs.State.{State}
use Rattle.model.specs.Valid.{ValidModel, ValidState}
use Rattle.row.specs.Outcome.{unchanged}
use Rattle.row.specs.Kinds.{propagate_row_of}
use Rattle.semantics.specs.Call.{Call, kind_of, probing, propagation}
use Rattle.semantics.specs.CallChecks.{call_fault, max_budget}
use Rattle.semantics.specs.Probe.{both_feasible, probe}
use Rattle.semantics.specs.Propagate.{Propagated, is_none, is_spent, propagate}
use Rattle.semantics.specs.RestTest.{Rest, at_rest, by_row, by_variable, is_probing_fixpoint, rest_of}
use Rattle.semantics.specs.Run.{run, step}
use Rattle.call_laws.specs.Fixpoint.{Fixpoint, GreatestFixpoint, SidesSpan}
use Rattle.call_laws.specs.Points.{AtRest}

-- r is what propagating B came to, and the budget was enough
pub record Ends (n m : ℕ) (A : Rows) (B : List ℤ) (r : Propagated) : Type 0 where
  pub not_spent : T (not (is_spent r.ending))
  -- None exactly where there is no quiet box inside
  pub none : T (is_none r.ending) → (P : List ℤ) → Fixpoint n m A P → Inside n P B → ⊥
  pub greatest : T (not (is_none r.ending)) → GreatestFixpoint n m A B r.box

-- proved as `propagate-ends`
unfoldable pub EnoughPasses : Type 0
EnoughPasses =
    (budget n m : ℕ) (A : Rows) (B : List ℤ) → 0 < n → NonEmpty n B → width n B <ℤ pos budget → Ends n m A B (propagate budget n m A B)

-- the total width of any accepted model is at most 128 × 4,096, so the largest budget is always enough (`width-limit`)
unfoldable pub LargestBudget : Type 0
LargestBudget = (M : Model) → ValidModel M → (width M.n M.box ≤ℤ pos 524_288) × (width M.n M.box <ℤ pos max_budget)

-- so is the sum of the bounds that a settle moves (02, C-11), which 32 bits hold (`propagate-moved-limit`)
unfoldable pub MovedLimit : Type 0
MovedLimit =
    (M : Model) → ValidModel M → (budget : ℕ) → (propagate budget M.n M.m M.rows M.box).moved ≤ 524_288

-- "contains every other": there is at most one largest quiet box (`greatest-unique`)
unfoldable pub UniqueGreatest : Type 0
UniqueGreatest = (n m : ℕ) (A : Rows) (B P Q : List ℤ) → GreatestFixpoint n m A B P → GreatestFixpoint n m A B Q → P ≡ Q

-- the test of the rest call says what 01's property says (`rest-test`)
unfoldable pub RestIsTested : Type 0
RestIsTested = (s : State) → ValidModel s.model → T (is_probing_fixpoint s.model.n s.model.m s.model.rows s.model.box) ↔ AtRest s

-- "no visit moves a bound, no probe carried to its end narrows or fixes anything": every visit answers Same, and every probe with
-- the largest budget answers Both and leaves the box
pub record NothingMoves (s : State) : Type 0 where
  pub non_empty : NonEmpty s.model.n s.model.box
  pub rows_leave : (i : ℕ) → i < s.model.m
      → let M = s.model in (propagate_row_of M.n (row_at M.n M.rows i) M.box).outcome ≡ unchanged
  pub both_sides : (k : ℕ) → k < s.model.n → T (is_free s.model.box k)
      → let M = s.model in ((a : ℕ) × ((probe k max_budget M.n M.m M.rows M.box s.table).ending ≡ both_feasible a))
  pub probes_leave : (k : ℕ) → k < s.model.n → T (is_free s.model.box k)
      → let M = s.model in (probe k max_budget M.n M.m M.rows M.box s.table).box ≡ M.box

-- proved as `rest-in-own-words`
unfoldable pub RestInOwnWords : Type 0
RestInOwnWords = (s : State) → ValidModel s.model → AtRest s ↔ ((s.model.box ≡ empty_box s.model.n) ⊎ NothingMoves s)

-- ---- what the rest call's no carries (02, C-13)

-- "the lowest row whose visit changes the box": of row r; a visit that answers None changes it too
pub record MovedByRow (s : State) (r : ℕ) : Type 0 where
  pub non_empty : NonEmpty s.model.n s.model.box
  pub row : r < s.model.m
  pub changes : let M = s.model in (propagate_row_of M.n (row_at M.n M.rows r) M.box).box ≢ M.box
  -- every lower one is fine
  pub lower : (i : ℕ) → i < r → let M = s.model in (propagate_row_of M.n (row_at M.n M.rows i) M.box).box ≡ M.box

-- "or, if none does, the lowest free 0-1 variable whose two sides fail 01's test": of variable k
pub record MovedByVariable (s : State) (k : ℕ) : Type 0 where
  -- "if none does"
  pub fixpoint : let M = s.model in Fixpoint M.n M.m M.rows M.box
  pub variable : k < s.model.n
  pub free : T (is_free s.model.box k)
  pub fails : let M = s.model in SidesSpan M.n M.m M.rows M.box k → ⊥
  -- every lower one is fine
  pub lower : (j : ℕ) → j < k → T (is_free s.model.box j) → let M = s.model in SidesSpan M.n M.m M.rows M.box j

-- what each answer says
unfoldable pub RestMeans : State → Rest → Type 0
RestMeans s at_rest = AtRest s
RestMeans s (by_row r) = MovedByRow s r
RestMeans s (by_variable k) = MovedByVariable s k

-- it is the answer exactly where what it says is so (`rest-answer`)
unfoldable pub RestAnswered : Type 0
RestAnswered = (s : State) → ValidModel s.model → (a : Rest)
    → let M = s.model in (rest_of M.n M.m M.rows M.box ≡ a) ↔ RestMeans s a

-- and a variable's no is seen by probing: a probe of it with the largest budget, which is never spent, changes the box (`rest-probe-moves`)
unfoldable pub ProbeMoves : Type 0
ProbeMoves = (s : State) → ValidModel s.model → (k : ℕ) → MovedByVariable s k
    → let M = s.model in (probe k max_budget M.n M.m M.rows M.box s.table).box ≢ M.box

-- a list of accepted settles and probes from s
unfoldable pub PropagateOrProbe : State → List Call → Type 0
PropagateOrProbe s [] = Unit {0}
PropagateOrProbe s (c ∷ cs) =
    (call_fault s c ≡ 0) × ((kind_of c.kind ≡ propagation) ⊎ (kind_of c.kind ≡ probing)) × PropagateOrProbe (step s c) cs

-- from every accepted model some list of settles and probes ends at rest
pub record RestReached (s : State) : Type 0 where
  pub calls : List Call
  pub kinds : PropagateOrProbe s calls
  pub rest : AtRest (run s calls)

-- proved as `rest-reached`
unfoldable pub Reachable : Type 0
Reachable = (s : State) → ValidState s → RestReached s
