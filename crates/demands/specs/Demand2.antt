-- Demand 2, of the definitions: what an accepted call means for the points, its answer's numbers, and what it leaves alone.
use Rattle.std.specs.Prelude.{◌*◌, ◌+◌, ◌<◌, ◌≤◌, ℕ, T, ◌+ℤ◌, pos, ℤ, get_or, ◌≤ℤ◌, Bool, cond, not, List, [], ◌∷◌, ◌↔◌, ◌≢◌, ◌≡◌}
use Rattle.model.specs.Box.{Inside, NonEmpty, at, empty_box, width}
use Rattle.model.specs.Rows.{Row, Rows, is_equality, row_at}
use Rattle.model.specs.State.{State}
use Rattle.model.specs.Valid.{ValidState}
use Rattle.row.specs.Kinds.{propagate_row_of}
use Rattle.row.specs.Moved.{moved_bounds}
use Rattle.row.specs.Outcome.{Outcome, is_changed, is_infeasible, is_unchanged, unchanged}
use Rattle.semantics.specs.Call.{Call, Kind, kind_of, probing, propagation, removal, row_propagation, tightening, unknown}
use Rattle.semantics.specs.CallChecks.{call_fault}
use Rattle.semantics.specs.Perform.{Answer, perform, probed, propagated, propagated_row, refused, removed, tightened}
use Rattle.semantics.specs.Probe.{ProbeEnding, Side, both_feasible, fix, ones}
use Rattle.semantics.specs.Propagate.{Ending, budget_spent, converged, infeasible, is_none, propagate}
use Rattle.semantics.specs.Run.{answers_none, run, step}
use Rattle.call_laws.specs.Fixpoint.{Fixpoint, GreatestFixpoint}
use Rattle.call_laws.specs.Points.{FractionalPointOf, PointOf}
use Rattle.demands.specs.Passes.{enough_budget}

-- "passes made, 1 to the pass budget"
abbrev pub PassesWithin : ℕ → ℕ → Type 0
PassesWithin budget passes = (1 ≤ passes) × (passes ≤ budget)

-- 02 (C-11), of a visit of the row r that answered o, with the boxes B before it and P after it
pub record RowMoved (n : ℕ) (r : Row) (B P : List ℤ) (o : Outcome) (k : ℕ) : Type 0 where
  -- "A visit answers Narrowed with the number of bounds that it moved, from 1 to n."; one of an = row "may report up to 2n bounds
  -- moved" (C-14)
  pub narrowed : T (is_changed o) → (1 ≤ k) × (k ≤ cond (is_equality r) (2 * n) n)
  -- "The number is that of bounds differing before and after each visit; a visit that answers None adds nothing."
  pub differing : T (not (is_infeasible o)) → k ≡ moved_bounds n B P
  pub none : T (is_infeasible o) → k ≡ 0
  pub same : T (is_unchanged o) → k ≡ 0

-- of a settle of p passes that moved k bounds, with the boxes B before it and P after it: "A settle carries the sum over its visits,
-- including those of a pass that ended in None."
pub record SumMoved (n : ℕ) (B P : List ℤ) (none : Bool) (p k : ℕ) : Type 0 where
  -- each pass but the last moved a bound
  pub each_pass : p ≤ k + 1
  -- each bound that moved made the box narrower: the sum is at most the width of the box, and where the answer is not None, at most
  -- the width that it lost
  pub at_most : NonEmpty n B → pos k ≤ℤ width n B
  pub lost : T (not none) → (pos k +ℤ width n P) ≤ℤ width n B
  -- none moved exactly if the box is the same; on the empty box none does
  pub still : T (not none) → (k ≡ 0) ↔ (P ≡ B)
  pub on_empty : B ≡ empty_box n → k ≡ 0

-- "A probe carries that sum for each side.": of side v of a probe, which is a settle of the box with the variable set to v
unfoldable pub SideMoved : State → Call → ℕ → Side → Type 0
SideMoved s c v side =
    let M = s.model in
    let B = fix M.n M.box c.variable v in
    let r = propagate c.budget M.n M.m M.rows B in
    (side.moved ≡ r.moved) × SumMoved M.n B r.box (is_none r.ending) side.passes side.moved

-- "some visit would still move a bound or answer None": it answers other than Same
abbrev pub StillMoves : ℕ → ℕ → Rows → List ℤ → Type 0
StillMoves n m A B = (r : ℕ) × (r < m) × ((propagate_row_of n (row_at n A r) B).outcome ≢ unchanged)

-- 02 (C-15), of a settle with a budget that made p passes, left the box P and ended as e: "None is given as before. From now on any other
-- answer is Spent exactly when the budget's passes are made and some visit would still move a bound or answer None; otherwise it is
-- Settled."
pub record EndsAs (budget n m : ℕ) (A : Rows) (P : List ℤ) (e : Ending) (p : ℕ) : Type 0 where
  -- Settled exactly when the box is quiet
  pub converges : (e ≡ converged) ↔ Fixpoint n m A P
  -- Spent exactly when it is not, is not void, and the passes are the budget's
  pub spent : (e ≡ budget_spent) ↔ (NonEmpty n P × (p ≡ budget) × StillMoves n m A P)

-- of side v of a probe, which is a settle of the box with the variable set to v: it is told to be Spent exactly then
unfoldable pub SideEnds : State → Call → ℕ → Side → Type 0
SideEnds s c v side =
    let M = s.model in
    let r = propagate c.budget M.n M.m M.rows (fix M.n M.box c.variable v) in
    T side.spent ↔ (NonEmpty M.n r.box × (side.passes ≡ c.budget) × StillMoves M.n M.m M.rows r.box)

-- 02 (C-24), of a settle of the box B "whose budget is at least the total width plus 1", that left the box P and ended as e
pub record EndsGreatest (n m : ℕ) (A : Rows) (B P : List ℤ) (e : Ending) : Type 0 where
  -- it "is never Spent"
  pub not_spent : e ≢ budget_spent
  -- "It ends in the largest quiet box inside the one given,"
  pub greatest : (e ≡ converged) ↔ GreatestFixpoint n m A B P
  -- "or None exactly when there is no quiet box inside."
  pub none : (e ≡ infeasible) ↔ ((Q : List ℤ) → Fixpoint n m A Q → Inside n Q B → ⊥)

-- of side v of a probe, whose budget is at least that of its own box, the one with the variable set to v
unfoldable pub SideGreatest : State → Call → ℕ → Side → Type 0
SideGreatest s c v side =
    let M = s.model in
    let B = fix M.n M.box c.variable v in
    let r = propagate c.budget M.n M.m M.rows B in
    enough_budget M.n B ≤ c.budget → T (not side.spent) × EndsGreatest M.n M.m M.rows B r.box r.ending

-- Same: a visit, a sharpen or a drop that changed nothing
unfoldable pub AnswersSame : Answer → Type 0
AnswersSame (refused number) = ⊥
AnswersSame (propagated_row o k) = o ≡ unchanged
AnswersSame (propagated e p k) = ⊥
AnswersSame (probed e s0 s1) = ⊥
AnswersSame (tightened o) = o ≡ unchanged
AnswersSame (removed o) = o ≡ unchanged

-- what a call of a kind leaves as it was
unfoldable pub Untouched : Kind → State → Call → State → Type 0
Untouched row_propagation s c r = (r.model.rows ≡ s.model.rows) × (r.table ≡ s.table)
Untouched propagation s c r = (r.model.rows ≡ s.model.rows) × (r.table ≡ s.table)
Untouched probing s c r = r.model.rows ≡ s.model.rows
Untouched tightening s c r =
    let A = s.model.rows in
    (r.model.box ≡ s.model.box) × (r.table ≡ s.table)
    × ((i : ℕ) → i ≢ c.row * s.model.n + c.variable → at r.model.rows.coefs i ≡ at A.coefs i)
    × ((i : ℕ) → i ≢ c.row → at r.model.rows.rhs i ≡ at A.rhs i)
    × (r.model.rows.kinds ≡ A.kinds)
Untouched removal s c r =
    let n = s.model.n in
    let A = s.model.rows in
    (r.model.box ≡ s.model.box) × (r.table ≡ s.table)
    × ((i j : ℕ) → j < n → i ≢ c.row → at r.model.rows.coefs (i * n + j) ≡ at A.coefs (i * n + j))
    × ((i : ℕ) → i ≢ c.row → at r.model.rows.rhs i ≡ at A.rhs i)
    × ((i : ℕ) → i ≢ c.row → get_or r.model.rows.kinds i 0 ≡ get_or A.kinds i 0)
Untouched unknown s c r = r ≡ s

-- of an accepted call
pub record CallMeans (s : State) (c : Call) : Type 0 where
  -- "After it the integer points are exactly those before it, and no fractional point is added."
  pub points : (x : List ℤ) → PointOf (perform s c).state x ↔ PointOf s x
  pub fractional : (x : List ℤ) (d : ℕ) → FractionalPointOf (perform s c).state x d → FractionalPointOf s x d
  -- None exactly where the box is empty afterwards; "`None` means that no integer point exists." A fractional one may: 2x = 5 with x
  -- from 0 to 5 is None, and x = 5/2 meets it.
  pub none : T (answers_none (perform s c).answer) ↔ ((perform s c).state.model.box ≡ empty_box s.model.n)
  pub no_point : T (answers_none (perform s c).answer) → (x : List ℤ) → PointOf s x → ⊥
  -- "every accepted call ends within its pass budget": a settle with 1 to budget passes, a probe's sides likewise, or 0 and 0 on
  -- the empty box
  pub passes : (e : Ending) (p k : ℕ) → (perform s c).answer ≡ propagated e p k → PassesWithin c.budget p
  pub side_passes : (e : ProbeEnding) (s0 s1 : Side) → (perform s c).answer ≡ probed e s0 s1 → s.model.box ≢ empty_box s.model.n
      → PassesWithin c.budget s0.passes × PassesWithin c.budget s1.passes
  pub empty_sides : (e : ProbeEnding) (s0 s1 : Side) → (perform s c).answer ≡ probed e s0 s1 → s.model.box ≡ empty_box s.model.n
      → (s0.passes ≡ 0) × (s1.passes ≡ 0)
  -- how many bounds moved (02, C-11): of a visit, of a settle, of the two sides of a probe
  pub row_moved : (o : Outcome) (k : ℕ) → (perform s c).answer ≡ propagated_row o k
      → let M = s.model in RowMoved M.n (row_at M.n M.rows c.row) M.box (perform s c).state.model.box o k
  pub moved : (e : Ending) (p k : ℕ) → (perform s c).answer ≡ propagated e p k
      → SumMoved s.model.n s.model.box (perform s c).state.model.box (is_none e) p k
  pub sides_moved : (e : ProbeEnding) (s0 s1 : Side) → (perform s c).answer ≡ probed e s0 s1 → s.model.box ≢ empty_box s.model.n
      → SideMoved s c 0 s0 × SideMoved s c 1 s1
  pub empty_sides_moved : (e : ProbeEnding) (s0 s1 : Side) → (perform s c).answer ≡ probed e s0 s1 → s.model.box ≡ empty_box s.model.n
      → (s0.moved ≡ 0) × (s1.moved ≡ 0)
  -- Settled or Spent (02, C-15): of a settle, of the two sides of a probe
  pub ends : (e : Ending) (p k : ℕ) → (perform s c).answer ≡ propagated e p k
      → let M = s.model in EndsAs c.budget M.n M.m M.rows (perform s c).state.model.box e p
  pub sides_end : (e : ProbeEnding) (s0 s1 : Side) → (perform s c).answer ≡ probed e s0 s1 → s.model.box ≢ empty_box s.model.n
      → SideEnds s c 0 s0 × SideEnds s c 1 s1
  -- the largest quiet box (02, C-24), where the budget is enough: of a settle, of the two sides of a probe
  pub greatest : (e : Ending) (p k : ℕ) → (perform s c).answer ≡ propagated e p k → enough_budget s.model.n s.model.box ≤ c.budget
      → let M = s.model in EndsGreatest M.n M.m M.rows M.box (perform s c).state.model.box e
  pub sides_greatest : (e : ProbeEnding) (s0 s1 : Side) → (perform s c).answer ≡ probed e s0 s1 → s.model.box ≢ empty_box s.model.n
      → SideGreatest s c 0 s0 × SideGreatest s c 1 s1
  -- "The answer Both has the number of bytes that went from 0 to 1."
  pub added : (a : ℕ) (s0 s1 : Side) → (perform s c).answer ≡ probed (both_feasible a) s0 s1
      → ones (perform s c).state.table ≡ ones s.table + a
  -- Same changes nothing
  pub same : AnswersSame (perform s c).answer → (perform s c).state ≡ s
  -- "where one that the call's rule doesn't name stays"
  pub sizes : ((perform s c).state.model.n ≡ s.model.n) × ((perform s c).state.model.m ≡ s.model.m)
  pub untouched : Untouched (kind_of c.kind) s c (perform s c).state
  -- a valid state stays valid: a list of calls need not check the model again
  pub valid : ValidState s → ValidState (perform s c).state

-- what each accepted call of a list means, from the state that those before it left; of a settle and of a side of a probe that have the
-- budget for it, that they end in the largest quiet box (C-24)
unfoldable pub EachMeans : State → List Call → Type 0
EachMeans s [] = Unit {0}
EachMeans s (c ∷ cs) = (call_fault s c ≡ 0 → CallMeans s c) × EachMeans (step s c) cs

-- of any list of calls, refused ones among them
pub record RunMeans (s : State) (cs : List Call) : Type 0 where
  pub each : EachMeans s cs
  pub points : (x : List ℤ) → PointOf (run s cs) x ↔ PointOf s x
  pub fractional : (x : List ℤ) (d : ℕ) → FractionalPointOf (run s cs) x d → FractionalPointOf s x d
  pub sizes : ((run s cs).model.n ≡ s.model.n) × ((run s cs).model.m ≡ s.model.m)
  pub valid : ValidState s → ValidState (run s cs)

-- proved as `demand-2` and `demand-2-runs`
unfoldable pub Demand2 : Type 0
Demand2 = (s : State) (c : Call) → call_fault s c ≡ 0 → CallMeans s c

unfoldable pub Demand2Runs : Type 0
Demand2Runs = (s : State) (cs : List Call) → RunMeans s cs
