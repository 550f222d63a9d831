-- Demand 2: what an accepted call means, kind by kind, and what any run keeps.
use Prim.Native.Nat.{◌+◌, ◌<◌, ◌≤◌, ℕ}
use lib.Dec.{T, not_T}
use lib.IntN.{ℤ}
use mathlib.Core.Bool.{not}
use mathlib.Core.List.{List, [], ◌∷◌}
use mathlib.Core.Logic.{◌↔◌, ◌⊎◌, ◌≢◌, inr, ⊎_elim}
use mathlib.Core.Path.{◌≡◌, ap, refl, subst, sym}
use Rattle.model.specs.Box.{NonEmpty, at, empty_box, is_empty}
use Rattle.model.specs.Model.{Model}
use Rattle.model.specs.Point.{IntegerPoint}
use Rattle.model.specs.Rows.{Row, Rows, row_at}
use Rattle.model.specs.State.{State, with_box, with_row}
use Rattle.model.specs.Valid.{ValidBox}
use Rattle.model.proofs.BoxLaws.{is_empty-test, not-in-empty}
use Rattle.row.specs.Kinds.{propagate_row_of}
use Rattle.row.specs.Outcome.{Outcome, changed, infeasible as infeasible_row, is_changed, is_infeasible, is_unchanged, unchanged}
use Rattle.row.proofs.ImpliedBoxLaws.{valid-non_empty}
use Rattle.row.proofs.KindChangeLaws.{remove-kinded-infeasible, remove-kinded-unchanged, tighten-kinded-infeasible, tighten-kinded-unchanged}
use Rattle.row.proofs.KindLaws.{kinded-feasible, kinded-infeasible-moved, kinded-moved}
use Rattle.row.proofs.KindMovedLaws.{kinded-moved-le, kinded-moved-some, kinded-still-moved}
use Rattle.row.proofs.PointBox.{box_at, in→Inside, non_empty-at}
use Rattle.row.proofs.PropagationLaws.{changed-feasible}
use Rattle.semantics.specs.Call.{Call, Kind, has_budget, has_row, has_table, has_variable, is_unknown, kind_of, probing, propagation, removal, row_propagation, tightening, unknown}
use Rattle.semantics.specs.CallChecks.{call_fault}
use Rattle.semantics.specs.Perform.{Answer, Performed, act, perform, probed, propagated, propagated_row, refused, removed, tightened}
use Rattle.semantics.specs.Probe.{ProbeEnding, Probed, both_feasible, fix, fixed, infeasible, ones, probe, side_of}
use Rattle.semantics.specs.Propagate.{is_none, is_spent, propagate}
use Rattle.semantics.specs.Run.{answers_none, step}
use Rattle.call_laws.proofs.Accepted.{Accepted, accepted}
use Rattle.call_laws.proofs.CallLaws.{kinded-infeasible-iff, kinded-same, perform-accepted}
use Rattle.call_laws.proofs.ImplicationLaws.{record_to-added}
use Rattle.call_laws.proofs.Preserved.{run-preserves, step-preserves}
use Rattle.call_laws.proofs.ProbeLaws.{fix-non_empty, probe-empty, probe-ind, probe-infeasible-iff, probe-passes0, probe-passes1, probe-side0, probe-side1}
use Rattle.call_laws.proofs.PropagateLaws.{propagate-empty, propagate-infeasible-iff, propagate-moved-iff, propagate-moved-le, propagate-moved-passes, propagate-moved-width, propagate-passes}
use Rattle.call_laws.proofs.RowChange.{with_row-same}
use Rattle.demands.specs.Demand2.{AnswersSame, Demand2, Demand2Runs, EachMeans, EndsAs, EndsGreatest, PassesWithin, RowMoved, SideEnds, SideGreatest, SideMoved, SumMoved, Untouched}
use Rattle.demands.specs.Passes.{enough_budget}
use Rattle.demands.proofs.Endings.{propagate-ends-as, spent-iff}
use Rattle.demands.proofs.Greatest.{propagate-greatest}
use Rattle.demands.proofs.Untouched.{removal-untouched, tightening-untouched}

-- ---- None exactly where the box is empty afterwards

act-none : (k : Kind) (s : State) (c : Call) → Accepted k s c → T (answers_none (act k s c).answer) ↔ ((act k s c).state.model.box ≡ empty_box s.model.n)
unfolding act answers_none with_box with_row is_unknown has_variable
act-none row_propagation s c a = kinded-infeasible-iff (row_at s.model.n s.model.rows c.row) a.model.some a.model.box
act-none propagation s c a = propagate-infeasible-iff c.budget s.model.m s.model.rows a.model.some a.model.box
act-none probing s c a =
    probe-infeasible-iff c.variable c.budget s.model.m s.model.rows s.table (a.free tt) a.model.some a.model.box
act-none tightening s c a =
    rw (tighten-kinded-infeasible s.model.n (row_at s.model.n s.model.rows c.row) s.model.box c.variable) (is_empty-test s.model.n s.model.box)
act-none removal s c a =
    rw (remove-kinded-infeasible s.model.n (row_at s.model.n s.model.rows c.row) s.model.box) (is_empty-test s.model.n s.model.box)
act-none unknown s c a = absurd a.kind

pub no-point : {M : Model} {x : List ℤ} → 0 < M.n → M.box ≡ empty_box M.n → IntegerPoint M x → ⊥
no-point {M} {x} h e p = not-in-empty M.n (box_at M.n x) h (non_empty-at M.n x) (rw e at (in→Inside p.inside))

-- ---- how many bounds moved

-- of a visit
row_moved_lem : (r : Row) {n : ℕ} {B : List ℤ} → ValidBox n B → let w = propagate_row_of n r B in RowMoved n r B w.box w.outcome w.moved
unfolding is_unchanged is_infeasible is_changed
row_moved_lem r {n} {B} v = record {
  narrowed = λ t. (kinded-moved-some r (found (changed-feasible (propagate_row_of n r B).outcome t)) t, kinded-moved-le n r B);
  differing = kinded-moved n r B;
  none = kinded-infeasible-moved n r B;
  same = λ t. let f = unchanged-is (propagate_row_of n r B).outcome t in kinded-still-moved r (found f.0) f.0 f.1;
}
  where
    found : T (not (is_infeasible (propagate_row_of n r B).outcome)) → NonEmpty n B
    found f = valid-non_empty v (kinded-feasible n r B f)

    unchanged-is : (o : Outcome) → T (is_unchanged o) → T (not (is_infeasible o)) × T (not (is_changed o))
    unchanged-is infeasible_row z = absurd z
    unchanged-is changed z = absurd z
    unchanged-is unchanged t = (tt, tt)

-- of a settle
sum_moved : (budget m : ℕ) (A : Rows) {n : ℕ} {B : List ℤ} → (B ≡ empty_box n) ⊎ NonEmpty n B
    → let r = propagate budget n m A B in SumMoved n B r.box (is_none r.ending) r.passes r.moved
unfolding is_none
sum_moved budget m A {n} {B} v = record {
  each_pass = propagate-moved-passes n m A budget B;
  at_most = propagate-moved-le m A budget;
  lost = propagate-moved-width n m A budget B;
  still = λ t. ⊎_elim
      (λ (e : B ≡ empty_box n). absurd (rw (e, propagate-empty budget n m A) at t)) (λ p. propagate-moved-iff m A budget p t) v;
  on_empty = λ e. rw (e, propagate-empty budget n m A);
}

-- ---- the numbers of an answer; P and t are the box and the table afterwards

abbrev Added : List ℕ → List ℕ → ProbeEnding → Type 0
Added before t infeasible = Unit {0}
Added before t (fixed v) = Unit {0}
Added before t (both_feasible a) = ones t ≡ ones before + a

abbrev Numbers : State → Call → List ℤ → List ℕ → Answer → Type 0
Numbers s c P t (refused number) = Unit {0}
Numbers s c P t (propagated_row o k) = RowMoved s.model.n (row_at s.model.n s.model.rows c.row) s.model.box P o k
Numbers s c P t (propagated e p k) =
    PassesWithin c.budget p × SumMoved s.model.n s.model.box P (is_none e) p k
    × EndsAs c.budget s.model.n s.model.m s.model.rows P e p
    × (enough_budget s.model.n s.model.box ≤ c.budget → EndsGreatest s.model.n s.model.m s.model.rows s.model.box P e)
Numbers s c P t (probed e s0 s1) =
    (s.model.box ≢ empty_box s.model.n → PassesWithin c.budget s0.passes × PassesWithin c.budget s1.passes)
    × (s.model.box ≡ empty_box s.model.n → (s0.passes ≡ 0) × (s1.passes ≡ 0))
    × Added s.table t e
    × (s.model.box ≢ empty_box s.model.n → SideMoved s c 0 s0 × SideMoved s c 1 s1)
    × (s.model.box ≡ empty_box s.model.n → (s0.moved ≡ 0) × (s1.moved ≡ 0))
    × (s.model.box ≢ empty_box s.model.n → SideEnds s c 0 s0 × SideEnds s c 1 s1)
    × (s.model.box ≢ empty_box s.model.n → SideGreatest s c 0 s0 × SideGreatest s c 1 s1)
Numbers s c P t (tightened o) = Unit {0}
Numbers s c P t (removed o) = Unit {0}

module _ (s : State) (c : Call) (a : Accepted probing s c) where
  abbrev result : Probed
  result = probe c.variable c.budget s.model.n s.model.m s.model.rows s.model.box s.table

  side-moved : NonEmpty s.model.n s.model.box → (v : ℕ)
      → SideMoved s c v (side_of (propagate c.budget s.model.n s.model.m s.model.rows (fix s.model.n s.model.box c.variable v)))
  unfolding SideMoved side_of
  side-moved p v = (refl, sum_moved c.budget s.model.m s.model.rows (inr (fix-non_empty c.variable v p)))

  side-ends : NonEmpty s.model.n s.model.box → (v : ℕ)
      → SideEnds s c v (side_of (propagate c.budget s.model.n s.model.m s.model.rows (fix s.model.n s.model.box c.variable v)))
  unfolding SideEnds side_of
  side-ends p v =
      let r = propagate c.budget s.model.n s.model.m s.model.rows (fix s.model.n s.model.box c.variable v) in
      let e = propagate-ends-as s.model.m s.model.rows a.model.some c.budget (inr (fix-non_empty c.variable v p)) in
      let i = spent-iff r.ending in
      ((λ t. e.spent.0 (i.1 t)), (λ q. i.0 (e.spent.1 q)))

  side-greatest : NonEmpty s.model.n s.model.box → (v : ℕ)
      → SideGreatest s c v (side_of (propagate c.budget s.model.n s.model.m s.model.rows (fix s.model.n s.model.box c.variable v)))
  unfolding SideGreatest side_of
  side-greatest p v w =
      let r = propagate c.budget s.model.n s.model.m s.model.rows (fix s.model.n s.model.box c.variable v) in
      let g = propagate-greatest c.budget s.model.m s.model.rows a.model.some (inr (fix-non_empty c.variable v p)) w in
      (not_T (is_spent r.ending) (λ t. g.not_spent ((spent-iff r.ending).1 t)), g)

  probe-numbers : Numbers s c result.box result.table (probed result.ending result.side0 result.side1)
  unfolding has_budget has_variable has_table
  probe-numbers = (
    (λ ne. let h = (a.budget tt).0 in let t = found ne in (
      probe-passes0 c.variable c.budget s.model.n s.model.m s.model.rows s.model.box s.table t h,
      probe-passes1 c.variable c.budget s.model.n s.model.m s.model.rows s.model.box s.table t h,
    )),
    (λ e. rw (e, probe-empty c.variable c.budget s.model.n s.model.m s.model.rows s.table) (refl, refl)),
    probe-ind c.variable c.budget s.model.n s.model.m s.model.rows s.model.box s.table (λ r. Added s.table r.table r.ending)
        (λ _. tt) (λ _ _ _. tt) (λ _ _ _. tt) (λ _ _ _. tt)
        (λ _ _ _. record_to-added s.model.n c.variable s.model.box _ _ s.table (a.variable tt) (a.table tt)),
    (λ ne. let t = found ne in let p = valid-non_empty a.model.box t in (
      subst (SideMoved s c 0) (sym (probe-side0 c.variable c.budget s.model.n s.model.m s.model.rows s.model.box s.table t)) (side-moved p 0),
      subst (SideMoved s c 1) (sym (probe-side1 c.variable c.budget s.model.n s.model.m s.model.rows s.model.box s.table t)) (side-moved p 1),
    )),
    (λ e. rw (e, probe-empty c.variable c.budget s.model.n s.model.m s.model.rows s.table) (refl, refl)),
    (λ ne. let t = found ne in let p = valid-non_empty a.model.box t in (
      subst (SideEnds s c 0) (sym (probe-side0 c.variable c.budget s.model.n s.model.m s.model.rows s.model.box s.table t)) (side-ends p 0),
      subst (SideEnds s c 1) (sym (probe-side1 c.variable c.budget s.model.n s.model.m s.model.rows s.model.box s.table t)) (side-ends p 1),
    )),
    (λ ne. let t = found ne in let p = valid-non_empty a.model.box t in (
      subst (SideGreatest s c 0) (sym (probe-side0 c.variable c.budget s.model.n s.model.m s.model.rows s.model.box s.table t)) (side-greatest p 0),
      subst (SideGreatest s c 1) (sym (probe-side1 c.variable c.budget s.model.n s.model.m s.model.rows s.model.box s.table t)) (side-greatest p 1),
    )),
  )
    where
      found : s.model.box ≢ empty_box s.model.n → T (not (is_empty s.model.n s.model.box))
      found ne = not_T (is_empty s.model.n s.model.box) (λ t. ne ((is_empty-test s.model.n s.model.box).0 t))

act-numbers : (k : Kind) (s : State) (c : Call) → Accepted k s c
    → Numbers s c (act k s c).state.model.box (act k s c).state.table (act k s c).answer
unfolding act with_box with_row has_budget
act-numbers row_propagation s c a = row_moved_lem (row_at s.model.n s.model.rows c.row) a.model.box
act-numbers propagation s c a = (
  propagate-passes s.model.n s.model.m s.model.rows c.budget s.model.box (a.budget tt).0,
  sum_moved c.budget s.model.m s.model.rows a.model.box.shape,
  propagate-ends-as s.model.m s.model.rows a.model.some c.budget a.model.box.shape,
  propagate-greatest c.budget s.model.m s.model.rows a.model.some a.model.box.shape,
)
act-numbers probing s c a = probe-numbers s c a
act-numbers tightening s c a = tt
act-numbers removal s c a = tt
act-numbers unknown s c a = tt

-- ---- Same changes nothing, and what a kind leaves alone

act-same : (k : Kind) (s : State) (c : Call) → Accepted k s c → AnswersSame (act k s c).answer → (act k s c).state ≡ s
unfolding act AnswersSame with_box is_unknown is_changed
act-same row_propagation s c a e =
    ap (λ (P : List ℤ). with_box s P s.table) (kinded-same (row_at s.model.n s.model.rows c.row) a.model.box e)
act-same propagation s c a z = absurd z
act-same probing s c a z = absurd z
act-same tightening s c a e =
    with_row-same s c.row _ (tighten-kinded-unchanged s.model.n (row_at s.model.n s.model.rows c.row) s.model.box c.variable (rw e tt))
act-same removal s c a e =
    with_row-same s c.row _ (remove-kinded-unchanged s.model.n (row_at s.model.n s.model.rows c.row) s.model.box (rw e tt))
act-same unknown s c a z = absurd z

act-untouched : (k : Kind) (s : State) (c : Call) → Accepted k s c → Untouched k s c (act k s c).state
unfolding act Untouched with_box has_row
act-untouched row_propagation s c a = (refl, refl)
act-untouched propagation s c a = (refl, refl)
act-untouched probing s c a = refl
act-untouched tightening s c a = tightening-untouched s c a.model (a.row tt)
act-untouched removal s c a = removal-untouched s c a.model (a.row tt)
act-untouched unknown s c a = refl

-- ---- the demand

-- what holds of an accepted call as its kind acts holds of it as it is performed
of-act : (s : State) (c : Call) → call_fault s c ≡ 0 → (P : Performed → Type 0) → P (act (kind_of c.kind) s c) → P (perform s c)
of-act s c e P p = subst P (sym (perform-accepted s c e)) p

pub demand-2 : Demand2
unfolding Demand2 step
demand-2 s c e =
    let k = kind_of c.kind in
    let a = accepted s c e in
    let p = step-preserves s c in
    let none = of-act s c e (λ r. T (answers_none r.answer) ↔ (r.state.model.box ≡ empty_box s.model.n)) (act-none k s c a) in
    let numbers = of-act s c e (λ r. Numbers s c r.state.model.box r.state.table r.answer) (act-numbers k s c a) in
    let with : (b : Answer) → (perform s c).answer ≡ b → Numbers s c (perform s c).state.model.box (perform s c).state.table b =
    (λ b g. subst (Numbers s c (perform s c).state.model.box (perform s c).state.table) g numbers) in
    record {
      points = p.points;
      fractional = p.fractional;
      none = none;
      no_point = λ t x z. no-point (rw p.sizes.0 a.model.some) (rw p.sizes.0 (none.0 t)) ((p.points x).1 z);
      passes = λ b q k g. (with (propagated b q k) g).0;
      side_passes = λ b s0 s1 g. (with (probed b s0 s1) g).0;
      empty_sides = λ b s0 s1 g. (with (probed b s0 s1) g).1;
      row_moved = λ o k g. with (propagated_row o k) g;
      moved = λ b q k g. (with (propagated b q k) g).1;
      sides_moved = λ b s0 s1 g. (with (probed b s0 s1) g).3;
      empty_sides_moved = λ b s0 s1 g. (with (probed b s0 s1) g).4;
      ends = λ b q k g. (with (propagated b q k) g).2;
      sides_end = λ b s0 s1 g. (with (probed b s0 s1) g).5;
      greatest = λ b q k g. (with (propagated b q k) g).3;
      sides_greatest = λ b s0 s1 g. (with (probed b s0 s1) g).6;
      added = λ b s0 s1 g. (with (probed (both_feasible b) s0 s1) g).2;
      same = of-act s c e (λ r. AnswersSame r.answer → r.state ≡ s) (act-same k s c a);
      sizes = p.sizes;
      untouched = of-act s c e (λ r. Untouched k s c r.state) (act-untouched k s c a);
      valid = p.valid;
    }

each-means : (s : State) (cs : List Call) → EachMeans s cs
unfolding EachMeans Demand2
each-means s [] = tt
each-means s (c ∷ cs) = (demand-2 s c, each-means (step s c) cs)

pub demand-2-runs : Demand2Runs
unfolding Demand2Runs
demand-2-runs s cs =
    let p = run-preserves s cs in record { each = each-means s cs; points = p.points; fractional = p.fractional; sizes = p.sizes; valid = p.valid }
