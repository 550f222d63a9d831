-- Calls that change nothing: a settle that leaves the box made one pass, which moved nothing; a probe that leaves it has two sides, and
-- each that is not Spent is the greatest fixpoint of its own box. So is a run that changes nothing, unless it comes to None.
use Prim.Native.Nat.{◌<◌, ℕ}
use lib.Dec.{T, T_not, eqb}
use lib.IntN.{ℤ}
use mathlib.Core.Bool.{◌||◌, not}
use mathlib.Core.List.{List, [], ◌∷◌}
use mathlib.Core.Logic.{◌≢◌, inr}
use mathlib.Core.Path.{◌∙◌, ◌≡◌, ap, refl, subst, sym}
use native.Mathlib.Omega.{arith}
use Rattle.integer.proofs.Tests.{cond_ind, false→T, not-or-l, not-or-r}
use Rattle.model.specs.Box.{NonEmpty, empty_box, is_empty}
use Rattle.model.specs.Rows.{Rows, row_at}
use Rattle.model.specs.State.{State, with_box, with_row}
use Rattle.model.proofs.BoxLaws.{non_empty-isn't}
use Rattle.row.proofs.KindLaws.{kinded-empty}
use Rattle.semantics.specs.Call.{Call, Kind, kind_of, probing, propagation, removal, row_propagation, tightening, unknown}
use Rattle.semantics.specs.CallChecks.{call_fault}
use Rattle.semantics.specs.Perform.{Answer, Performed, act, perform, probed, propagated, propagated_row, refused, removed, tightened}
use Rattle.semantics.specs.Probe.{fix, side_of}
use Rattle.semantics.specs.Propagate.{Ending, budget_spent, converged, infeasible, is_none, is_spent, propagate}
use Rattle.semantics.specs.Run.{answers_none, changed_call, class_of, is_refused, probe_infeasible, run, step}
use Rattle.call_laws.specs.Fixpoint.{Fixpoint, GreatestFixpoint, SidesSpan}
use Rattle.call_laws.proofs.CallLaws.{step-ind}
use Rattle.call_laws.proofs.Convergence.{side-moves}
use Rattle.call_laws.proofs.ProbeLaws.{fix-non_empty, probe-empty, probe-ind}
use Rattle.call_laws.proofs.PropagateLaws.{propagate-empty, propagate-keeps, propagate-moved-iff, propagate-moved-passes, propagate-shrinks}
use Rattle.demands.specs.Demand2.{Demand2}
use Rattle.demands.specs.Measure.{CallsLower}
use Rattle.demands.specs.Unmoved.{UnmovedFixpoint, UnmovedSpans}
use Rattle.demands.proofs.Demand2.{demand-2}
use Rattle.demands.proofs.Endings.{propagate-ends-as}
use Rattle.demands.proofs.Measure.{accepted-call, call-lowers, class-ind}

-- ---- one settle

-- neither None nor Spent is Settled
converged-is : (e : Ending) → T (not (is_none e)) → (e ≡ budget_spent → ⊥) → e ≡ converged
unfolding is_none
converged-is infeasible t f = absurd t
converged-is converged t f = refl
converged-is budget_spent t f = absurd (f refl)

pub unmoved-fixpoint : UnmovedFixpoint
unfolding UnmovedFixpoint
unmoved-fixpoint budget n m A B h p b t same =
    let r = propagate budget n m A B in
    let e = propagate-ends-as m A h budget (inr p) in
    let z = (propagate-moved-iff m A budget p t).1 same in
    let l = propagate-moved-passes n m A budget B in
    let spent : r.ending ≡ budget_spent → ⊥ = λ q. let w = (e.spent.0 q).1 in let y : ⊥ = omega arith in y in
    subst (Fixpoint n m A) same (e.converges.0 (converged-is r.ending t spent))

-- ---- one probe

not-spent : (e : Ending) → T (not (is_spent e)) → e ≡ budget_spent → ⊥
unfolding is_spent
not-spent e t q = subst (λ (x : Ending). T (not (is_spent x))) q t

-- a settle that is neither None nor Spent, whatever its budget, ends in the greatest fixpoint inside its box
pub converged-greatest : (budget m : ℕ) (A : Rows) {n : ℕ} {B : List ℤ} → 0 < n → NonEmpty n B → let r = propagate budget n m A B in
    T (not (is_none r.ending)) → T (not (is_spent r.ending)) → GreatestFixpoint n m A B r.box
converged-greatest budget m A {n} {B} h p t u =
    let r = propagate budget n m A B in
    record {
      fixpoint = (propagate-ends-as m A h budget (inr p)).converges.0 (converged-is r.ending t (not-spent r.ending u));
      inside = propagate-shrinks n m A budget B t;
      greatest = λ Q q i. propagate-keeps h q budget i;
    }

pub unmoved-spans : UnmovedSpans
unfolding UnmovedSpans probe_infeasible side_of
unmoved-spans k budget n m A B t kn p f =
    let h : 0 < n = omega arith in
    probe-ind k budget n m A B t
    (λ r. T (not (probe_infeasible r.ending)) → T (not (r.side0.spent || r.side1.spent)) → r.box ≡ B → SidesSpan n m A B k)
    (λ e _ _ _. absurd (T_not (is_empty n B) (false→T (is_empty n B) (non_empty-isn't h p)) e))
    (λ _ _ _ z. absurd z)
    (λ _ _ y _ _ e. absurd (side-moves n m A B k kn f budget 1 y e))
    (λ _ x _ _ _ e. absurd (side-moves n m A B k kn f budget 0 x e))
    (λ _ x y _ u e.
    let a = is_spent (propagate budget n m A (fix n B k 0)).ending in
    let b = is_spent (propagate budget n m A (fix n B k 1)).ending in
    record {
      q0 = (propagate budget n m A (fix n B k 0)).box;
      q1 = (propagate budget n m A (fix n B k 1)).box;
      greatest0 = converged-greatest budget m A h (fix-non_empty k 0 p) x (not-or-l a b u);
      greatest1 = converged-greatest budget m A h (fix-non_empty k 1 p) y (not-or-r a b u);
      span = e;
    })

-- ---- a run that changes nothing

-- an empty box stays empty
pub step-empty : (s : State) (c : Call) → s.model.box ≡ empty_box s.model.n → (step s c).model.box ≡ empty_box (step s c).model.n
unfolding act with_box with_row
step-empty s c e = step-ind s c (λ r. r.model.box ≡ empty_box r.model.n) (λ _. of (kind_of c.kind)) e
  where
    of : (k : Kind) → (act k s c).state.model.box ≡ empty_box (act k s c).state.model.n
    of row_propagation = rw (e, kinded-empty s.model.n (row_at s.model.n s.model.rows c.row))
    of propagation = rw (e, propagate-empty c.budget s.model.n s.model.m s.model.rows)
    of probing = rw (e, probe-empty c.variable c.budget s.model.n s.model.m s.model.rows s.table)
    of tightening = e
    of removal = e
    of unknown = e

pub run-empty : (s : State) (cs : List Call) → s.model.box ≡ empty_box s.model.n → (run s cs).model.box ≡ empty_box (run s cs).model.n
unfolding run
run-empty s [] e = e
run-empty s (c ∷ cs) e = run-empty (step s c) cs (step-empty s c e)

-- a refused call leaves the state, and is not None
refused-step : (s : State) (c : Call) → T (is_refused (perform s c).answer) → step s c ≡ s
unfolding step perform is_refused act
refused-step s c = cond_ind (eqb (call_fault s c) 0) _ _ (λ (r : Performed). T (is_refused r.answer) → r.state ≡ s) (λ _. of (kind_of c.kind)) (λ _ _. refl)
  where
    of : (k : Kind) → T (is_refused (act k s c).answer) → (act k s c).state ≡ s
    of row_propagation z = absurd z
    of propagation z = absurd z
    of probing z = absurd z
    of tightening z = absurd z
    of removal z = absurd z
    of unknown _ = refl

refused-not-none : (a : Answer) → T (is_refused a) → T (not (answers_none a))
unfolding is_refused answers_none
refused-not-none (refused number) t = tt
refused-not-none (propagated_row o moved) z = absurd z
refused-not-none (propagated e passes moved) z = absurd z
refused-not-none (probed e s0 s1) z = absurd z
refused-not-none (tightened o) z = absurd z
refused-not-none (removed o) z = absurd z

-- a call that does not count as changed and leaves no empty box leaves the state, and is not None
pub still-step : (s : State) (c : Call) → class_of s c ≢ changed_call → (step s c).model.box ≢ empty_box (step s c).model.n
    → (step s c ≡ s) × T (not (answers_none (perform s c).answer))
unfolding CallsLower Demand2 step
still-step s c same full = class-ind s c (λ k. k ≡ class_of s c → (step s c ≡ s) × T (not (answers_none (perform s c).answer)))
    (λ t _. (refused-step s c t, refused-not-none (perform s c).answer t))
    (λ r t _. absurd (emptied r t))
    (λ _ u _ e. ((call-lowers s c).unchanged (sym e), u))
    (λ _ _ _ e. absurd (same (sym e)))
    refl
  where
    emptied : T (not (is_refused (perform s c).answer)) → T (answers_none (perform s c).answer) → ⊥
    emptied r t = let m = demand-2 s c (accepted-call s c r) in full (m.none.0 t ∙ ap empty_box (sym m.sizes.0))
