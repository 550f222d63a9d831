-- Rest can be reached: where the test of the rest call fails, a settle or a probe with the largest budget makes the box empty or
-- narrower, and the width cannot fall for ever.
use Prim.Native.Nat.{◌<◌, suc, zero, ℕ}
use lib.Dec.{T, T_not}
use lib.IntN.{pos, ℤ}
use lib.Signed.{◌<ℤ◌}
use mathlib.Core.Bool.{Bool, ◌&&◌, ◌||◌, not}
use mathlib.Core.List.{List, [], ◌∷◌}
use mathlib.Core.Logic.{◌≢◌, ◌⊎◌, inl, inr, ⊎_elim}
use mathlib.Core.Path.{◌≡◌, refl, subst}
use native.Mathlib.Omega.{arith}
use Rattle.integer.specs.Index.{all}
use Rattle.integer.proofs.IndexLaws.{not-all}
use Rattle.integer.proofs.Parts.{zarith}
use Rattle.integer.proofs.Tests.{decide, lt-or-ge, not-and, not-not, not-or-l, not-or-r, or_inr}
use Rattle.model.specs.Box.{Inside, NonEmpty, empty_box, is_empty, is_free, width}
use Rattle.model.specs.Checks.{table}
use Rattle.model.specs.Rows.{Rows}
use Rattle.model.specs.State.{State, with_box}
use Rattle.model.specs.Valid.{ValidModel, ValidState}
use Rattle.row.proofs.Width.{width-nonneg, width_same}
use Rattle.semantics.specs.Books.{call_on, probe_call as probe_call, propagate_call}
use Rattle.semantics.specs.Call.{Call, has_budget, has_row, has_table, has_variable, is_unknown, kind_of, probing, propagation}
use Rattle.semantics.specs.CallChecks.{call_fault, max_budget}
use Rattle.semantics.specs.FixpointTest.{is_fixpoint}
use Rattle.semantics.specs.Perform.{act}
use Rattle.semantics.specs.Probe.{probe}
use Rattle.semantics.specs.Propagate.{is_none, propagate}
use Rattle.semantics.specs.RestTest.{is_probing_fixpoint, sides_span}
use Rattle.semantics.specs.Run.{run, step}
use Rattle.call_laws.specs.Convergence.{EnoughPasses, LargestBudget, PropagateOrProbe, Reachable, RestIsTested, RestReached}
use Rattle.call_laws.specs.Fixpoint.{Fixpoint, ProbingFixpoint}
use Rattle.call_laws.specs.Points.{AtRest}
use Rattle.call_laws.proofs.Accepted.{accepts, lent-own}
use Rattle.call_laws.proofs.CallLaws.{step-accepted}
use Rattle.call_laws.proofs.Convergence.{fixpoint-test, probe-moves, propagate-ends, rest-test, span-test, width-limit}
use Rattle.call_laws.proofs.Preserved.{step-preserves}
use Rattle.call_laws.proofs.ProbeLaws.{probe-narrower}
use Rattle.call_laws.proofs.PropagateLaws.{propagate-infeasible-box}

-- ---- the two calls are accepted

propagate-accepted : (s : State) → ValidModel s.model → call_fault s (propagate_call s max_budget) ≡ 0
unfolding propagate_call call_on kind_of has_budget has_row has_table has_variable is_unknown
propagate-accepted s v = accepts s (propagate_call s max_budget) (record {
  lent = lent-own refl refl refl;
  model = v;
  table = λ z. absurd z;
  kind = tt;
  row = λ z. absurd z;
  variable = λ z. absurd z;
  free = λ z. absurd z;
  budget = λ _. (omega arith, omega arith);
})

probe-accepted : (s : State) (k : ℕ) → ValidState s → k < s.model.n → T (is_free s.model.box k) → call_fault s (probe_call s k max_budget) ≡ 0
unfolding probe_call call_on kind_of has_budget has_row has_table has_variable is_unknown
probe-accepted s k v h f = accepts s (probe_call s k max_budget) (record {
  lent = lent-own refl refl refl;
  model = v.model;
  table = λ _. v.table;
  kind = tt;
  row = λ z. absurd z;
  variable = λ _. h;
  free = λ _. or_inr (is_empty s.model.n s.model.box) (is_free s.model.box k) f;
  budget = λ _. (omega arith, omega arith);
})

-- ---- what they leave

propagate-step : (s : State) → ValidModel s.model
    → step s (propagate_call s max_budget) ≡ with_box s (propagate max_budget s.model.n s.model.m s.model.rows s.model.box).box s.table
unfolding act kind_of propagate_call call_on
propagate-step s v = step-accepted s (propagate_call s max_budget) (propagate-accepted s v)

probe-step : (s : State) (k : ℕ) → ValidState s → k < s.model.n → T (is_free s.model.box k)
    → let r = probe k max_budget s.model.n s.model.m s.model.rows s.model.box s.table in
    step s (probe_call s k max_budget) ≡ with_box s r.box r.table
unfolding act kind_of probe_call call_on
probe-step s k v h f = step-accepted s (probe_call s k max_budget) (probe-accepted s k v h f)

-- ---- a call that makes the box empty or narrower

-- the box is empty, or narrower than B
abbrev Less : ℕ → List ℤ → List ℤ → Type 0
Less n P B = (P ≡ empty_box n) ⊎ (width n P <ℤ width n B)

less-of : {n : ℕ} {P B : List ℤ} → NonEmpty n P → NonEmpty n B → Inside n P B → P ≢ B → width n P <ℤ width n B
less-of {n} {P} {B} p b i ne = ⊎_elim (λ l. l) (λ g. absurd (ne (width_same i p.len b.len g))) (lt-or-ge (width n P) (width n B))

module _ (n m : ℕ) (A : Rows) (B : List ℤ) (h : 0 < n) (p : NonEmpty n B) (w : width n B <ℤ pos max_budget) where
  -- a settle, where a row moves a bound
  propagate-less : T (not (is_fixpoint n m A B)) → Less n (propagate max_budget n m A B).box B
  unfolding EnoughPasses
  propagate-less u = ⊎_elim (λ t. inl (propagate-infeasible-box n m A max_budget B t))
      (λ t. let g = (propagate-ends max_budget n m A B h p w).greatest t in
      inr (less-of g.fixpoint.non_empty p g.inside
      (λ e. T_not (is_fixpoint n m A B) u ((fixpoint-test n m A B p).1 (subst (Fixpoint n m A) e g.fixpoint)))))
      (decide (is_none (propagate max_budget n m A B).ending))

  -- a probe of a free variable whose sides do not span the box
  probe-less : (k : ℕ) (t : List ℕ) → k < n → T (is_free B k) → T (not (sides_span n m A B k)) → Less n (probe k max_budget n m A B t).box B
  probe-less k t kn f u =
      ⊎_elim (λ e. inl e)
      (λ q. inr (less-of q.0 p q.1 (probe-moves n m A B h p w k t kn f (λ s. T_not (sides_span n m A B k) u ((span-test n m A B h p w k f).1 s)))))
      (probe-narrower k max_budget m A t (or_inr (is_empty n B) (is_free B k) f) p)

-- where the box is not at rest, some accepted settle or probe makes it empty or narrower
record Progress (s : State) : Type 0 where
  pub call : Call
  pub accepted : call_fault s call ≡ 0
  pub kind : (kind_of call.kind ≡ propagation) ⊎ (kind_of call.kind ≡ probing)
  pub valid : ValidState (step s call)
  pub less : ((step s call).model.box ≡ empty_box (step s call).model.n) ⊎ (width (step s call).model.n (step s call).model.box <ℤ width s.model.n s.model.box)

module _ (s : State) (v : ValidState s) (p : NonEmpty s.model.n s.model.box) where
  wide : width s.model.n s.model.box <ℤ pos max_budget
  unfolding LargestBudget
  wide = (width-limit s.model v.model).1

  propagate-progress : T (not (is_fixpoint s.model.n s.model.m s.model.rows s.model.box)) → Progress s
  unfolding kind_of propagate_call call_on with_box
  propagate-progress u = record {
    call = propagate_call s max_budget;
    accepted = propagate-accepted s v.model;
    kind = inl refl;
    valid = (step-preserves s (propagate_call s max_budget)).valid v;
    less = rw (propagate-step s v.model) (propagate-less s.model.n s.model.m s.model.rows s.model.box v.model.some p wide u);
  }

  probe-progress : (k : ℕ) → k < s.model.n → T (is_free s.model.box k) → T (not (sides_span s.model.n s.model.m s.model.rows s.model.box k)) → Progress s
  unfolding kind_of probe_call call_on with_box
  probe-progress k kn f u = record {
    call = probe_call s k max_budget;
    accepted = probe-accepted s k v kn f;
    kind = inr refl;
    valid = (step-preserves s (probe_call s k max_budget)).valid v;
    less = rw (probe-step s k v kn f) (probe-less s.model.n s.model.m s.model.rows s.model.box v.model.some p wide k s.table kn f u);
  }

  progress : T (not (is_probing_fixpoint s.model.n s.model.m s.model.rows s.model.box)) → Progress s
  unfolding is_probing_fixpoint
  progress u = ⊎_elim propagate-progress (λ t. probed (not-all s.model.n one t))
      (not-and F (all s.model.n one) (not-or-r (is_empty s.model.n s.model.box) (F && all s.model.n one) u))
    where
      F : Bool
      F = is_fixpoint s.model.n s.model.m s.model.rows s.model.box

      one : ℕ → Bool
      one k = not (is_free s.model.box k) || sides_span s.model.n s.model.m s.model.rows s.model.box k

      probed : ((k : ℕ) × (k < s.model.n) × T (not (one k))) → Progress s
      probed q =
          let k = q.0 in
          let a = not (is_free s.model.box k) in
          let b = sides_span s.model.n s.model.m s.model.rows s.model.box k in
          probe-progress k q.1 (not-not (is_free s.model.box k) (not-or-l a b q.2)) (not-or-r a b q.2)

-- ---- so rest is reached

rest-now : (s : State) → AtRest s → RestReached s
unfolding PropagateOrProbe run
rest-now s a = record { calls = []; kinds = tt; rest = a }

rest-empty : (s : State) → s.model.box ≡ empty_box s.model.n → RestReached s
unfolding ProbingFixpoint
rest-empty s e = rest-now s (inl e)

rest-after : (s : State) (g : Progress s) → RestReached (step s g.call) → RestReached s
unfolding PropagateOrProbe run
rest-after s g r = record { calls = g.call ∷ r.calls; kinds = (g.accepted, g.kind, r.kinds); rest = r.rest }

rest-within : (limit : ℕ) (s : State) → ValidState s → width s.model.n s.model.box <ℤ pos limit → RestReached s
unfolding RestIsTested
rest-within zero s v w =
    ⊎_elim (rest-empty s) (λ p. absurd (let g = width-nonneg p in let z : ⊥ = omega zarith in z)) v.model.box.shape
rest-within (suc limit) s v w = ⊎_elim
    (λ t. rest-now s ((rest-test s v.model).0 t))
    (λ u. ⊎_elim (rest-empty s)
    (λ p. let g = progress s v p u in
    rest-after s g (⊎_elim (rest-empty (step s g.call)) (λ l. rest-within limit (step s g.call) g.valid (omega zarith)) g.less))
    v.model.box.shape)
    (decide (is_probing_fixpoint s.model.n s.model.m s.model.rows s.model.box))

pub rest-reached : Reachable
unfolding Reachable LargestBudget
rest-reached s v = rest-within max_budget s v (width-limit s.model v.model).1
