-- What the open calls share: which number refuses one, what it performs then and otherwise, the row that it is lent a part of, and
-- what its answer means.
use Prim.Native.Nat.{◌<◌, ℕ}
use lib.Dec.{T, eqb}
use lib.IntN.{ℤ}
use mathlib.Core.Bool.{not}
use mathlib.Core.List.{List, []}
use mathlib.Core.Logic.{◌↔◌, ⊎_elim}
use Rattle.std.specs.Prelude.{Ok}
use mathlib.Core.Path.{◌∙◌, ◌≡◌, ap, refl, subst, sym}
use Rattle.integer.proofs.Tests.{T→false, cond_ind, decide, eqb-test, neqb→ne, test-false}
use Rattle.model.specs.Rows.{Rows, row_at, set_row}
use Rattle.model.specs.Valid.{ValidModel}
use Rattle.model.proofs.CheckLaws.{fault-none}
use Rattle.row.specs.Outcome.{Outcome}
use Rattle.row.specs.KindChanges.{ChangedRow}
use Rattle.row.specs.Kinds.{propagate_row_of}
use Rattle.row.specs.Propagation.{PropagatedRow}
use Rattle.semantics.specs.CallChecks.{call_fault}
use Rattle.semantics.specs.Perform.{Answer, Performed, act, perform, probed, propagated, propagated_row, refused, removed, tightened}
use Rattle.semantics.specs.Probe.{Probed, probe}
use Rattle.semantics.specs.Propagate.{Propagated, propagate}
use Rattle.semantics.specs.RestTest.{Rest, at_rest, by_row, by_variable, rest_fault, rest_of}
use Rattle.semantics.specs.Run.{answers_none, is_refused, step}
use Rattle.semantics.specs.Call.{Call, call_of, has_row, kind_of}
use Rattle.call_laws.specs.Convergence.{ProbeMoves, RestAnswered, RestMeans}
use Rattle.call_laws.specs.Points.{AtRest}
use Rattle.demands.specs.Demand2.{CallMeans, Demand2, EndsAs, EndsGreatest}
use Rattle.model.specs.State.{State, state_of, with_box, with_row}
use Rattle.model.specs.Model.{model_of}
use Rattle.call_laws.proofs.Accepted.{accepted}
use Rattle.call_laws.proofs.CallLaws.{perform-accepted}
use Rattle.call_laws.proofs.Preserved.{Preserves, step-preserves}
use Rattle.call_laws.proofs.RestAnswer.{rest-answer, rest-probe-moves}
use Rattle.demands.proofs.Demand2.{demand-2}
use Rattle.two_sides.specs.Results.{probing_of}
use Rattle.two_sides.specs.declared.Probing.{Probing}
use Rattle.two_sides.specs.declared.Probing.TheVariants as probing
use Rattle.row.specs.Answers.{propagated_row_of, removal_outcome, tightening_outcome}
use Rattle.row.specs.declared.propagation.RowPropagation.{RowPropagation}
use Rattle.row.specs.declared.propagation.RowPropagation.TheVariants as propagation
use Rattle.row.specs.declared.redundancy.RowRemoval.{RowRemoval}
use Rattle.row.specs.declared.redundancy.RowRemoval.TheVariants as removal
use Rattle.row.specs.declared.tightening.CoefficientTightening.{CoefficientTightening}
use Rattle.row.specs.declared.tightening.CoefficientTightening.TheVariants as tightening
use Rattle.propagation.specs.Results.{propagation_of}
use Rattle.propagation.specs.declared.Propagation.{Propagation}
use Rattle.propagation.specs.declared.Propagation.TheVariants as passes
use Rattle.rest.specs.Results.{rest_answer_of}
use Rattle.rest.specs.declared.Rest as search
use Rattle.rest.specs.declared.Rest.TheVariants as searched
use Rattle.reducer.specs.OpenCalls.{Ends, Means, NoMeans, RestVerdict, performed, probe_answer, probing_answer, propagate_answer, refused_rest, remove_answer, rest, rest_verdict, row_answer, tested, tighten_answer}

-- ---- what a call performs

pub perform-refused : (s : State) (c : Call) {f : ℕ} → f ≡ call_fault s c → (f ≡ 0 → ⊥) → performed (refused f) s ≡ perform s c
unfolding perform performed
perform-refused s c e n = rw (e, test-false (eqb (call_fault s c) 0) (eqb-test (call_fault s c) 0) (λ z. n (e ∙ z)))

-- an accepted call with a row
pub on_row : (n m : ℕ) (B : List ℤ) (A : Rows) (kind row variable : ℕ) → T (has_row (kind_of kind))
    → call_fault (state_of n m B A []) (call_of (state_of n m B A []) kind row variable 0) ≡ 0 → ValidModel (model_of n m B A) × (row < m)
unfolding state_of call_of
on_row n m B A kind row variable t e =
    let a = accepted (state_of n m B A []) (call_of (state_of n m B A []) kind row variable 0) e in (a.model, a.row t)

-- what a call c that may change its row performs: p is what its rule says of the row, and A' are the rows with it
module _ (n m : ℕ) (B : List ℤ) (A : Rows) (row : ℕ) (p : ChangedRow) (F : Outcome → Answer) (c : Call) {x : Answer} {o : Outcome} {A' : Rows} where
  pub row-changed : let s = state_of n m B A [] in
      act (kind_of c.kind) s c ≡ record { answer = F p.outcome; state = with_row s row p.row }
      → call_fault s c ≡ 0 → x ≡ F o → (o ≡ p.outcome) × (A' ≡ set_row n A row p.row)
      → performed x (state_of n m B A' []) ≡ perform s c
  unfolding state_of performed with_row
  row-changed k f e h =
      sym (perform-accepted (state_of n m B A []) c f ∙ k ∙ rw (e, h.0) (ap (λ (X : Rows). record {
        answer = F p.outcome;
        state = record { model = record { n = n; m = m; box = B; rows = X }; table = [] };
      }) (sym h.1)))

-- the same of a visit, a settle and a probe: w is what the row's or the rows' propagation, or the probing, came to
pub row-propagated : (n m : ℕ) (B : List ℤ) (A : Rows) (row : ℕ) → let s = state_of n m B A [] in
    call_fault s (call_of s 1 row 0 0) ≡ 0 → (w : PropagatedRow) → w ≡ propagate_row_of n (row_at n A row) B
    → performed (propagated_row w.outcome w.moved) (state_of n m w.box A []) ≡ perform s (call_of s 1 row 0 0)
unfolding state_of call_of performed act kind_of with_box
row-propagated n m B A row f w h = let s = state_of n m B A [] in sym (perform-accepted s (call_of s 1 row 0 0) f ∙ rw h)

module _ (n m : ℕ) (B : List ℤ) (A : Rows) (budget : ℕ) where
  pub rows-propagated : let s = state_of n m B A [] in
      call_fault s (call_of s 2 0 0 budget) ≡ 0 → (w : Propagated) → w ≡ propagate budget n m A B
      → performed (propagated w.ending w.passes w.moved) (state_of n m w.box A []) ≡ perform s (call_of s 2 0 0 budget)
  unfolding state_of call_of performed act kind_of with_box
  rows-propagated f w h = let s = state_of n m B A [] in sym (perform-accepted s (call_of s 2 0 0 budget) f ∙ rw h)

  variable-probed : (t : List ℕ) (variable : ℕ) → let s = state_of n m B A t in
      call_fault s (call_of s 3 0 variable budget) ≡ 0 → (w : Probed) → w ≡ probe variable budget n m A B t
      → performed (probed w.ending w.side0 w.side1) (state_of n m w.box A w.table) ≡ perform s (call_of s 3 0 variable budget)
  unfolding state_of call_of performed act kind_of with_box
  variable-probed t variable f w h = let s = state_of n m B A t in sym (perform-accepted s (call_of s 3 0 variable budget) f ∙ rw h)

  pub probing-performed : (t : List ℕ) (variable : ℕ) (p : Probing) (Q : List ℤ) (u : List ℕ) → let s = state_of n m B A t in
      call_fault s (call_of s 3 0 variable budget) ≡ 0 → probing_of p Q u ≡ probe variable budget n m A B t
      → performed (probing_answer p) (state_of n m Q A u) ≡ perform s (call_of s 3 0 variable budget)
  unfolding probing_of
  probing-performed t variable (probing.Infeasible s0 s1) Q u f e = variable-probed t variable f (probing_of (probing.Infeasible s0 s1) Q u) e
  probing-performed t variable (probing.Fixed v s0 s1) Q u f e = variable-probed t variable f (probing_of (probing.Fixed v s0 s1) Q u) e
  probing-performed t variable (probing.BothFeasible a s0 s1) Q u f e = variable-probed t variable f (probing_of (probing.BothFeasible a s0 s1) Q u) e

pub probing-told : (p : Probing) → probe_answer (Ok p) ≡ probing_answer p
unfolding probe_answer probing_of
probing-told (probing.Infeasible s0 s1) = refl
probing-told (probing.Fixed v s0 s1) = refl
probing-told (probing.BothFeasible a s0 s1) = refl

-- and the answers, of what the crates below answer of a row, of the rows, of a variable
pub row-answered : (n m : ℕ) (B : List ℤ) (A : Rows) (row : ℕ) (p : RowPropagation) (Q : List ℤ) → let s = state_of n m B A [] in
    call_fault s (call_of s 1 row 0 0) ≡ 0 → propagated_row_of p Q ≡ propagate_row_of n (row_at n A row) B
    → performed (row_answer (Ok p)) (state_of n m Q A []) ≡ perform s (call_of s 1 row 0 0)
unfolding row_answer propagated_row_of
row-answered n m B A row propagation.Infeasible Q f e = row-propagated n m B A row f (propagated_row_of propagation.Infeasible Q) e
row-answered n m B A row (propagation.Tightened k) Q f e = row-propagated n m B A row f (propagated_row_of (propagation.Tightened k) Q) e
row-answered n m B A row propagation.Unchanged Q f e = row-propagated n m B A row f (propagated_row_of propagation.Unchanged Q) e

module _ (n m : ℕ) (B : List ℤ) (A : Rows) (budget : ℕ) where
  pub rows-answered : (p : Propagation) (Q : List ℤ) → let s = state_of n m B A [] in
      call_fault s (call_of s 2 0 0 budget) ≡ 0 → propagation_of p Q ≡ propagate budget n m A B
      → performed (propagate_answer (Ok p)) (state_of n m Q A []) ≡ perform s (call_of s 2 0 0 budget)
  unfolding propagate_answer propagation_of
  rows-answered (passes.Infeasible k i) Q f e = rows-propagated n m B A budget f (propagation_of (passes.Infeasible k i) Q) e
  rows-answered (passes.Converged k i) Q f e = rows-propagated n m B A budget f (propagation_of (passes.Converged k i) Q) e
  rows-answered (passes.BudgetSpent k i) Q f e = rows-propagated n m B A budget f (propagation_of (passes.BudgetSpent k i) Q) e

  pub probing-answered : (t : List ℕ) (variable : ℕ) (p : Probing) (Q : List ℤ) (u : List ℕ) → let s = state_of n m B A t in
      call_fault s (call_of s 3 0 variable budget) ≡ 0 → probing_of p Q u ≡ probe variable budget n m A B t
      → performed (probe_answer (Ok p)) (state_of n m Q A u) ≡ perform s (call_of s 3 0 variable budget)
  probing-answered t variable p Q u f e =
      ap (λ a. performed a (state_of n m Q A u)) (probing-told p) ∙ probing-performed n m B A budget t variable p Q u f e

pub tightening-answered : (p : CoefficientTightening) → tighten_answer (Ok p) ≡ tightened (tightening_outcome p)
unfolding tighten_answer tightening_outcome
tightening-answered tightening.Infeasible = refl
tightening-answered tightening.Tightened = refl
tightening-answered tightening.Unchanged = refl

pub removal-answered : (p : RowRemoval) → remove_answer (Ok p) ≡ removed (removal_outcome p)
unfolding remove_answer removal_outcome
removal-answered removal.Infeasible = refl
removal-answered removal.Removed = refl
removal-answered removal.Unchanged = refl

pub rest-answered : (p : search.Rest) → rest_verdict (Ok p) ≡ tested (rest_answer_of p)
unfolding rest_verdict rest_answer_of
rest-answered searched.AtRest = refl
rest-answered (searched.ByRow r) = refl
rest-answered (searched.ByVariable k) = refl

-- ---- what its answer means, refused or not

-- a call whose answer is not `refused` was accepted
taken : (s : State) (c : Call) (P : Answer → Type 0) → ((number : ℕ) → P (refused number) → ⊥) → P (perform s c).answer → call_fault s c ≡ 0
unfolding perform
taken s c P n p = ⊎_elim
    (λ t. (eqb-test (call_fault s c) 0).0 t)
    (λ t. absurd (n (call_fault s c) (rw (T→false (eqb (call_fault s c) 0) t) at p)))
    (decide (eqb (call_fault s c) 0))

module _ (s r : State) (c : Call) (a : Answer) (e : performed a r ≡ perform s c) where
  answered : (perform s c).answer ≡ a
  unfolding performed
  answered = sym (ap (λ (p : Performed). p.answer) e)

  preserved : Preserves s r
  unfolding performed step
  preserved = subst (Preserves s) (sym (ap (λ (p : Performed). p.state) e)) (step-preserves s c)

  accepted-by : (P : Answer → Type 0) → ((number : ℕ) → P (refused number) → ⊥) → P a → CallMeans s c
  unfolding Demand2
  accepted-by P n p = demand-2 s c (taken s c P n (subst P (sym answered) p))

  means-performed : Means s r a
  unfolding answers_none
  means-performed = record {
    points = preserved.points;
    fractional = preserved.fractional;
    no_point = λ t.
        (accepted-by (λ b. T (answers_none b)) (λ _ z. z) t).no_point (subst (λ b. T (answers_none b)) (sym answered) t);
  }

  ends-performed : Ends c s r a
  unfolding is_refused performed
  ends-performed = record {
    ending = λ b p k g. subst (λ (q : State). EndsAs c.budget s.model.n s.model.m s.model.rows q.model.box b p)
        (sym (ap (λ (q : Performed). q.state) e)) ((accepted-by (λ d. T (not (is_refused d))) (λ _ z. z) (rw g tt)).ends b p k (answered ∙ g));
    side_endings = λ b s0 s1 g. (accepted-by (λ d. T (not (is_refused d))) (λ _ z. z) (rw g tt)).sides_end b s0 s1 (answered ∙ g);
    greatest = λ b p k g w. subst (λ (q : State). EndsGreatest s.model.n s.model.m s.model.rows s.model.box q.model.box b)
        (sym (ap (λ (q : Performed). q.state) e)) ((accepted-by (λ d. T (not (is_refused d))) (λ _ z. z) (rw g tt)).greatest b p k (answered ∙ g) w);
    sides_greatest = λ b s0 s1 g. (accepted-by (λ d. T (not (is_refused d))) (λ _ z. z) (rw g tt)).sides_greatest b s0 s1 (answered ∙ g);
    passes = λ b p k g. (accepted-by (λ d. T (not (is_refused d))) (λ _ z. z) (rw g tt)).passes b p k (answered ∙ g);
    sides = λ b s0 s1 g. (accepted-by (λ d. T (not (is_refused d))) (λ _ z. z) (rw g tt)).side_passes b s0 s1 (answered ∙ g);
  }

  -- a call's promises, all of them from the first
  pub promised : (performed a r ≡ perform s c) × Means s r a
  promised = (e, means-performed)

  pub promised-ends : (performed a r ≡ perform s c) × (Means s r a × Ends c s r a)
  promised-ends = (e, (means-performed, ends-performed))

-- ---- the rest call

pub rest-refused : (s : State) {f : ℕ} → f ≡ rest_fault s → (f ≡ 0 → ⊥) → refused_rest f ≡ rest s
unfolding rest
rest-refused s e n = rw (e, test-false (eqb (rest_fault s) 0) (eqb-test (rest_fault s) 0) (λ z. n (e ∙ z)))

pub rest-tested : (s : State) {a : Rest} → rest_fault s ≡ 0 → a ≡ rest_of s.model.n s.model.m s.model.rows s.model.box
    → tested a ≡ rest s
unfolding rest
rest-tested s z e = rw (e, z)

abbrev IsTested : RestVerdict → Type 0
IsTested (refused_rest number) = ⊥
IsTested (tested a) = Unit {0}

tested-injective : {a b : Rest} → tested a ≡ tested b → a ≡ b
tested-injective e = cc

-- a verdict is given exactly where the model is accepted and what the verdict says is so
rest-said : (s : State) (a : Rest) → (rest s ≡ tested a) ↔ ((rest_fault s ≡ 0) × RestMeans s a)
unfolding rest rest_fault RestAnswered
rest-said s a = cond_ind (eqb (rest_fault s) 0) _ _ (λ (v : RestVerdict). (v ≡ tested a) ↔ ((rest_fault s ≡ 0) × RestMeans s a))
    (λ t. let z = (eqb-test (rest_fault s) 0).0 t in
    let q = rest-answer s ((fault-none s.model).0 z) a in
    ((λ e. (z, q.0 (tested-injective e))), (λ h. ap tested (q.1 h.1))))
    (λ t. ((λ e. absurd (subst IsTested (sym e) tt)), (λ h. absurd (neqb→ne (rest_fault s) 0 t h.0))))

-- all promises, from the first
pub rest-promised : (s : State) {v : RestVerdict} → v ≡ rest s
    → (v ≡ rest s) × (((v ≡ tested at_rest) ↔ ((rest_fault s ≡ 0) × AtRest s)) × NoMeans s v)
unfolding RestMeans ProbeMoves rest_fault
rest-promised s {v} e =
    let said : (a : Rest) → (v ≡ tested a) ↔ ((rest_fault s ≡ 0) × RestMeans s a) =
    (λ a. let q = rest-said s a in ((λ g. q.0 (sym e ∙ g)), (λ h. e ∙ q.1 h))) in (
      e,
      (
        said at_rest,
        record {
          row = λ r. said (by_row r);
          variable = λ k. said (by_variable k);
          probe = λ k g. let h = (said (by_variable k)).0 g in rest-probe-moves s ((fault-none s.model).0 h.0) k h.1;
        },
      ),
    )
