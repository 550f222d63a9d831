-- What an accepted call's own rule answered and left, as the class and the state that the semantics gives it: the probe's here, and
-- those of the other kinds for the lists and rounds that make them. Assumes nothing.
use Prim.Native.Nat.{ℕ}
use lib.Dec.{eqb}
use lib.IntN.{ℤ}
use mathlib.Core.Bool.{◌&&◌, ◌||◌, not}
use mathlib.Core.List.{List, []}
use mathlib.Core.Path.{◌∙◌, ◌≡◌, ap, refl, sym}
use Rattle.model.specs.Box.{same_list}
use Rattle.model.specs.Rows.{Rows, row_at, set_row}
use Rattle.row.specs.Answers.{propagated_row_of}
use Rattle.row.specs.Outcome as outcomes
use Rattle.row.specs.Outcome.{Outcome, is_changed, is_infeasible}
use Rattle.row.specs.KindChanges.{ChangedRow, remove_row_of, tighten_row_of}
use Rattle.row.specs.Kinds.{propagate_row_of}
use Rattle.row.specs.declared.propagation.RowPropagation.{RowPropagation}
use Rattle.row.specs.declared.propagation.RowPropagation.TheVariants as propagations
use Rattle.semantics.specs.CallChecks.{call_fault}
use Rattle.semantics.specs.Perform.{Performed, act, perform}
use Rattle.semantics.specs.Probe.{Probed, probe}
use Rattle.semantics.specs.Propagate.{is_none, propagate}
use Rattle.semantics.specs.Run.{CallClass, class_of, probe_infeasible, step}
use Rattle.semantics.specs.Call.{Call, call_of, kind_of, probing, propagation, removal, row_propagation, tightening}
use Rattle.demands.specs.Unmoved.{side_spent}
use Rattle.model.specs.State.{State, state_of, with_box, with_row}
use Rattle.call_laws.proofs.CallLaws.{perform-accepted, step-accepted}
use Rattle.call_laws.proofs.ClassLaws.{adds_none, class_by, probe-class, remove-class, propagate-class, tighten-class, propagate-row-class}
use Rattle.call.specs.Classes.{outcome_class, propagation_class}
use Rattle.propagation.specs.Results.{propagation_of}
use Rattle.marked_row.proofs.MarkedRowLaws.{left_by}
use Rattle.propagation.specs.declared.Propagation.{Propagation}
use Rattle.propagation.specs.declared.Propagation.TheVariants.{Infeasible, Converged, BudgetSpent}

-- ---- the class that an answer names

outcome-class : (o : Outcome) → outcome_class o ≡ class_by (is_infeasible o) (not (is_changed o))
unfolding outcome_class is_infeasible is_changed
outcome-class outcomes.infeasible = refl
outcome-class outcomes.changed = refl
outcome-class outcomes.unchanged = refl

-- what a row's propagation answered, whatever box it left
row-class : (p : RowPropagation) (Q : List ℤ) → let o = (propagated_row_of p Q).outcome in
    outcome_class (propagated_row_of p []).outcome ≡ class_by (is_infeasible o) (not (is_changed o))
unfolding propagated_row_of
row-class propagations.Infeasible Q = outcome-class outcomes.infeasible
row-class (propagations.Tightened k) Q = outcome-class outcomes.changed
row-class propagations.Unchanged Q = outcome-class outcomes.unchanged

propagation-class : (p : Propagation) (Q : List ℤ) → let w = propagation_of p Q in
    propagation_class p ≡ class_by (is_none w.ending) (eqb w.moved 0)
unfolding propagation_class propagation_of is_none
propagation-class (Infeasible p k) Q = refl
propagation-class (Converged p k) Q = refl
propagation-class (BudgetSpent p k) Q = refl

propagation-box : (p : Propagation) (Q : List ℤ) → (propagation_of p Q).box ≡ Q
unfolding propagation_of
propagation-box (Infeasible p k) Q = refl
propagation-box (Converged p k) Q = refl
propagation-box (BudgetSpent p k) Q = refl

-- ---- an accepted call

module _ (n m : ℕ) (B : List ℤ) (A : Rows) (t : List ℕ) (kind row variable budget : ℕ) where
  abbrev s : State
  s = state_of n m B A t

  abbrev call : Call
  call = call_of s kind row variable budget

  -- the class k and the state r are the call's
  abbrev pub Ran : CallClass → State → Type 0
  Ran k r = (k ≡ class_of s call) × (r ≡ step s call)

  module _ (f : call_fault s call ≡ 0) {k : CallClass} where
    pub ran-row : (p : RowPropagation) (Q : List ℤ) → kind_of kind ≡ row_propagation → k ≡ outcome_class (propagated_row_of p []).outcome
        → propagated_row_of p Q ≡ propagate_row_of n (row_at n A row) B → Ran k (state_of n m Q A t)
    unfolding state_of call_of act with_box
    ran-row p Q q e h = (
      e ∙ row-class p Q ∙ rw h (sym (propagate-row-class s call f q)),
      sym (step-accepted s call f ∙ rw (q, sym (left_by p Q h))),
    )

    pub ran-propagation : (p : Propagation) (Q : List ℤ) → kind_of kind ≡ propagation → k ≡ propagation_class p
        → propagation_of p Q ≡ propagate budget n m A B → Ran k (state_of n m Q A t)
    unfolding state_of call_of act with_box
    ran-propagation p Q q e h = (
      e ∙ propagation-class p Q ∙ rw h (sym (propagate-class s call f q)),
      sym (step-accepted s call f ∙ rw (q, sym h, propagation-box p Q)),
    )

    pub ran-probe : (w : Probed) → kind_of kind ≡ probing → k ≡ class_by (probe_infeasible w.ending) (adds_none w.ending && same_list B w.box)
        → w ≡ probe variable budget n m A B t → Ran k (state_of n m w.box A w.table)
    unfolding state_of call_of act with_box
    ran-probe w q e h = (
      e ∙ rw h (sym (probe-class s call f q)),
      sym (step-accepted s call f ∙ rw (q, h)),
    )

    -- p is what the rule of a sharpen or a drop says of the row, and A' are the rows with it
    changed_row : (p : ChangedRow) {o : Outcome} {A' : Rows} → (act (kind_of kind) s call).state ≡ with_row s row p.row
        → class_of s call ≡ class_by (is_infeasible p.outcome) (not (is_changed p.outcome))
        → k ≡ outcome_class o → (o ≡ p.outcome) × (A' ≡ set_row n A row p.row) → Ran k (state_of n m B A' t)
    unfolding state_of call_of with_row
    changed_row p {o} {A'} a d e h = (
      e ∙ ap outcome_class h.0 ∙ outcome-class _ ∙ sym d,
      sym (step-accepted s call f ∙ a ∙ ap (λ (X : Rows). record { model = record { n = n; m = m; box = B; rows = X }; table = t }) (sym h.1)),
    )

    pub ran-tighten : {o : Outcome} {A' : Rows} → kind_of kind ≡ tightening → k ≡ outcome_class o
        → let p = tighten_row_of n (row_at n A row) B variable in
        (o ≡ p.outcome) × (A' ≡ set_row n A row p.row) → Ran k (state_of n m B A' t)
    unfolding state_of call_of act
    ran-tighten q = changed_row (tighten_row_of n (row_at n A row) B variable) (rw q) (tighten-class s call f q)

    pub ran-remove : {o : Outcome} {A' : Rows} → kind_of kind ≡ removal → k ≡ outcome_class o
        → let p = remove_row_of n (row_at n A row) B in
        (o ≡ p.outcome) × (A' ≡ set_row n A row p.row) → Ran k (state_of n m B A' t)
    unfolding state_of call_of act
    ran-remove q = changed_row (remove_row_of n (row_at n A row) B) (rw q) (remove-class s call f q)

  -- whether a side of the probe was Spent
  pub probe-spent : call_fault s call ≡ 0 → (w : Probed) → kind_of kind ≡ probing → w ≡ probe variable budget n m A B t
      → (w.side0.spent || w.side1.spent) ≡ side_spent (perform s call).answer
  unfolding state_of call_of act side_spent
  probe-spent f w q h = sym (ap (λ (p : Performed). side_spent p.answer) (perform-accepted s call f) ∙ rw (q, h))
