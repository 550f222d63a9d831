-- With a budget of at least the total width plus 1 a settle is never Spent and ends in the greatest fixpoint inside its box, or None
-- exactly where there is none (02, C-24): `propagate-ends` by the cases of the ending, and of the empty box.
use Prim.Native.Nat.{◌<◌, ◌≤◌, ℕ}
use lib.Dec.{T}
use lib.IntN.{ℤ}
use mathlib.Core.Bool.{not}
use mathlib.Core.List.{List}
use mathlib.Core.Logic.{◌≢◌, ◌⊎◌, ⊎_elim}
use mathlib.Core.Path.{◌≡◌, refl, subst}
use Rattle.integer.proofs.Parts.{zarith}
use Rattle.model.specs.Box.{Inside, NonEmpty, empty_box}
use Rattle.model.specs.Rows.{Rows}
use Rattle.model.proofs.BoxLaws.{inside-refl, not-in-empty}
use Rattle.semantics.specs.Propagate.{Ending, budget_spent, converged, infeasible, is_none, is_spent, propagate}
use Rattle.call_laws.specs.Convergence.{Ends, EnoughPasses}
use Rattle.call_laws.specs.Fixpoint.{Fixpoint, GreatestFixpoint}
use Rattle.call_laws.proofs.Convergence.{propagate-ends}
use Rattle.call_laws.proofs.PropagateLaws.{propagate-empty, propagate-infeasible-box}
use Rattle.demands.specs.Demand2.{EndsGreatest}
use Rattle.demands.specs.Passes.{enough_budget}
use Rattle.demands.proofs.Passes.{total-width-is}

-- ---- the endings differ

abbrev Converged : Ending → Type 0
Converged infeasible = ⊥
Converged converged = Unit {0}
Converged budget_spent = ⊥

abbrev None : Ending → Type 0
None infeasible = Unit {0}
None converged = ⊥
None budget_spent = ⊥

not-spent : (e : Ending) → T (not (is_spent e)) → e ≢ budget_spent
unfolding is_spent
not-spent e t q = subst (λ (x : Ending). T (not (is_spent x))) q t

-- ---- what an ending that is not Spent says

module _ (m : ℕ) (A : Rows) {n : ℕ} (h : 0 < n) (B P : List ℤ) where
  -- the empty box is no fixpoint, and none lies inside it
  not-empty : P ≡ empty_box n → GreatestFixpoint n m A B P → ⊥
  not-empty e g = not-in-empty n P h g.fixpoint.non_empty (subst (Inside n P) e (inside-refl n P))

  ends_by : (e : Ending) → T (not (is_spent e)) → (T (is_none e) → P ≡ empty_box n)
      → (T (is_none e) → (Q : List ℤ) → Fixpoint n m A Q → Inside n Q B → ⊥) → (T (not (is_none e)) → GreatestFixpoint n m A B P)
      → EndsGreatest n m A B P e
  unfolding is_spent is_none
  ends_by infeasible t empty none greatest = record {
    not_spent = not-spent infeasible tt;
    greatest = ((λ q. absurd (subst None q tt)), (λ g. absurd (not-empty (empty tt) g)));
    none = ((λ _. none tt), (λ _. refl));
  }
  ends_by converged t empty none greatest = record {
    not_spent = not-spent converged tt;
    greatest = ((λ _. greatest tt), (λ _. refl));
    none = ((λ q. absurd (subst Converged q tt)), (λ f. absurd (f P (greatest tt).fixpoint (greatest tt).inside)));
  }
  ends_by budget_spent t empty none greatest = absurd t

-- ---- a settle

module _ (budget m : ℕ) (A : Rows) {n : ℕ} {B : List ℤ} (h : 0 < n) where
  pub propagate-greatest : (B ≡ empty_box n) ⊎ NonEmpty n B → enough_budget n B ≤ budget
      → let r = propagate budget n m A B in EndsGreatest n m A B r.box r.ending
  unfolding enough_budget EnoughPasses is_spent is_none
  propagate-greatest v w = ⊎_elim
      (λ (e : B ≡ empty_box n). rw (e, propagate-empty budget n m A) (ends_by m A h (empty_box n) (empty_box n) infeasible tt (λ _. refl)
      (λ _ Q q i. not-in-empty n Q h q.non_empty i) (λ z. absurd z)))
      (λ p. let r = propagate budget n m A B in
      let t = total-width-is h p in
      let e : Ends n m A B r = propagate-ends budget n m A B h p (omega zarith) in
      ends_by m A h B r.box r.ending e.not_spent (propagate-infeasible-box n m A budget B) e.none e.greatest)
      v
