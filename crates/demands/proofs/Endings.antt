-- Settled exactly when the box is quiet, Spent exactly when it is not and the passes are the budget's (02, C-15): by the cases of the
-- last pass, and of the last look where no pass is left.
use Prim.Native.Nat.{◌+◌, ◌<◌, suc, zero, ℕ}
use lib.Dec.{T, T_not}
use lib.IntN.{ℤ}
use mathlib.Core.List.{List}
use mathlib.Core.Logic.{◌↔◌, ◌⊎◌, ⊎_elim}
use mathlib.Core.Path.{◌≡◌, ap, refl, subst, sym}
use native.Mathlib.Omega.{arith}
use Rattle.model.specs.Box.{NonEmpty, empty_box, is_empty}
use Rattle.model.specs.Rows.{Rows, row_at}
use Rattle.model.proofs.BoxLaws.{inside-refl, is_empty-test, is_empty→eq, not-in-empty, same_list-refl}
use Rattle.row.specs.Kinds.{propagate_row_of}
use Rattle.row.specs.Outcome.{is_changed, is_infeasible}
use Rattle.row.specs.Propagation.{PropagatedRow}
use Rattle.row.proofs.KindLaws.{kinded-stays, kinded-unchanged}
use Rattle.semantics.specs.FixpointTest.{first_moving, row_leaves}
use Rattle.semantics.specs.Propagate.{Ending, budget_spent, converged, infeasible, is_spent, pass_to, propagate, propagate_from}
use Rattle.call_laws.specs.Fixpoint.{Fixpoint}
use Rattle.call_laws.proofs.Convergence.{fixpoint-test, pass-stays}
use Rattle.call_laws.proofs.LowestLaws.{lowest-fails}
use Rattle.call_laws.proofs.PropagateLaws.{look-ind, pass-infeasible-box, pass-moved-none, pass-non_empty, propagate-ind, propagate_from-ind}
use Rattle.demands.specs.Demand2.{EndsAs, StillMoves}

-- ---- the endings differ

abbrev IsConverged : Ending → Type 0
IsConverged infeasible = ⊥
IsConverged converged = Unit {0}
IsConverged budget_spent = ⊥

pub spent-iff : (e : Ending) → (e ≡ budget_spent) ↔ T (is_spent e)
unfolding is_spent
spent-iff infeasible = ((λ q. subst (λ (x : Ending). T (is_spent x)) (sym q) tt), (λ z. absurd z))
spent-iff converged = ((λ q. subst (λ (x : Ending). T (is_spent x)) (sym q) tt), (λ z. absurd z))
spent-iff budget_spent = ((λ _. tt), (λ _. refl))

module _ (budget m p : ℕ) (A : Rows) {n : ℕ} (h : 0 < n) where
  abbrev Said : Ending → List ℤ → Type 0
  Said e P = EndsAs budget n m A P e p

  -- None: the box is void
  ends-infeasible : Said infeasible (empty_box n)
  unfolding is_spent
  ends-infeasible = record {
    converges = ((λ q. absurd (subst IsConverged (sym q) tt)), (λ f. absurd (none_within f.non_empty)));
    spent = ((λ q. absurd ((spent-iff infeasible).0 q)), (λ f. absurd (none_within f.0)));
  }
    where
      none_within : NonEmpty n (empty_box n) → ⊥
      none_within q = not-in-empty n (empty_box n) h q (inside-refl n (empty_box n))

  -- a quiet box is Settled
  ends-fixpoint : {P : List ℤ} → Fixpoint n m A P → Said converged P
  unfolding is_spent
  ends-fixpoint {P} f = record {
    converges = ((λ _. f), (λ _. refl));
    spent = ((λ q. absurd ((spent-iff converged).0 q)), (λ q. absurd (still q)));
  }
    where
      still : (NonEmpty n P × (p ≡ budget) × StillMoves n m A P) → ⊥
      still q = let r = q.2 in r.2 (ap (λ (w : PropagatedRow). w.outcome) (kinded-stays (row_at n A r.0) h f.non_empty (f.same r.0 r.1)))

  -- where the budget's passes are made, a box that a row would change is Spent
  ends-moving : {P : List ℤ} → NonEmpty n P → p ≡ budget → first_moving n m A P < m → Said budget_spent P
  unfolding first_moving is_infeasible is_changed
  ends-moving {P} q e l = record {
    converges = ((λ g. absurd (subst IsConverged (sym g) tt)), (λ f. absurd (moves (f.same (first_moving n m A P) l))));
    spent = ((λ _. (q, e, (first_moving n m A P, l, λ o. moves (kinded-unchanged (row_at n A (first_moving n m A P)) q (rw o tt) (rw o tt))))), (λ _. refl));
  }
    where
      moves : (propagate_row_of n (row_at n A (first_moving n m A P)) P).box ≡ P → ⊥
      moves g = T_not (row_leaves n A P (first_moving n m A P)) (lowest-fails (row_leaves n A P) m l) (rw g (same_list-refl P))

module _ (m : ℕ) (A : Rows) {n : ℕ} (h : 0 < n) where
  propagate_from-ends-as : (left made sum budget : ℕ) {B : List ℤ} → made + left ≡ budget → NonEmpty n B
      → let r = propagate_from left made sum n m A B in EndsAs budget n m A r.box r.ending r.passes
  unfolding propagate_from
  propagate_from-ends-as zero made sum budget {B} e p = look-ind n m A B (λ q. EndsAs budget n m A B q made)
      (ends-moving budget m made A h p (omega arith)) (λ t. ends-fixpoint budget m made A h ((fixpoint-test n m A B p).0 t))
  propagate_from-ends-as (suc left) made sum budget {B} e p =
      propagate_from-ind left made sum n m A B (λ r. EndsAs budget n m A r.box r.ending r.passes)
      (λ t. rw (pass-infeasible-box n A m B t) (ends-infeasible budget m (suc made) A h))
      (λ t _. propagate_from-ends-as left (suc made) (sum + (pass_to n m A B).moved) budget (omega arith) (pass-non_empty A m p t))
      (λ t u. rw (pass-moved-none A p m t u) (ends-fixpoint budget m (suc made) A h (record { non_empty = p; same = pass-stays m A p t u })))

  -- of a settle of any box
  pub propagate-ends-as : (budget : ℕ) {B : List ℤ} → (B ≡ empty_box n) ⊎ NonEmpty n B
      → let r = propagate budget n m A B in EndsAs budget n m A r.box r.ending r.passes
  propagate-ends-as budget {B} v = propagate-ind budget n m A B (λ r. EndsAs budget n m A r.box r.ending r.passes)
      (λ t. rw (is_empty→eq n B t) (ends-infeasible budget m 1 A h))
      (λ t. ⊎_elim (λ e. absurd (T_not (is_empty n B) t ((is_empty-test n B).1 e))) (propagate_from-ends-as budget 0 0 budget (omega arith)) v)
