-- What the functions of the rest test need: what an answer says, the test of a hull by its bounds, and the answer as the search went.
use Prim.Native.Nat.{◌*◌, ◌<◌, ◌≤◌, ℕ}
use lib.Dec.{T, ltb}
use lib.IntN.{ℤ}
use lib.ListN.{length}
use mathlib.Core.Bool.{false, true}
use mathlib.Core.List.{List, []}
use mathlib.Core.Logic.{◌↔◌}
use mathlib.Core.Path.{◌∙◌, ◌≡◌, ap, subst, sym}
use native.Mathlib.Omega.{arith}
use Rattle.integer.specs.Order.{max_z, min_z}
use Rattle.integer.proofs.Tests.{ltb-test, test-false, test-true}
use Rattle.model.specs.Box.{is_empty, lower, same_list, upper}
use Rattle.model.specs.Rows.{Rows}
use Rattle.model.proofs.BoxLaws.{box-ext, length-box_of, lower-box_of, same_list-refl, same_list→eq, upper-box_of}
use Rattle.semantics.specs.FixpointTest.{first_moving}
use Rattle.semantics.specs.Probe.{hull}
use Rattle.semantics.specs.Propagate.{Propagated, is_none}
use Rattle.semantics.specs.RestTest.{at_rest, by_row, by_variable, first_unspanned, rest_of}
use Rattle.propagation.specs.Results.{propagation_of}
use Rattle.propagation.specs.declared.Propagation as code
use Rattle.propagation.specs.declared.Propagation.TheVariants.{BudgetSpent, Converged, Infeasible}

-- ---- what an answer says

-- what an answer with its box is, told by their parts
pub answered : (p : code.Propagation) (B : List ℤ) {W : Propagated} → propagation_of p B ≡ W
    → (is_none (propagation_of p []).ending ≡ is_none W.ending) × (B ≡ W.box)
unfolding propagation_of
answered (Infeasible p k) B e = (ap (λ (w : Propagated). is_none w.ending) e, ap (λ (w : Propagated). w.box) e)
answered (Converged p k) B e = (ap (λ (w : Propagated). is_none w.ending) e, ap (λ (w : Propagated). w.box) e)
answered (BudgetSpent p k) B e = (ap (λ (w : Propagated). is_none w.ending) e, ap (λ (w : Propagated). w.box) e)

-- ---- the hull

pub hull-test : (n : ℕ) (P Q B : List ℤ) → length B ≡ 2 * n
    → T (same_list (hull n P Q) B) ↔ ((j : ℕ) → j < n → (min_z (lower P j) (lower Q j) ≡ lower B j) × (max_z (upper P j) (upper Q j) ≡ upper B j))
unfolding hull
hull-test n P Q B l = (
  (λ t j h. let e = same_list→eq (hull n P Q) B t in rw (← e) (sym (lower-box_of n _ _ j h), sym (upper-box_of n _ _ j h))),
  (λ f. subst (λ (c : List ℤ). T (same_list (hull n P Q) c))
      (box-ext n (hull n P Q) B (length-box_of n _ _) l (λ j h. lower-box_of n _ _ j h ∙ (f j h).0) (λ j h. upper-box_of n _ _ j h ∙ (f j h).1))
      (same_list-refl (hull n P Q))),
)

-- ---- the answer of the test, as its search went

module _ (n m : ℕ) (A : Rows) (B : List ℤ) where
  pub rest-empty : is_empty n B ≡ true → at_rest ≡ rest_of n m A B
  unfolding rest_of
  rest-empty e = rw e

  module _ (e : is_empty n B ≡ false) {r : ℕ} (f : r ≡ first_moving n m A B) where
    pub rest-by-row : r < m → by_row r ≡ rest_of n m A B
    unfolding rest_of
    rest-by-row h = rw (e, ← f, test-true (ltb r m) (ltb-test r m) h)

    module _ (l : m ≤ r) {k : ℕ} (g : k ≡ first_unspanned n m A B) where
      no-row : ltb r m ≡ false
      no-row = test-false (ltb r m) (ltb-test r m) (λ h. omega arith)

      pub rest-by-variable : k < n → by_variable k ≡ rest_of n m A B
      unfolding rest_of
      rest-by-variable h = rw (e, ← f, no-row, ← g, test-true (ltb k n) (ltb-test k n) h)

      pub rest-found-none : n ≤ k → at_rest ≡ rest_of n m A B
      unfolding rest_of
      rest-found-none h = rw (e, ← f, no-row, ← g, test-false (ltb k n) (ltb-test k n) (λ q. omega arith))
