-- A side, made by two stores, and what a side's answer says.
use Prim.Native.Nat.{◌*◌, ◌+◌, ◌<◌, ℕ}
use borrow.Author.Tests.{eq-eqb, ne_eqb}
use denote.Enum.Declared.{tag_of}
use lib.Dec.{T, eqb}
use lib.IntN.{pos, ℤ}
use lib.ListN.{length}
use mathlib.Core.Bool.{cond, false, true}
use mathlib.Core.List.{List, [], ◌∷◌}
use mathlib.Core.Logic.{◌⊎◌, inl, inr, ⊎_elim}
use mathlib.Core.Path.{◌∙◌, ◌≡◌, ap, refl, subst⁻¹, sym}
use native.Mathlib.Decide.{ℕ_discrete}
use native.Mathlib.Omega.{arith}
use types.Run.{OneOf}
use Rattle.integer.proofs.Parts.{zarith}
use Rattle.integer.proofs.Tests.{bool-ext, true→T}
use Rattle.model.specs.Box.{NonEmpty, empty_box, is_empty, is_free, lower, upper, with_bounds}
use Rattle.model.specs.Valid.{ValidBox, ValidModel}
use Rattle.model.proofs.BoxLaws.{box-ext, empty-is, free-lower, is_empty→eq, length-box_of, lower-box_of, upper-box_of}
use Rattle.model.proofs.BoxLoops.{length-with_bounds, lower-with_bounds, upper-with_bounds, with_bounds-other}
use Rattle.model.specs.Rows.{Rows}
use Rattle.model.specs.Model.{model_of}
use Rattle.semantics.specs.Probe.{fix}
use Rattle.semantics.specs.Propagate.{is_none, propagate}
use Rattle.call_laws.proofs.ProbeLaws.{fix-valid}
use Rattle.call_laws.proofs.PropagateLaws.{propagate-infeasible-iff, propagate-valid}
use Rattle.propagation.specs.Results.{propagation_of}
use Rattle.propagation.specs.declared.Propagation.{Propagation}
use Rattle.propagation.specs.declared.Propagation.TheVariants.{BudgetSpent, Converged, Infeasible}
use Rattle.propagation.specs.contracts.Propagation.{the_type}

-- ---- a side, made by two stores

pub fix-stores : (n : ℕ) (B : List ℤ) (k v : ℕ) → length B ≡ 2 * n → k < n → with_bounds B k (pos v) (pos v) ≡ fix n B k v
unfolding fix
fix-stores n B k v l h =
    box-ext n _ _ (length-with_bounds B k (pos v) (pos v) ∙ l) (length-box_of n _ _)
    (λ j q. low j (ℕ_discrete j k) ∙ sym (lower-box_of n _ _ j q)) (λ j q. high j (ℕ_discrete j k) ∙ sym (upper-box_of n _ _ j q))
  where
    low : (j : ℕ) → Dec (j ≡ k) → lower (with_bounds B k (pos v) (pos v)) j ≡ cond (eqb j k) (pos v) (lower B j)
    low j (yes e) = rw (e, eq-eqb k k refl) (lower-with_bounds B k (pos v) (pos v) (omega arith))
    low j (no e) = rw (ne_eqb j k e) (with_bounds-other B k (pos v) (pos v) (2 * j) (omega arith) (omega arith))

    high : (j : ℕ) → Dec (j ≡ k) → upper (with_bounds B k (pos v) (pos v)) j ≡ cond (eqb j k) (pos v) (upper B j)
    high j (yes e) = rw (e, eq-eqb k k refl) (upper-with_bounds B k (pos v) (pos v) (omega arith))
    high j (no e) = rw (ne_eqb j k e) (with_bounds-other B k (pos v) (pos v) (2 * j + 1) (omega arith) (omega arith))

-- a box with a free variable is not empty
pub free-non_empty : (k : ℕ) {n : ℕ} {B : List ℤ} → k < n → T (is_free B k) → (B ≡ empty_box n) ⊎ NonEmpty n B → NonEmpty n B
unfolding empty_box
free-non_empty k {n} {B} h f (inl e) =
    let l : lower B k ≡ pos 1 = rw e (lower-box_of n (λ _. pos 1) (λ _. pos 0) k h) in
    let z : ⊥ = omega (zarith, l, free-lower B k f) in absurd z
free-non_empty k h f (inr p) = p

pub fix-model : (k v : ℕ) {n m : ℕ} {B : List ℤ} {A : Rows} → ValidModel (model_of n m B A) → T (is_free B k) → k < n → v < 2 → ValidModel (model_of n m (fix n B k v) A)
fix-model k v p f h b = record {
  some = p.some;
  few = p.few;
  few_rows = p.few_rows;
  box = fix-valid k v f b p.box (free-non_empty k h f p.box.shape);
  coefs_len = p.coefs_len;
  coefs = p.coefs;
  rhs_len = p.rhs_len;
  rhs = p.rhs;
  kinds_len = p.kinds_len;
  kinds = p.kinds;
}

-- ---- a side's answer

pub box-is : (s : Propagation) (S : List ℤ) → (propagation_of s S).box ≡ S
unfolding propagation_of
box-is (Infeasible p k) S = refl
box-is (Converged p k) S = refl
box-is (BudgetSpent p k) S = refl

pub is-none : {s : Propagation} {p k : ℕ} (S : List ℤ) → s ≡ Infeasible p k → is_none (propagation_of s S).ending ≡ true
unfolding propagation_of is_none
is-none S e = ap (λ (s : Propagation). is_none (propagation_of s S).ending) e

-- what the else of `let Propagation::Infeasible(_, _) = s else` knows: the tag is another's
pub is_some : (s : Propagation) (S : List ℤ) → OneOf (1 ∷ 2 ∷ []) (tag_of the_type s) → is_none (propagation_of s S).ending ≡ false
unfolding propagation_of is_none
is_some (Infeasible p k) S h =
    ⊎_elim (λ e. let z : ◌≡◌ {A = ℕ} 0 1 = e in absurd (omega arith)) (λ e. let z : ◌≡◌ {A = ℕ} 0 2 = e in absurd (omega arith)) h
is_some (Converged p k) S h = refl
is_some (BudgetSpent p k) S h = refl

-- a side that was propagated: its box is valid, and empty exactly if the answer is infeasible
module _ (budget m : ℕ) (A : Rows) {n : ℕ} {B : List ℤ} (h : 0 < n) (v : ValidBox n B) (s : Propagation) (S : List ℤ)
    (e : propagation_of s S ≡ propagate budget n m A B) where
  side-box : S ≡ (propagate budget n m A B).box
  side-box = sym (box-is s S) ∙ ap (λ r. r.box) e

  pub side-valid : ValidBox n S
  side-valid = subst⁻¹ (ValidBox n) side-box (propagate-valid m A budget v)

  pub side-none : is_none (propagation_of s S).ending ≡ is_empty n S
  side-none =
      let i = propagate-infeasible-iff budget m A h v in
      rw (e, side-box)
      (bool-ext (is_none (propagate budget n m A B).ending) (is_empty n (propagate budget n m A B).box)
      (λ t. true→T _ (empty-is n _ (i.0 t))) (λ t. i.1 (is_empty→eq n _ t)))
