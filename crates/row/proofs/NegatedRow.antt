-- The negated form of a row in the numbers of the row itself, as code that reads the row in place computes it; and that the two forms
-- of an = row move different bounds.
use Prim.Native.Nat.{◌<◌, ℕ}
use lib.Dec.{T}
use lib.IntN.{◌*ℤ◌, ◌+ℤ◌, ◌-ℤ◌, neg_ℤ, pos, ℤ}
use lib.Signed.{◌<ℤ◌, ◌≤ℤ◌, lt_z}
use mathlib.Core.Bool.{cond, not}
use mathlib.Core.List.{List}
use mathlib.Core.Logic.{◌↔◌, ◌⊎◌, inl, inr}
use mathlib.Core.Path.{◌∙◌, ◌≡◌, sym}
use Rattle.integer.specs.Division.{ceil_div, floor_div}
use Rattle.integer.specs.Order.{max_z, min_z}
use Rattle.integer.proofs.Parts.{lt-is, lt-isn't, zarith, zify}
use Rattle.integer.proofs.Tests.{lt-or-ge}
use Rattle.model.specs.Box.{at, lower, upper}
use Rattle.model.specs.Rows.{Row, negated, negated_coefs}
use Rattle.model.proofs.PointLaws.{at-negated, neg-mul, neg_sum}
use Rattle.row.specs.Activity.{max_activity, max_term, min_activity, min_term}
use Rattle.row.specs.Kinds.{propagate_form}
use Rattle.row.specs.Outcome.{is_infeasible}
use Rattle.row.specs.Propagation.{new_lower, new_upper, propagate_row}
use Rattle.row.proofs.ActivityLaws.{max_term-nonpos, max_term-pos, min_term-nonpos, min_term-pos}
use Rattle.row.proofs.BoundLaws.{new_lower-nonneg, new_upper-nonpos}
use Rattle.row.proofs.ImpliedBoxLaws.{lower-implied, upper-implied}
use Rattle.row.proofs.PropagationLaws.{propagate-row-feasible-ind}

-- ---- its activities are the row's own, negated and exchanged

min_term-negated : (a l u : ℤ) → min_term (neg_ℤ a) l u ≡ neg_ℤ (max_term a l u)
min_term-negated a l u = cases (lt-or-ge (pos 0) a) (lt-or-ge a (pos 0))
  where
    zero-times : (z : ℤ) → a ≡ pos 0 → neg_ℤ a *ℤ z ≡ pos 0
    zero-times z e = rw e (simp zify (omega zarith))

    cases : (pos 0 <ℤ a) ⊎ (a ≤ℤ pos 0) → (a <ℤ pos 0) ⊎ (pos 0 ≤ℤ a) → min_term (neg_ℤ a) l u ≡ neg_ℤ (max_term a l u)
    cases (inl s) t =
        let n : neg_ℤ a ≤ℤ pos 0 = simp zify (omega zarith) in
        min_term-nonpos (neg_ℤ a) l u n ∙ rw (max_term-pos a l u s) (neg-mul a u)
    cases (inr s) (inl t) =
        let n : pos 0 <ℤ neg_ℤ a = simp zify (omega zarith) in
        min_term-pos (neg_ℤ a) l u n ∙ rw (max_term-nonpos a l u s) (neg-mul a l)
    cases (inr s) (inr t) =
        let z : a ≡ pos 0 = omega zarith in
        let n : neg_ℤ a ≤ℤ pos 0 = simp zify (omega zarith) in
        min_term-nonpos (neg_ℤ a) l u n ∙ zero-times u z ∙ sym (zero-times l z) ∙ rw (max_term-nonpos a l u s) (neg-mul a l)

pub min_activity-negated : (n : ℕ) (A B : List ℤ) → min_activity n (negated_coefs A) B ≡ neg_ℤ (max_activity n A B)
unfolding min_activity max_activity
min_activity-negated n A B = neg_sum n (λ j. max_term (at A j) (lower B j) (upper B j)) _
    (λ j. rw (at-negated A j) (min_term-negated (at A j) (lower B j) (upper B j)))

-- so it is infeasible exactly where Lmax < b
pub negated-infeasible : (n : ℕ) (A B : List ℤ) (b : ℤ) → (neg_ℤ b <ℤ min_activity n (negated_coefs A) B) ↔ (max_activity n A B <ℤ b)
negated-infeasible n A B b = rw (min_activity-negated n A B) (less (max_activity n A B))
  where
    less : (L : ℤ) → (neg_ℤ b <ℤ neg_ℤ L) ↔ (L <ℤ b)
    less L = ((λ h. let q = simp zify at h in omega (zarith, q)), (λ h. simp zify (omega zarith)))

-- ---- its bounds, with L for Lmax: for each a < 0 with g = −a, u becomes the lesser of u and floor((Lmax − b + g×l) / g); for each
-- a > 0, l becomes the greater of l and ceiling((b − Lmax + a×u) / a)

module _ (a b L l u : ℤ) where
  pub new_upper-negated : new_upper (neg_ℤ a) (neg_ℤ b) (neg_ℤ L) l u
      ≡ cond (lt_z a (pos 0)) (min_z u (floor_div (L -ℤ b +ℤ neg_ℤ a *ℤ l) (neg_ℤ a))) u
  unfolding new_upper
  new_upper-negated = cases (lt-or-ge a (pos 0))
    where
      parts : neg_ℤ b -ℤ neg_ℤ L +ℤ neg_ℤ a *ℤ l ≡ L -ℤ b +ℤ neg_ℤ a *ℤ l
      parts = simp zify (omega zarith)

      cases : (a <ℤ pos 0) ⊎ (pos 0 ≤ℤ a)
          → cond (lt_z (pos 0) (neg_ℤ a)) (min_z u (floor_div (neg_ℤ b -ℤ neg_ℤ L +ℤ neg_ℤ a *ℤ l) (neg_ℤ a))) u
          ≡ cond (lt_z a (pos 0)) (min_z u (floor_div (L -ℤ b +ℤ neg_ℤ a *ℤ l) (neg_ℤ a))) u
      cases (inl s) = let n : pos 0 <ℤ neg_ℤ a = simp zify (omega zarith) in rw (lt-is s, lt-is n, parts)
      cases (inr s) = let n : neg_ℤ a ≤ℤ pos 0 = simp zify (omega zarith) in rw (lt-isn't s, lt-isn't n)

  pub new_lower-negated : new_lower (neg_ℤ a) (neg_ℤ b) (neg_ℤ L) l u
      ≡ cond (lt_z (pos 0) a) (max_z l (ceil_div (b -ℤ L +ℤ a *ℤ u) a)) l
  unfolding new_lower
  new_lower-negated = cases (lt-or-ge (pos 0) a)
    where
      twice : neg_ℤ (neg_ℤ a) ≡ a
      twice = simp zify (omega zarith)

      parts : neg_ℤ L +ℤ a *ℤ u -ℤ neg_ℤ b ≡ b -ℤ L +ℤ a *ℤ u
      parts = simp zify (omega zarith)

      cases : (pos 0 <ℤ a) ⊎ (a ≤ℤ pos 0)
          → cond (lt_z (neg_ℤ a) (pos 0)) (max_z l (ceil_div (neg_ℤ L +ℤ neg_ℤ (neg_ℤ a) *ℤ u -ℤ neg_ℤ b) (neg_ℤ (neg_ℤ a)))) l
          ≡ cond (lt_z (pos 0) a) (max_z l (ceil_div (b -ℤ L +ℤ a *ℤ u) a)) l
      cases (inl s) = let n : neg_ℤ a <ℤ pos 0 = simp zify (omega zarith) in rw (lt-is s, lt-is n, twice, parts)
      cases (inr s) = let n : pos 0 ≤ℤ neg_ℤ a = simp zify (omega zarith) in rw (lt-isn't s, lt-isn't n)

-- ---- the bound that a ≤ row leaves

module _ (n : ℕ) (A : List ℤ) (b : ℤ) (B : List ℤ) (j : ℕ) (k : j < n) (f : T (not (is_infeasible (propagate_row n A b B).outcome))) where
  pub lower-left : pos 0 ≤ℤ at A j → lower (propagate_row n A b B).box j ≡ lower B j
  lower-left s = propagate-row-feasible-ind n A b B (λ v. lower v.box j ≡ lower B j)
      (λ _ _. lower-implied n A b (min_activity n A B) B j k ∙ new_lower-nonneg (at A j) b (min_activity n A B) (lower B j) (upper B j) s) f

  pub upper-left : at A j ≤ℤ pos 0 → upper (propagate_row n A b B).box j ≡ upper B j
  upper-left s = propagate-row-feasible-ind n A b B (λ v. upper v.box j ≡ upper B j)
      (λ _ _. upper-implied n A b (min_activity n A B) B j k ∙ new_upper-nonpos (at A j) b (min_activity n A B) (lower B j) (upper B j) s) f

-- So no bound is moved by both forms, and the bounds that differ before and after an = row are those that its ≤ form moved and those
-- that its negated form did: at most n and n, "up to 2n bounds moved".
module _ (n : ℕ) (r : Row) (B : List ℤ) (j : ℕ) (k : j < n)
    (f : T (not (is_infeasible (propagate_form n r B).outcome)))
    (g : T (not (is_infeasible (propagate_form n (negated r) (propagate_form n r B).box).outcome))) where
  pub lower-once : (lower (propagate_form n r B).box j ≡ lower B j)
      ⊎ (lower (propagate_form n (negated r) (propagate_form n r B).box).box j ≡ lower (propagate_form n r B).box j)
  unfolding negated
  lower-once = cases (lt-or-ge (at r.coefs j) (pos 0))
    where
      cases : (at r.coefs j <ℤ pos 0) ⊎ (pos 0 ≤ℤ at r.coefs j) → (lower (propagate_form n r B).box j ≡ lower B j)
          ⊎ (lower (propagate_form n (negated r) (propagate_form n r B).box).box j ≡ lower (propagate_form n r B).box j)
      cases (inl s) = inr (lower-left n (negated_coefs r.coefs) (neg_ℤ r.rhs) (propagate_form n r B).box j k g
          (rw (at-negated r.coefs j) (simp zify (omega zarith))))
      cases (inr s) = inl (lower-left n r.coefs r.rhs B j k f s)

  pub upper-once : (upper (propagate_form n r B).box j ≡ upper B j)
      ⊎ (upper (propagate_form n (negated r) (propagate_form n r B).box).box j ≡ upper (propagate_form n r B).box j)
  unfolding negated
  upper-once = cases (lt-or-ge (pos 0) (at r.coefs j))
    where
      cases : (pos 0 <ℤ at r.coefs j) ⊎ (at r.coefs j ≤ℤ pos 0) → (upper (propagate_form n r B).box j ≡ upper B j)
          ⊎ (upper (propagate_form n (negated r) (propagate_form n r B).box).box j ≡ upper (propagate_form n r B).box j)
      cases (inl s) = inr (upper-left n (negated_coefs r.coefs) (neg_ℤ r.rhs) (propagate_form n r B).box j k g
          (rw (at-negated r.coefs j) (simp zify (omega zarith))))
      cases (inr s) = inl (upper-left n r.coefs r.rhs B j k f s)
