-- Laws of propagating a row: it shrinks the box, keeps every point that meets the row and every box that it leaves as it is, and
-- has nothing more to do when it is done again.
use Prim.Native.Nat.{◌<◌, ◌≤◌, suc, zero, ℕ}
use lib.Dec.{T, T_not, not_T}
use lib.IntN.{◌+ℤ◌, pos, ℤ}
use lib.Signed.{◌<ℤ◌, ◌≤ℤ◌, lt_z, lt_z_no, lt_z_yes}
use mathlib.Core.Bool.{cond, not}
use mathlib.Core.List.{List}
use mathlib.Core.Logic.{◌≢◌, ◌⊎◌, inl, inr, ⊎_elim}
use mathlib.Core.Path.{◌∙◌, ◌≡◌, ap, refl, subst, sym}
use native.Mathlib.Decide.{ℕ_discrete}
use native.Mathlib.Omega.{arith}
use Rattle.integer.specs.Index.{all}
use Rattle.integer.proofs.Parts.{lt-isn't, mul-cancel-le, zarith, zify}
use Rattle.integer.proofs.Tests.{T→true, cond_ind, lt-or-ge}
use Rattle.model.specs.Box.{Inside, NonEmpty, at, empty_box, is_empty, lower, upper, width}
use Rattle.model.specs.Point.{InBox, InBoxOver, RowHolds, RowHoldsOver}
use Rattle.model.specs.Valid.{ValidBox}
use Rattle.model.proofs.BoxLaws.{box-ext, box_of-inside, inside-box_of, inside-refl, inside-trans, is_empty_empty, is_empty→eq, lower-box_of, non_empty-isn't, not-in-empty, upper-box_of, ≤ℤ-antisymm, ≤ℤ-trans}
use Rattle.row.specs.Activity.{min_activity}
use Rattle.row.specs.Moved.{moved_bounds}
use Rattle.row.specs.Outcome.{Outcome, changed, infeasible, is_changed, is_infeasible, unchanged}
use Rattle.row.specs.Propagation.{PropagatedRow, implied_box, new_lower, new_upper, propagate_row, stays_at}
use Rattle.row.specs.ValidRow.{ValidRow}
use Rattle.row.proofs.ActivityLaws.{min_activity-at, min_activity-gap, min_activity-le-dot-over, min_activity-mono}
use Rattle.row.proofs.BoundLaws.{le-new_upper-again, le-new_upper-at, le-new_upper-mono, lower-le-new_lower, new_lower-again-le, new_lower-at-le, new_lower-le-mono, new_upper-le-upper, one-stays}
use Rattle.row.proofs.ImpliedBoxLaws.{box-stays, implied-inside, implied-non_empty, length-implied, lower-implied, min_activity-implied, stays-box, upper-implied, valid-empty, valid-implied, valid-non_empty}
use Rattle.row.proofs.MovedLaws.{moved-half, moved_none, moved_same, moved-width}
use Rattle.row.proofs.PointBox.{Inside→in, box_at, in→Inside, lower-at, non_empty-at, upper-at}
use Rattle.row.proofs.Width.{width_same}

-- ---- the three cases

module _ (n : ℕ) (A : List ℤ) (b : ℤ) (B : List ℤ) where
  pub propagate-row-ind : (P : PropagatedRow → Type 0)
      → (T (is_empty n B) → P (record { outcome = infeasible; moved = 0; box = B }))
      → (T (not (is_empty n B)) → b <ℤ min_activity n A B → P (record { outcome = infeasible; moved = 0; box = empty_box n }))
      → (T (not (is_empty n B)) → min_activity n A B ≤ℤ b → P (record {
        outcome = cond (all n (stays_at A b (min_activity n A B) B)) unchanged changed;
        moved = moved_bounds n B (implied_box n A b (min_activity n A B) B);
        box = implied_box n A b (min_activity n A B) B;
      }))
      → P (propagate_row n A b B)
  unfolding propagate_row
  propagate-row-ind P f g h = cond_ind (is_empty n B) _ _ P f
      (λ t. cond_ind (lt_z b (min_activity n A B)) _ _ P (λ l. g t (lt_z_yes l)) (λ l. h t (lt_z_no l)))

  -- where it is feasible, only the third is left
  pub propagate-row-feasible-ind : (P : PropagatedRow → Type 0)
      → (T (not (is_empty n B)) → min_activity n A B ≤ℤ b → P (record {
        outcome = cond (all n (stays_at A b (min_activity n A B) B)) unchanged changed;
        moved = moved_bounds n B (implied_box n A b (min_activity n A B) B);
        box = implied_box n A b (min_activity n A B) B;
      }))
      → T (not (is_infeasible (propagate_row n A b B).outcome)) → P (propagate_row n A b B)
  unfolding is_infeasible
  propagate-row-feasible-ind P f = propagate-row-ind (λ v. T (not (is_infeasible v.outcome)) → P v)
      (λ _ z. absurd z) (λ _ _ z. absurd z) (λ t h _. f t h)

  pub propagate-row-shrinks : T (not (is_infeasible (propagate_row n A b B).outcome)) → Inside n (propagate_row n A b B).box B
  propagate-row-shrinks = propagate-row-feasible-ind (λ v. Inside n v.box B) (λ _ _. implied-inside n A b (min_activity n A B) B)

  pub propagate-row-infeasible-box : T (is_infeasible (propagate_row n A b B).outcome) → (propagate_row n A b B).box ≡ empty_box n
  unfolding is_infeasible
  propagate-row-infeasible-box = propagate-row-ind (λ v. T (is_infeasible v.outcome) → v.box ≡ empty_box n)
      (λ t _. is_empty→eq n B t) (λ _ _ _. refl)
      (λ _ _. cond_ind (all n (stays_at A b (min_activity n A B) B)) unchanged changed
      (λ o. T (is_infeasible o) → implied_box n A b (min_activity n A B) B ≡ empty_box n) (λ _ z. absurd z) (λ _ z. absurd z))

pub propagate-row-empty : (n : ℕ) (A : List ℤ) (b : ℤ) → propagate_row n A b (empty_box n) ≡ record { outcome = infeasible; moved = 0; box = empty_box n }
unfolding propagate_row
propagate-row-empty n A b = rw (T→true (is_empty n (empty_box n)) (is_empty_empty n))

pub propagate-row-inside : (A : List ℤ) (b : ℤ) (B : List ℤ) {n : ℕ} {Q : List ℤ} → 0 < n → NonEmpty n Q
    → Inside n Q (propagate_row n A b B).box → Inside n Q B
propagate-row-inside A b B {n} {Q} h p = propagate-row-ind n A b B (λ v. Inside n Q v.box → Inside n Q B)
    (λ _ i. i)
    (λ _ _ i. absurd (not-in-empty n Q h p i))
    (λ _ _ i. inside-trans i (implied-inside n A b (min_activity n A B) B))

-- ---- no fractional point is lost by the answer infeasible

pub empty-no-point : {n : ℕ} {B x : List ℤ} {d : ℕ} → 0 < n → 0 < d → B ≡ empty_box n → InBoxOver n B x d → ⊥
unfolding empty_box
empty-no-point {n} {B} {x} {d} h g e i =
    let l = simp zify at (rw (e, lower-box_of n (λ j. pos 1) (λ j. pos 0) 0 h) at (i.low 0 h)) in
    let u = simp zify at (rw (e, upper-box_of n (λ j. pos 1) (λ j. pos 0) 0 h) at (i.high 0 h)) in
    omega arith

pub propagate-row-infeasible : {n : ℕ} {A : List ℤ} {b : ℤ} {B x : List ℤ} {d : ℕ} → 0 < n → 0 < d
    → T (is_infeasible (propagate_row n A b B).outcome) → InBoxOver n B x d → RowHoldsOver n A b x d → ⊥
unfolding is_infeasible
propagate-row-infeasible {n} {A} {b} {B} {x} {d} h g = propagate-row-ind n A b B
    (λ v. T (is_infeasible v.outcome) → InBoxOver n B x d → RowHoldsOver n A b x d → ⊥)
    (λ t _ i _. empty-no-point h g (is_empty→eq n B t) i)
    (λ _ f _ i r. let c = mul-cancel-le (min_activity n A B) b (pos d) (omega zarith) (≤ℤ-trans (min_activity-le-dot-over A i) r.le) in
    omega zarith)
    (λ _ _. cond_ind (all n (stays_at A b (min_activity n A B) B)) unchanged changed
    (λ o. T (is_infeasible o) → InBoxOver n B x d → RowHoldsOver n A b x d → ⊥) (λ _ z. absurd z) (λ _ z. absurd z))

-- ---- the answers on a box that is not empty

pub changed-feasible : (o : Outcome) → T (is_changed o) → T (not (is_infeasible o))
unfolding is_infeasible is_changed
changed-feasible infeasible t = t
changed-feasible changed t = tt
changed-feasible unchanged t = tt

module _ (A : List ℤ) (b : ℤ) {n : ℕ} {B : List ℤ} (p : NonEmpty n B) where
  pub propagate-row-non_empty : T (not (is_infeasible (propagate_row n A b B).outcome)) → NonEmpty n (propagate_row n A b B).box
  propagate-row-non_empty = propagate-row-feasible-ind n A b B (λ v. NonEmpty n v.box) (λ _ f. implied-non_empty n A b (min_activity n A B) B f p)

  pub propagate-row-unchanged : T (not (is_infeasible (propagate_row n A b B).outcome)) → T (not (is_changed (propagate_row n A b B).outcome))
      → (propagate_row n A b B).box ≡ B
  unfolding is_changed
  propagate-row-unchanged = propagate-row-feasible-ind n A b B (λ v. T (not (is_changed v.outcome)) → v.box ≡ B)
      (λ _ _. cond_ind (all n (stays_at A b (min_activity n A B) B)) unchanged changed
      (λ o. T (not (is_changed o)) → implied_box n A b (min_activity n A B) B ≡ B)
      (λ t _. stays-box n A b (min_activity n A B) B p.len t) (λ _ z. absurd z))

  pub propagate-row-changed : T (is_changed (propagate_row n A b B).outcome) → (propagate_row n A b B).box ≢ B
  unfolding is_changed
  propagate-row-changed = propagate-row-ind n A b B (λ v. T (is_changed v.outcome) → v.box ≢ B)
      (λ _ z. absurd z) (λ _ _ z. absurd z)
      (λ _ _. cond_ind (all n (stays_at A b (min_activity n A B) B)) unchanged changed
      (λ o. T (is_changed o) → implied_box n A b (min_activity n A B) B ≢ B)
      (λ _ z. absurd z) (λ t _ e. T_not (all n (stays_at A b (min_activity n A B) B)) t (box-stays n A b (min_activity n A B) B e)))

  pub propagate-row-width : T (is_changed (propagate_row n A b B).outcome) → width n (propagate_row n A b B).box <ℤ width n B
  propagate-row-width t = cases (lt-or-ge (width n N) (width n B))
    where
      N : List ℤ
      N = (propagate_row n A b B).box

      f : T (not (is_infeasible (propagate_row n A b B).outcome))
      f = changed-feasible (propagate_row n A b B).outcome t

      cases : (width n N <ℤ width n B) ⊎ (width n B ≤ℤ width n N) → width n N <ℤ width n B
      cases (inl h) = h
      cases (inr h) = absurd (propagate-row-changed t (width_same (propagate-row-shrinks n A b B f) (propagate-row-non_empty f).len p.len h))

-- ---- how many bounds it moved

module _ (n : ℕ) (A : List ℤ) (b : ℤ) (B : List ℤ) where
  pub propagate-row-moved : T (not (is_infeasible (propagate_row n A b B).outcome))
      → (propagate_row n A b B).moved ≡ moved_bounds n B (propagate_row n A b B).box
  propagate-row-moved = propagate-row-feasible-ind n A b B (λ v. v.moved ≡ moved_bounds n B v.box) (λ _ _. refl)

  -- "a visit that answers None adds nothing"
  pub propagate-row-infeasible-moved : T (is_infeasible (propagate_row n A b B).outcome) → (propagate_row n A b B).moved ≡ 0
  unfolding is_infeasible
  propagate-row-infeasible-moved = propagate-row-ind n A b B (λ v. T (is_infeasible v.outcome) → v.moved ≡ 0)
      (λ _ _. refl) (λ _ _ _. refl)
      (λ _ _. cond_ind (all n (stays_at A b (min_activity n A B) B)) unchanged changed
      (λ o. T (is_infeasible o) → moved_bounds n B (implied_box n A b (min_activity n A B) B) ≡ 0) (λ _ z. absurd z) (λ _ z. absurd z))

  -- "from 1 to n": of each variable one bound stays
  pub propagate-row-moved-le : (propagate_row n A b B).moved ≤ n
  propagate-row-moved-le = propagate-row-ind n A b B (λ v. v.moved ≤ n) (λ _. omega arith) (λ _ _. omega arith)
      (λ _ _. moved-half n B (implied_box n A b L B) (λ j k.
      ⊎_elim (λ e. inl (lower-implied n A b L B j k ∙ e)) (λ e. inr (upper-implied n A b L B j k ∙ e)) (one-stays (at A j) b L (lower B j) (upper B j))))
    where
      L : ℤ
      L = min_activity n A B

  -- and no more than the width that the box lost
  pub propagate-row-moved-width : T (not (is_infeasible (propagate_row n A b B).outcome))
      → (pos (propagate_row n A b B).moved +ℤ width n (propagate_row n A b B).box) ≤ℤ width n B
  propagate-row-moved-width f = rw (propagate-row-moved f) (moved-width n (propagate-row-shrinks n A b B f))

module _ (A : List ℤ) (b : ℤ) {n : ℕ} {B : List ℤ} (p : NonEmpty n B) where
  pub propagate-row-moved-none : T (not (is_infeasible (propagate_row n A b B).outcome)) → (propagate_row n A b B).moved ≡ 0
      → (propagate_row n A b B).box ≡ B
  propagate-row-moved-none f e =
      let z = rw (propagate-row-moved n A b B f) at e in
      box-ext n (propagate_row n A b B).box B (propagate-row-non_empty A b p f).len p.len
      (λ j k. sym (moved_none n B (propagate_row n A b B).box z j k).0) (λ j k. sym (moved_none n B (propagate_row n A b B).box z j k).1)

  pub propagate-row-moved-some : T (is_changed (propagate_row n A b B).outcome) → 1 ≤ (propagate_row n A b B).moved
  propagate-row-moved-some t = go (ℕ_discrete (propagate_row n A b B).moved 0)
    where
      go : Dec ((propagate_row n A b B).moved ≡ 0) → 1 ≤ (propagate_row n A b B).moved
      go (yes e) = absurd (propagate-row-changed A b p t (propagate-row-moved-none (changed-feasible (propagate_row n A b B).outcome t) e))
      go (no e) = omega arith

  -- the bounds that moved are 0 exactly where the answer is not Narrowed
  pub propagate-row-still-moved : T (not (is_infeasible (propagate_row n A b B).outcome)) → T (not (is_changed (propagate_row n A b B).outcome))
      → (propagate_row n A b B).moved ≡ 0
  propagate-row-still-moved f t =
      propagate-row-moved n A b B f ∙ rw (propagate-row-unchanged A b p f t) (moved_same n B)

-- ---- boxes that a row leaves as they are

pub record Stable (n : ℕ) (A : List ℤ) (b : ℤ) (Q : List ℤ) : Type 0 where
  pub met : min_activity n A Q ≤ℤ b
  pub low : (j : ℕ) → j < n → new_lower (at A j) b (min_activity n A Q) (lower Q j) (upper Q j) ≤ℤ lower Q j
  pub high : (j : ℕ) → j < n → upper Q j ≤ℤ new_upper (at A j) b (min_activity n A Q) (lower Q j) (upper Q j)

module _ {A : List ℤ} {b : ℤ} {n : ℕ} {Q : List ℤ} (h : 0 < n) (p : NonEmpty n Q) where
  pub box→stable : (propagate_row n A b Q).box ≡ Q → Stable n A b Q
  unfolding implied_box
  box→stable = propagate-row-ind n A b Q (λ v. v.box ≡ Q → Stable n A b Q)
      (λ t _. absurd (not-in-empty n Q h p (subst (Inside n Q) (is_empty→eq n Q t) (inside-refl n Q))))
      (λ _ _ e. absurd (not-in-empty n Q h p (rw e (inside-refl n Q))))
      (λ _ f e. let i : Inside n Q (implied_box n A b (min_activity n A Q) Q) = rw e (inside-refl n Q) in
      record { met = f; low = λ j k. (box_of-inside n Q _ _ i j k).0; high = λ j k. (box_of-inside n Q _ _ i j k).1 })

  pub stable→same : Stable n A b Q → propagate_row n A b Q ≡ record { outcome = unchanged; moved = 0; box = Q }
  unfolding propagate_row
  stable→same s =
      let e : implied_box n A b (min_activity n A Q) Q ≡ Q = box-ext n _ Q (length-implied n A b (min_activity n A Q) Q) p.len
      (λ j k. lower-implied n A b (min_activity n A Q) Q j k ∙ ≤ℤ-antisymm (s.low j k) (lower-le-new_lower _ _ _ _ _))
      (λ j k. upper-implied n A b (min_activity n A Q) Q j k ∙ ≤ℤ-antisymm (new_upper-le-upper _ _ _ _ _) (s.high j k)) in
      rw (non_empty-isn't h p, lt-isn't s.met, T→true (all n (stays_at A b (min_activity n A Q) Q)) (box-stays n A b (min_activity n A Q) Q e), e, moved_same n Q)

-- one that lies in B lies in the propagated B too
module _ (A : List ℤ) (b : ℤ) {n : ℕ} {Q B : List ℤ} (h : 0 < n) (p : NonEmpty n Q) (e : (propagate_row n A b Q).box ≡ Q) (i : Inside n Q B) where
  pub propagate-row-monotone : Inside n Q (propagate_row n A b B).box
  unfolding implied_box
  propagate-row-monotone = propagate-row-ind n A b B (λ v. Inside n Q v.box)
      (λ _. i)
      (λ _ f. let g = min_activity-mono A i in let m = s.met in absurd (let z : ⊥ = omega zarith in z))
      (λ _ f. inside-box_of n Q _ _
      (λ j k. new_lower-le-mono _ _ _ _ _ _ _ _ (i.low j k) (min_activity-gap A i j k) (s.low j k))
      (λ j k. le-new_upper-mono _ _ _ _ _ _ _ _ (i.high j k) (min_activity-gap A i j k) (s.high j k)))
    where
      s : Stable n A b Q
      s = box→stable h p e

  pub propagate-row-monotone-feasible : T (not (is_infeasible (propagate_row n A b B).outcome))
  propagate-row-monotone-feasible = not_T (is_infeasible (propagate_row n A b B).outcome)
      (λ t. not-in-empty n Q h p (subst (Inside n Q) (propagate-row-infeasible-box n A b B t) propagate-row-monotone))

-- ---- propagating once more

propagated-stable : (n : ℕ) (A : List ℤ) (b : ℤ) (B : List ℤ) → T (not (is_infeasible (propagate_row n A b B).outcome))
    → Stable n A b (propagate_row n A b B).box
propagated-stable n A b B = propagate-row-feasible-ind n A b B (λ v. Stable n A b v.box)
    (λ _ f. let L = min_activity n A B in let e = min_activity-implied n A b L B in record {
      met = rw e f;
      low = λ j k. rw (e, lower-implied n A b L B j k, upper-implied n A b L B j k) (new_lower-again-le _ _ _ _ _);
      high = λ j k. rw (e, lower-implied n A b L B j k, upper-implied n A b L B j k) (le-new_upper-again _ _ _ _ _);
    })

module _ (A : List ℤ) (b : ℤ) {n : ℕ} {B : List ℤ} (h : 0 < n) (p : NonEmpty n B) (f : T (not (is_infeasible (propagate_row n A b B).outcome))) where
  propagated-again : propagate_row n A b (propagate_row n A b B).box ≡ record { outcome = unchanged; moved = 0; box = (propagate_row n A b B).box }
  propagated-again = stable→same h (propagate-row-non_empty A b p f) (propagated-stable n A b B f)

  pub propagate-row-again : (propagate_row n A b (propagate_row n A b B).box).box ≡ (propagate_row n A b B).box
  propagate-row-again = ap (λ (v : PropagatedRow). v.box) propagated-again

  pub propagate-row-again-outcome : (propagate_row n A b (propagate_row n A b B).box).outcome ≡ unchanged
  propagate-row-again-outcome = ap (λ (v : PropagatedRow). v.outcome) propagated-again

-- ---- points

module _ {n : ℕ} {A : List ℤ} {b : ℤ} {x : List ℤ} (h : 0 < n) (r : RowHolds n A b x) where
  point-stable : Stable n A b (box_at n x)
  point-stable =
      let m : min_activity n A (box_at n x) ≤ℤ b = rw (min_activity-at n A x) r.le in
      record {
        met = m;
        low = λ j k. rw (lower-at n x j k, upper-at n x j k) (new_lower-at-le (at A j) b _ (at x j) m);
        high = λ j k. rw (lower-at n x j k, upper-at n x j k) (le-new_upper-at (at A j) b _ (at x j) m);
      }

  pub propagate-row-point : (propagate_row n A b (box_at n x)).box ≡ box_at n x
  propagate-row-point = ap (λ (v : PropagatedRow). v.box) (stable→same h (non_empty-at n x) point-stable)

  pub propagate-row-point-outcome : (propagate_row n A b (box_at n x)).outcome ≡ unchanged
  propagate-row-point-outcome = ap (λ (v : PropagatedRow). v.outcome) (stable→same h (non_empty-at n x) point-stable)

pub propagate-row-keeps-points : {n : ℕ} {A : List ℤ} {b : ℤ} {B x : List ℤ} → InBox n B x → RowHolds n A b x
    → InBox n (propagate_row n A b B).box x
propagate-row-keeps-points {n = zero} i r =
    record { low = λ j k. absurd (let z : ⊥ = omega arith in z); high = λ j k. absurd (let z : ⊥ = omega arith in z) }
propagate-row-keeps-points {n = suc m} {A} {b} {B} {x} i r =
    let h : 0 < suc m = omega arith in
    Inside→in (suc m) _ x (propagate-row-monotone A b h (non_empty-at (suc m) x) (propagate-row-point h r) (in→Inside i))

-- ---- the limits

pub propagate-row-valid : (A : List ℤ) (b : ℤ) {n : ℕ} {B : List ℤ} → ValidBox n B → ValidBox n (propagate_row n A b B).box
propagate-row-valid A b {n} {B} v = propagate-row-ind n A b B (λ w. ValidBox n w.box)
    (λ _. v) (λ _ _. valid-empty n) (λ t f. valid-implied n A b (min_activity n A B) B f v (valid-non_empty v t))

pub propagate-row-valid_row : {n : ℕ} {A : List ℤ} {b : ℤ} {B : List ℤ} → ValidRow n A b B → ValidRow n A b (propagate_row n A b B).box
propagate-row-valid_row {n} {A} {b} {B} v = record {
  coefs = record {
    some = v.coefs.some;
    few = v.coefs.few;
    len = v.coefs.len;
    range = v.coefs.range;
    box = propagate-row-valid A b v.coefs.box;
  };
  rhs = v.rhs;
}
