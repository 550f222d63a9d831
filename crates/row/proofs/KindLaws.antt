-- Laws of the calls on a row that has a kind: those of a ≤ row, cited once for a ≤ row and twice for an = row.
use Prim.Native.Nat.{◌<◌, ℕ}
use lib.Dec.{T, T_not, eqb, not_T}
use lib.IntN.{neg_ℤ, pos, ℤ}
use lib.Signed.{◌<ℤ◌, ◌≤ℤ◌}
use mathlib.Core.Bool.{Bool, ◌||◌, cond, false, not, true}
use mathlib.Core.List.{List}
use mathlib.Core.Logic.{◌≢◌, ◌⊎◌, inl, inr, ⊎_elim}
use mathlib.Core.Path.{◌∙◌, ◌≡◌, ap, refl, subst, sym}
use Rattle.integer.proofs.Parts.{mul_mono, zarith, zify}
use Rattle.integer.proofs.Tests.{T→false, cond_ind, decide, eqb-test, lt-or-ge, or_cases}
use Rattle.model.specs.Box.{Inside, NonEmpty, at, empty_box, is_empty, width}
use Rattle.model.specs.Point.{InBox, InBoxOver, Meets, MeetsOver}
use Rattle.model.specs.Rows.{Row, is_equality, negated}
use Rattle.model.specs.Valid.{Between, ValidBox}
use Rattle.model.proofs.BoxLaws.{inside-antisymm, inside-refl, inside-trans, not-in-empty, ≤ℤ-trans}
use Rattle.model.proofs.PointLaws.{at-negated, length-negated, meets-le, meets-negated, meets-over-le}
use Rattle.row.specs.Kinds.{and_then, propagate_form, propagate_row_of}
use Rattle.row.specs.Moved.{moved_bounds}
use Rattle.row.specs.Outcome.{Outcome, changed, infeasible, is_changed, is_infeasible, unchanged}
use Rattle.row.specs.Propagation.{PropagatedRow, propagate_row}
use Rattle.row.specs.ValidRow.{ValidRow}
use Rattle.row.proofs.MovedLaws.{moved_same}
use Rattle.row.proofs.PointBox.{box_at, in→Inside, non_empty-at}
use Rattle.row.proofs.PropagationLaws.{changed-feasible, empty-no-point, propagate-row-changed, propagate-row-empty, propagate-row-feasible-ind, propagate-row-infeasible, propagate-row-infeasible-box, propagate-row-infeasible-moved, propagate-row-inside, propagate-row-keeps-points, propagate-row-monotone, propagate-row-moved, propagate-row-non_empty, propagate-row-point, propagate-row-shrinks, propagate-row-unchanged, propagate-row-valid}
use Rattle.row.proofs.Width.{width_same}

-- ---- the negated row is within the limits: "negation stays within the limits"

neg-between : (m : ℕ) {z : ℤ} → Between (neg_ℤ (pos m)) (pos m) z → Between (neg_ℤ (pos m)) (pos m) (neg_ℤ z)
neg-between m {z} b =
    let l = simp zify at b.above in let u = simp zify at b.below in
    record { above = simp zify (omega (zarith, l, u)); below = simp zify (omega (zarith, l, u)) }

pub negated-valid : {n : ℕ} (r : Row) {B : List ℤ} → ValidRow n r.coefs r.rhs B → ValidRow n (negated r).coefs (negated r).rhs B
unfolding negated
negated-valid {n} r {B} v = record {
  coefs = record {
    some = v.coefs.some;
    few = v.coefs.few;
    len = length-negated r.coefs ∙ v.coefs.len;
    range = λ j. rw (at-negated r.coefs j) (neg-between 1_000_000 (v.coefs.range j));
    box = v.coefs.box;
  };
  rhs = neg-between 1_000_000_000 v.rhs;
}

-- ---- a kind byte that is not 1

pub other-kind : (kind : ℕ) → (kind ≡ 1 → ⊥) → T (not (eqb kind 1))
other-kind kind q = not_T (eqb kind 1) (λ t. q ((eqb-test kind 1).0 t))

-- ---- a ≤ row is propagated as before: "First-edition books have kind 0 throughout"

pub kinded-le : (n : ℕ) (r : Row) (B : List ℤ) → T (not (is_equality r)) → propagate_row_of n r B ≡ propagate_row n r.coefs r.rhs B
unfolding propagate_row_of
kinded-le n r B t = rw (T→false (is_equality r) t)

-- ---- the four cases of a propagation: a ≤ row; an = row whose first form is infeasible, whose second is, or neither

abbrev first : ℕ → Row → List ℤ → PropagatedRow
first n r B = propagate_form n r B

abbrev second : ℕ → Row → List ℤ → PropagatedRow
second n r B = propagate_form n (negated r) (propagate_form n r B).box

module _ (n : ℕ) (r : Row) (B : List ℤ) where
  pub kinded-ind : (P : PropagatedRow → Type 0)
      → (T (not (is_equality r)) → P (first n r B))
      → (T (is_equality r) → T (is_infeasible (first n r B).outcome) → P (first n r B))
      → (T (is_equality r) → T (not (is_infeasible (first n r B).outcome)) → T (is_infeasible (second n r B).outcome) → P (second n r B))
      → (T (is_equality r) → T (not (is_infeasible (first n r B).outcome)) → T (not (is_infeasible (second n r B).outcome))
      → P (record {
        outcome = cond (is_changed (first n r B).outcome || is_changed (second n r B).outcome) changed unchanged;
        moved = moved_bounds n B (second n r B).box;
        box = (second n r B).box;
      }))
      → P (propagate_row_of n r B)
  unfolding propagate_row_of and_then
  kinded-ind P f g h k = cond_ind (is_equality r) _ _ P
      (λ q. cond_ind (is_infeasible (first n r B).outcome) _ _ P (g q)
      (λ t. cond_ind (is_infeasible (second n r B).outcome) _ _ P (h q t) (k q t)))
      f

  -- neither form's outcome is infeasible: so is the whole
  joined-feasible : (o p : Outcome) → T (is_infeasible (cond (is_changed o || is_changed p) changed unchanged)) → ⊥
  unfolding is_infeasible
  joined-feasible o p = cond_ind (is_changed o || is_changed p) changed unchanged (λ z. T (is_infeasible z) → ⊥) (λ _ z. z) (λ _ z. z)

  -- where it is feasible: a ≤ row, or an = row of which both forms are
  pub kinded-feasible-ind : (P : PropagatedRow → Type 0)
      → (T (not (is_equality r)) → T (not (is_infeasible (first n r B).outcome)) → P (first n r B))
      → (T (is_equality r) → T (not (is_infeasible (first n r B).outcome)) → T (not (is_infeasible (second n r B).outcome))
      → P (record {
        outcome = cond (is_changed (first n r B).outcome || is_changed (second n r B).outcome) changed unchanged;
        moved = moved_bounds n B (second n r B).box;
        box = (second n r B).box;
      }))
      → T (not (is_infeasible (propagate_row_of n r B).outcome)) → P (propagate_row_of n r B)
  kinded-feasible-ind P f k = kinded-ind (λ v. T (not (is_infeasible v.outcome)) → P v)
      f
      (λ _ t u. absurd (T_not (is_infeasible (first n r B).outcome) u t))
      (λ _ _ t u. absurd (T_not (is_infeasible (second n r B).outcome) u t))
      (λ q t u _. k q t u)

  -- contracting
  pub kinded-shrinks : T (not (is_infeasible (propagate_row_of n r B).outcome)) → Inside n (propagate_row_of n r B).box B
  kinded-shrinks = kinded-feasible-ind (λ v. Inside n v.box B)
      (λ _. propagate-row-shrinks n r.coefs r.rhs B)
      (λ _ t u. inside-trans (propagate-row-shrinks n (negated r).coefs (negated r).rhs (first n r B).box u)
      (propagate-row-shrinks n r.coefs r.rhs B t))

  -- the number of bounds moved is that of bounds that differ, and none where it is infeasible
  pub kinded-moved : T (not (is_infeasible (propagate_row_of n r B).outcome)) → (propagate_row_of n r B).moved ≡ moved_bounds n B (propagate_row_of n r B).box
  kinded-moved = kinded-feasible-ind (λ v. v.moved ≡ moved_bounds n B v.box)
      (λ _. propagate-row-moved n r.coefs r.rhs B) (λ _ _ _. refl)

  pub kinded-infeasible-moved : T (is_infeasible (propagate_row_of n r B).outcome) → (propagate_row_of n r B).moved ≡ 0
  kinded-infeasible-moved = kinded-ind (λ v. T (is_infeasible v.outcome) → v.moved ≡ 0)
      (λ _. propagate-row-infeasible-moved n r.coefs r.rhs B)
      (λ _ _. propagate-row-infeasible-moved n r.coefs r.rhs B)
      (λ _ _ _. propagate-row-infeasible-moved n (negated r).coefs (negated r).rhs (first n r B).box)
      (λ _ _ _ z. absurd (joined-feasible (first n r B).outcome (second n r B).outcome z))

  pub kinded-infeasible-box : T (is_infeasible (propagate_row_of n r B).outcome) → (propagate_row_of n r B).box ≡ empty_box n
  kinded-infeasible-box = kinded-ind (λ v. T (is_infeasible v.outcome) → v.box ≡ empty_box n)
      (λ _. propagate-row-infeasible-box n r.coefs r.rhs B)
      (λ _ _. propagate-row-infeasible-box n r.coefs r.rhs B)
      (λ _ _ _. propagate-row-infeasible-box n (negated r).coefs (negated r).rhs (first n r B).box)
      (λ _ _ _ z. absurd (joined-feasible (first n r B).outcome (second n r B).outcome z))

  -- on the empty box it is infeasible
  pub kinded-feasible : T (not (is_infeasible (propagate_row_of n r B).outcome)) → T (not (is_empty n B))
  kinded-feasible = kinded-feasible-ind (λ _. T (not (is_empty n B))) (λ _. feasible) (λ _ t _. feasible t)
    where
      feasible : T (not (is_infeasible (first n r B).outcome)) → T (not (is_empty n B))
      feasible = propagate-row-feasible-ind n r.coefs r.rhs B (λ _. T (not (is_empty n B))) (λ t _. t)

pub kinded-empty : (n : ℕ) (r : Row) → propagate_row_of n r (empty_box n) ≡ record { outcome = infeasible; moved = 0; box = empty_box n }
unfolding propagate_row_of and_then is_infeasible
kinded-empty n r = cond_ind (is_equality r) _ _ (λ v. v ≡ record { outcome = infeasible; moved = 0; box = empty_box n })
    (λ _. rw (propagate-row-empty n r.coefs r.rhs))
    (λ _. propagate-row-empty n r.coefs r.rhs)

pub kinded-inside : (r : Row) (B : List ℤ) {n : ℕ} {Q : List ℤ} → 0 < n → NonEmpty n Q
    → Inside n Q (propagate_row_of n r B).box → Inside n Q B
kinded-inside r B {n} {Q} h p = kinded-ind n r B (λ v. Inside n Q v.box → Inside n Q B)
    (λ _. propagate-row-inside r.coefs r.rhs B h p)
    (λ _ _. propagate-row-inside r.coefs r.rhs B h p)
    (λ _ _ _. both) (λ _ _ _. both)
  where
    both : Inside n Q (second n r B).box → Inside n Q B
    both i = propagate-row-inside r.coefs r.rhs B h p (propagate-row-inside (negated r).coefs (negated r).rhs (first n r B).box h p i)

-- the limits
pub kinded-valid : (r : Row) {n : ℕ} {B : List ℤ} → ValidBox n B → ValidBox n (propagate_row_of n r B).box
kinded-valid r {n} {B} v = kinded-ind n r B (λ w. ValidBox n w.box)
    (λ _. u) (λ _ _. u)
    (λ _ _ _. propagate-row-valid (negated r).coefs (negated r).rhs u) (λ _ _ _. propagate-row-valid (negated r).coefs (negated r).rhs u)
  where
    u : ValidBox n (first n r B).box
    u = propagate-row-valid r.coefs r.rhs v

-- ---- the answers on a box that is not empty

joined_same : (a b : Bool) → T (not (is_changed (cond (a || b) changed unchanged))) → T (not a) × T (not b)
unfolding is_changed
joined_same true b t = absurd t
joined_same false true t = absurd t
joined_same false false t = (tt, tt)

joined-changed : (a : Bool) → T (is_changed (cond a changed unchanged)) → T a
unfolding is_changed
joined-changed true t = tt
joined-changed false t = t

module _ (r : Row) {n : ℕ} {B : List ℤ} (p : NonEmpty n B) where
  pub kinded-non_empty : T (not (is_infeasible (propagate_row_of n r B).outcome)) → NonEmpty n (propagate_row_of n r B).box
  kinded-non_empty = kinded-feasible-ind n r B (λ v. NonEmpty n v.box)
      (λ _. propagate-row-non_empty r.coefs r.rhs p)
      (λ _ t. propagate-row-non_empty (negated r).coefs (negated r).rhs (propagate-row-non_empty r.coefs r.rhs p t))

  pub kinded-unchanged : T (not (is_infeasible (propagate_row_of n r B).outcome)) → T (not (is_changed (propagate_row_of n r B).outcome))
      → (propagate_row_of n r B).box ≡ B
  kinded-unchanged = kinded-feasible-ind n r B (λ v. T (not (is_changed v.outcome)) → v.box ≡ B)
      (λ _ t. propagate-row-unchanged r.coefs r.rhs p t)
      (λ _ t u. both t u)
    where
      both : T (not (is_infeasible (first n r B).outcome)) → T (not (is_infeasible (second n r B).outcome))
          → T (not (is_changed (cond (is_changed (first n r B).outcome || is_changed (second n r B).outcome) changed unchanged)))
          → (second n r B).box ≡ B
      both t u w =
          let c = joined_same (is_changed (first n r B).outcome) (is_changed (second n r B).outcome) w in
          let e = propagate-row-unchanged r.coefs r.rhs p t c.0 in
          propagate-row-unchanged (negated r).coefs (negated r).rhs (propagate-row-non_empty r.coefs r.rhs p t) u c.1 ∙ e

  -- where the whole leaves the box, so does each form
  forms-same : T (not (is_infeasible (first n r B).outcome)) → T (not (is_infeasible (second n r B).outcome))
      → (second n r B).box ≡ B → (first n r B).box ≡ B
  forms-same t u e = inside-antisymm (propagate-row-non_empty r.coefs r.rhs p t) p (propagate-row-shrinks n r.coefs r.rhs B t)
      (subst (λ (P : List ℤ). Inside n P (first n r B).box) e
      (propagate-row-shrinks n (negated r).coefs (negated r).rhs (first n r B).box u))

  pub kinded-changed : T (is_changed (propagate_row_of n r B).outcome) → (propagate_row_of n r B).box ≢ B
  kinded-changed c = kinded-feasible-ind n r B (λ v. T (is_changed v.outcome) → v.box ≢ B)
      (λ _ _. propagate-row-changed r.coefs r.rhs p)
      (λ _ t u w e. let f = forms-same t u e in
      ⊎_elim (λ q. propagate-row-changed r.coefs r.rhs p q f)
      (λ q. propagate-row-changed (negated r).coefs (negated r).rhs (propagate-row-non_empty r.coefs r.rhs p t) q (e ∙ sym f))
      (or_cases (is_changed (first n r B).outcome) (is_changed (second n r B).outcome)
      (joined-changed (is_changed (first n r B).outcome || is_changed (second n r B).outcome) w)))
      (changed-feasible (propagate_row_of n r B).outcome c) c

  -- so a change makes the box less wide
  pub kinded-width : T (is_changed (propagate_row_of n r B).outcome) → width n (propagate_row_of n r B).box <ℤ width n B
  kinded-width t = cases (lt-or-ge (width n N) (width n B))
    where
      N : List ℤ
      N = (propagate_row_of n r B).box

      f : T (not (is_infeasible (propagate_row_of n r B).outcome))
      f = changed-feasible (propagate_row_of n r B).outcome t

      cases : (width n N <ℤ width n B) ⊎ (width n B ≤ℤ width n N) → width n N <ℤ width n B
      cases (inl h) = h
      cases (inr h) = absurd (kinded-changed t (width_same (kinded-shrinks n r B f) (kinded-non_empty f).len p.len h))

abbrev the-record : Outcome → ℕ → List ℤ → PropagatedRow
the-record o k P = record { outcome = o; moved = k; box = P }

is_unchanged : (o : Outcome) → T (not (is_infeasible o)) → T (not (is_changed o)) → o ≡ unchanged
unfolding is_infeasible is_changed
is_unchanged infeasible f c = absurd f
is_unchanged changed f c = absurd c
is_unchanged unchanged f c = refl

-- ---- boxes that a row leaves as they are: then each of its forms does

module _ (r : Row) {n : ℕ} {Q : List ℤ} (h : 0 < n) (p : NonEmpty n Q) where
  not-empty : {P : List ℤ} → P ≡ empty_box n → P ≡ Q → ⊥
  not-empty {P} e f = not-in-empty n Q h p (subst (Inside n Q) (sym f ∙ e) (inside-refl n Q))

  pub kinded-fixed : (propagate_row_of n r Q).box ≡ Q
      → ((propagate_form n r Q).box ≡ Q) × (T (is_equality r) → (propagate_form n (negated r) Q).box ≡ Q)
  kinded-fixed = kinded-ind n r Q (λ v. v.box ≡ Q → ((propagate_form n r Q).box ≡ Q) × (T (is_equality r) → (propagate_form n (negated r) Q).box ≡ Q))
      (λ f e. (e, λ t. absurd (T_not (is_equality r) f t)))
      (λ _ t e. absurd (not-empty (propagate-row-infeasible-box n r.coefs r.rhs Q t) e))
      (λ _ _ u e. absurd (not-empty (propagate-row-infeasible-box n (negated r).coefs (negated r).rhs (first n r Q).box u) e))
      (λ _ t u e. let f = forms-same r p t u e in (f, λ _. rw f at e))

  pub forms-fixed : (propagate_form n r Q).box ≡ Q → (T (is_equality r) → (propagate_form n (negated r) Q).box ≡ Q) → (propagate_row_of n r Q).box ≡ Q
  forms-fixed e f = kinded-ind n r Q (λ v. v.box ≡ Q) (λ _. e) (λ _ _. e) (λ q _ _. rw e (f q)) (λ q _ _. rw e (f q))

  -- and the answer is Same
  pub kinded-stays : (propagate_row_of n r Q).box ≡ Q → propagate_row_of n r Q ≡ record { outcome = unchanged; moved = 0; box = Q }
  kinded-stays e = same (propagate_row_of n r Q).outcome (propagate_row_of n r Q).moved (propagate_row_of n r Q).box
      (is_unchanged (propagate_row_of n r Q).outcome feasible (not_T (is_changed (propagate_row_of n r Q).outcome) (λ t. kinded-changed r p t e)))
      (kinded-moved n r Q feasible ∙ rw e (moved_same n Q)) e
    where
      feasible : T (not (is_infeasible (propagate_row_of n r Q).outcome))
      feasible = not_T (is_infeasible (propagate_row_of n r Q).outcome) (λ t. not-empty (kinded-infeasible-box n r Q t) e)

      same : (o : Outcome) (k : ℕ) (P : List ℤ) → o ≡ unchanged → k ≡ 0 → P ≡ Q → the-record o k P ≡ the-record unchanged 0 Q
      same o k P f z q = rw (f, z, q)

-- monotone: one that lies in B lies in the propagated B too
module _ (r : Row) {n : ℕ} {Q B : List ℤ} (h : 0 < n) (p : NonEmpty n Q) (e : (propagate_row_of n r Q).box ≡ Q) (i : Inside n Q B) where
  pub kinded-monotone : Inside n Q (propagate_row_of n r B).box
  kinded-monotone = kinded-ind n r B (λ v. Inside n Q v.box) (λ _. one) (λ _ _. one) (λ q _ _. two q) (λ q _ _. two q)
    where
      one : Inside n Q (first n r B).box
      one = propagate-row-monotone r.coefs r.rhs h p (kinded-fixed r h p e).0 i

      two : T (is_equality r) → Inside n Q (second n r B).box
      two q = propagate-row-monotone (negated r).coefs (negated r).rhs h p ((kinded-fixed r h p e).1 q) one

  pub kinded-monotone-feasible : T (not (is_infeasible (propagate_row_of n r B).outcome))
  kinded-monotone-feasible = not_T (is_infeasible (propagate_row_of n r B).outcome)
      (λ t. not-in-empty n Q h p (subst (Inside n Q) (kinded-infeasible-box n r B t) kinded-monotone))

-- ---- points

pub kinded-point : {n : ℕ} (r : Row) {x : List ℤ} → 0 < n → Meets n r x → (propagate_row_of n r (box_at n x)).box ≡ box_at n x
kinded-point {n} r {x} h m = kinded-ind n r (box_at n x) (λ v. v.box ≡ box_at n x) (λ _. one) (λ _ _. one) (λ q _ _. two q) (λ q _ _. two q)
  where
    one : (first n r (box_at n x)).box ≡ box_at n x
    one = propagate-row-point h (meets-le m)

    two : T (is_equality r) → (second n r (box_at n x)).box ≡ box_at n x
    two q = rw one (propagate-row-point h (meets-negated q m))

pub kinded-point-outcome : {n : ℕ} (r : Row) {x : List ℤ} → 0 < n → Meets n r x → (propagate_row_of n r (box_at n x)).outcome ≡ unchanged
kinded-point-outcome {n} r {x} h m = ap (λ (v : PropagatedRow). v.outcome) (kinded-stays r h (non_empty-at n x) (kinded-point r h m))

pub kinded-keeps-points : {n : ℕ} (r : Row) {B x : List ℤ} → InBox n B x → Meets n r x → InBox n (propagate_row_of n r B).box x
kinded-keeps-points {n} r {B} {x} i m = kinded-ind n r B (λ v. InBox n v.box x) (λ _. one) (λ _ _. one) (λ q _ _. two q) (λ q _ _. two q)
  where
    one : InBox n (first n r B).box x
    one = propagate-row-keeps-points i (meets-le m)

    two : T (is_equality r) → InBox n (second n r B).box x
    two q = propagate-row-keeps-points one (meets-negated q m)

-- infeasible: there is no integer point. Of fractional points it says nothing where the row is an = row: 2x = 5 with x 0..5 is
-- infeasible, for its ≤ form rounds x to 0..2, while x = 5/2 is a fractional point of it (`half-lost`).
pub kinded-infeasible : {n : ℕ} (r : Row) {B x : List ℤ} → 0 < n → T (is_infeasible (propagate_row_of n r B).outcome) → InBox n B x → Meets n r x → ⊥
kinded-infeasible {n} r {B} {x} h t i m =
    let k = in→Inside (kinded-keeps-points r i m) in
    not-in-empty n (box_at n x) h (non_empty-at n x) (subst (Inside n (box_at n x)) (kinded-infeasible-box n r B t) k)

-- of a ≤ row there is no fractional one either
pub kinded-infeasible-over : {n : ℕ} (r : Row) {B x : List ℤ} {d : ℕ} → 0 < n → 0 < d → T (not (is_equality r))
    → T (is_infeasible (propagate_row_of n r B).outcome) → InBoxOver n B x d → MeetsOver n r x d → ⊥
kinded-infeasible-over {n} r {B} {x} {d} h g q = kinded-ind n r B (λ v. T (is_infeasible v.outcome) → InBoxOver n B x d → MeetsOver n r x d → ⊥)
    (λ _ t i m. propagate-row-infeasible h g t i (meets-over-le m))
    (λ t. absurd (T_not (is_equality r) q t)) (λ t. absurd (T_not (is_equality r) q t)) (λ t. absurd (T_not (is_equality r) q t))

-- no fractional point is added
pub kinded-adds-none : {n : ℕ} (r : Row) (B : List ℤ) {x : List ℤ} {d : ℕ} → 0 < n → 0 < d
    → InBoxOver n (propagate_row_of n r B).box x d → InBoxOver n B x d
kinded-adds-none {n} r B {x} {d} h g i = ⊎_elim
    (λ t. absurd (empty-no-point h g (kinded-infeasible-box n r B t) i))
    (λ t. let k = kinded-shrinks n r B t in record {
      low = λ j l. ≤ℤ-trans (mul_mono (pos d) (omega zarith) (k.low j l)) (i.low j l);
      high = λ j l. ≤ℤ-trans (i.high j l) (mul_mono (pos d) (omega zarith) (k.high j l));
    })
    (decide (is_infeasible (propagate_row_of n r B).outcome))
