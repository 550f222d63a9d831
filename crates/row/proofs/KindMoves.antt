-- Whether propagating a row of either kind would answer other than Same, by its forms; and what the answers of the two forms come to.
use Prim.Native.Nat.{◌*◌, ◌+◌, ◌≤◌, ℕ}
use lib.Dec.{T, eqb}
use lib.IntN.{neg_ℤ, ℤ}
use lib.ListN.{length}
use mathlib.Core.Bool.{Bool, ◌||◌, cond, false, not, true}
use mathlib.Core.List.{List, [], ◌∷◌}
use mathlib.Core.Logic.{⊎_elim}
use mathlib.Core.Path.{◌∙◌, ◌≡◌, ap, ap₂, refl, subst, sym}
use native.Mathlib.Omega.{arith}
use Rattle.integer.proofs.Tests.{T→true, eqb-test}
use Rattle.model.specs.Rows.{Row, is_equality, negated, negated_coefs, row_with}
use Rattle.row.specs.Answers.{BothForms, both_forms, propagated_row_of}
use Rattle.row.specs.Kinds.{and_then, propagate_form, propagate_row_of, row_moves_of}
use Rattle.row.specs.Moved.{moved_bounds}
use Rattle.row.specs.Outcome.{Outcome, changed, infeasible, is_changed, is_infeasible, is_unchanged, unchanged}
use Rattle.row.specs.Propagation.{PropagatedRow, propagate_row, row_moves}
use Rattle.row.specs.declared.propagation.RowPropagation.{RowPropagation}
use Rattle.row.specs.contracts.propagation.RowPropagation.{the_type}
use types.Run.{OneOf}
use denote.Enum.Declared.{tag_of}
use Rattle.row.specs.declared.propagation.RowPropagation.TheVariants as propagation
use Rattle.row.proofs.KindLaws.{kinded-le, other-kind}
use Rattle.row.proofs.KindMovedLaws.{equality-moves}
use Rattle.row.proofs.PropagationLaws.{propagate-row-moved, propagate-row-moved-le}
use Rattle.row.proofs.ReachLaws.{moves_not}

-- ---- the outcome of two forms

unfoldable then_outcome : Outcome → Outcome → Outcome
then_outcome o p = cond (is_infeasible o) o (cond (is_infeasible p) p (cond (is_changed o || is_changed p) changed unchanged))

then-outcome : (n : ℕ) (B : List ℤ) (u v : PropagatedRow) (o p : Outcome) → u.outcome ≡ o → v.outcome ≡ p → (and_then n B u v).outcome ≡ then_outcome o p
unfolding and_then then_outcome is_infeasible is_changed
then-outcome n B u v infeasible p e f = rw e
then-outcome n B u v changed infeasible e f = rw (e, f)
then-outcome n B u v changed changed e f = rw (e, f)
then-outcome n B u v changed unchanged e f = rw (e, f)
then-outcome n B u v unchanged infeasible e f = rw (e, f)
then-outcome n B u v unchanged changed e f = rw (e, f)
then-outcome n B u v unchanged unchanged e f = rw (e, f)

-- a first form that answers other than Same decides
first-decides : (o p : Outcome) → not (is_unchanged o) ≡ true → not (is_unchanged (then_outcome o p)) ≡ true
unfolding then_outcome is_infeasible is_changed is_unchanged
first-decides infeasible p e = refl
first-decides changed infeasible e = refl
first-decides changed changed e = refl
first-decides changed unchanged e = refl
first-decides unchanged p e = cc

-- after Same the second does
second-decides : (p : Outcome) → is_unchanged (then_outcome unchanged p) ≡ is_unchanged p
unfolding then_outcome is_infeasible is_changed is_unchanged
second-decides infeasible = refl
second-decides changed = refl
second-decides unchanged = refl

module _ (n : ℕ) (r : Row) (B : List ℤ) where
  pub moves-le : T (not (is_equality r)) → row_moves_of n r B ≡ row_moves n r.coefs r.rhs B
  unfolding row_moves_of row_moves
  moves-le t = rw (kinded-le n r B t)

  pub moves-first : row_moves n r.coefs r.rhs B ≡ true → row_moves_of n r B ≡ true
  unfolding row_moves_of row_moves propagate_row_of
  moves-first e = go (is_equality r)
    where
      go : (q : Bool) → not (is_unchanged (cond q (and_then n B (propagate_form n r B) (propagate_form n (negated r) (propagate_form n r B).box)) (propagate_form n r B)).outcome) ≡ true
      go true = ap (λ o. not (is_unchanged o)) (then-outcome n B (propagate_form n r B) _ _ _ refl refl) ∙ first-decides (propagate_form n r B).outcome _ e
      go false = e

  pub moves-second : length B ≡ 2 * n → T (is_equality r) → row_moves n r.coefs r.rhs B ≡ false
      → row_moves_of n r B ≡ row_moves n (negated r).coefs (negated r).rhs B
  unfolding row_moves_of row_moves propagate_row_of
  moves-second len t e =
      let same = moves_not n r.coefs r.rhs B len e in
      rw (T→true (is_equality r) t, same)
      (ap not (ap is_unchanged (then-outcome n B _ (propagate_form n (negated r) B) unchanged _ refl refl) ∙ second-decides (propagate_form n (negated r) B).outcome))

-- ---- the answers of the two forms

-- the first form's is not infeasible: what both come to is the row's, where no bound is moved by both
pub both-propagated : (n : ℕ) (B P Q : List ℤ) (first second : RowPropagation)
    → T (not (is_infeasible (propagated_row_of first P).outcome))
    → (T (not (is_infeasible (propagated_row_of second Q).outcome)) → moved_bounds n B Q ≡ (propagated_row_of first P).moved + (propagated_row_of second Q).moved)
    → propagated_row_of (both_forms first second) Q ≡ and_then n B (propagated_row_of first P) (propagated_row_of second Q)
unfolding and_then both_forms propagated_row_of is_infeasible is_changed
both-propagated n B P Q propagation.Infeasible second f m = absurd f
both-propagated n B P Q (propagation.Tightened k) propagation.Infeasible f m = refl
both-propagated n B P Q (propagation.Tightened k) (propagation.Tightened i) f m = rw (m tt)
both-propagated n B P Q (propagation.Tightened k) propagation.Unchanged f m = let e : moved_bounds n B Q ≡ k = omega (arith, m tt) in rw e
both-propagated n B P Q propagation.Unchanged propagation.Infeasible f m = refl
both-propagated n B P Q propagation.Unchanged (propagation.Tightened i) f m = let e : moved_bounds n B Q ≡ i = omega (arith, m tt) in rw e
both-propagated n B P Q propagation.Unchanged propagation.Unchanged f m = let e : moved_bounds n B Q ≡ 0 = omega (arith, m tt) in rw e

-- where the first form's answer is not Tightened, the second's is the answer
pub both-second : (f s : RowPropagation) → OneOf (0 ∷ 2 ∷ []) (tag_of the_type f) → s ≡ both_forms f s
unfolding both_forms
both-second propagation.Infeasible s h = refl
both-second (propagation.Tightened k) s h =
    ⊎_elim (λ e. let z : ◌≡◌ {A = ℕ} 1 0 = e in absurd (omega arith)) (λ e. let z : ◌≡◌ {A = ℕ} 1 2 = e in absurd (omega arith)) h
both-second propagation.Unchanged s h = refl

-- ---- what a function finds, form by form: f and P of the ≤ form over B, s and Q of the negated form over P

pub left-box : (f : RowPropagation) (P : List ℤ) → (propagated_row_of f P).box ≡ P
unfolding propagated_row_of
left-box propagation.Infeasible P = refl
left-box (propagation.Tightened k) P = refl
left-box propagation.Unchanged P = refl

other-feasible : (f : RowPropagation) (P : List ℤ) → OneOf (1 ∷ 2 ∷ []) (tag_of the_type f) → T (not (is_infeasible (propagated_row_of f P).outcome))
unfolding propagated_row_of is_infeasible
other-feasible propagation.Infeasible P h =
    ⊎_elim (λ e. let z : ◌≡◌ {A = ℕ} 0 1 = e in absurd (omega arith)) (λ e. let z : ◌≡◌ {A = ℕ} 0 2 = e in absurd (omega arith)) h
other-feasible (propagation.Tightened k) P h = tt
other-feasible propagation.Unchanged P h = tt

infeasible-told : (R : List ℤ) → T (is_infeasible (propagated_row_of propagation.Infeasible R).outcome)
unfolding propagated_row_of is_infeasible
infeasible-told R = tt

moved-of : (k : ℕ) (f : RowPropagation) (P : List ℤ) → f ≡ propagation.Tightened k → (propagated_row_of f P).moved ≡ k
unfolding propagated_row_of
moved-of k f P e = rw e

module _ (n : ℕ) (C : List ℤ) (b : ℤ) (B : List ℤ) (f : RowPropagation) (P : List ℤ) (e : propagated_row_of f P ≡ propagate_row n C b B) where
  pub first-box : P ≡ (propagate_row n C b B).box
  first-box = sym (left-box f P) ∙ ap (λ (v : PropagatedRow). v.box) e

  pub le-answer : (kind : ℕ) → (kind ≡ 1 → ⊥) → propagated_row_of f P ≡ propagate_row_of n (row_with C b kind) B
  unfolding is_equality
  le-answer kind q = e ∙ sym (kinded-le n (row_with C b kind) B (other-kind kind q))

  pub none-answer : (kind : ℕ) → kind ≡ 1 → f ≡ propagation.Infeasible → propagated_row_of f P ≡ propagate_row_of n (row_with C b kind) B
  unfolding propagate_row_of and_then is_equality
  none-answer kind q z =
      let i : T (is_infeasible (propagate_row n C b B).outcome) = rw (← e, z) (infeasible-told P) in
      e ∙ rw (T→true (eqb kind 1) ((eqb-test kind 1).1 q), T→true (is_infeasible (propagate_row n C b B).outcome) i)

  module _ (s : RowPropagation) (Q : List ℤ) (g : propagated_row_of s Q ≡ propagate_row n (negated_coefs C) (neg_ℤ b) P) where
    pub both-few : n ≤ 128 → BothForms f s
    both-few h = record {
      few = λ k i u v.
          let a : k ≤ n = rw (← moved-of k f P u, e) (propagate-row-moved-le n C b B) in
          let c : i ≤ n = rw (← moved-of i s Q v, g) (propagate-row-moved-le n (negated_coefs C) (neg_ℤ b) P) in
          omega arith;
    }

    pub both-answer : (kind : ℕ) → kind ≡ 1 → OneOf (1 ∷ 2 ∷ []) (tag_of the_type f)
        → propagated_row_of (both_forms f s) Q ≡ propagate_row_of n (row_with C b kind) B
    unfolding propagate_row_of is_equality negated
    both-answer kind q o =
        let r = row_with C b kind in
        let X = (propagate_row n C b B).box in
        let h : propagated_row_of s Q ≡ propagate_form n (negated r) X = g ∙ ap (λ (Y : List ℤ). propagate_row n (negated_coefs C) (neg_ℤ b) Y) first-box in
        let told = other-feasible f P o in
        let t : T (not (is_infeasible (propagate_form n r B).outcome)) = subst (λ (v : PropagatedRow). T (not (is_infeasible v.outcome))) e told in
        both-propagated n B P Q f s told
        (λ z. let u : T (not (is_infeasible (propagate_form n (negated r) X).outcome)) = subst (λ (v : PropagatedRow). T (not (is_infeasible v.outcome))) h z in
        ap (moved_bounds n B) (sym (left-box s Q) ∙ ap (λ (v : PropagatedRow). v.box) h) ∙ equality-moves n r B t u
        ∙ ap₂ ◌+◌ (sym (ap (λ (v : PropagatedRow). v.moved) e ∙ propagate-row-moved n C b B t))
        (sym (ap (λ (v : PropagatedRow). v.moved) h ∙ propagate-row-moved n (negated_coefs C) (neg_ℤ b) X u)))
        ∙ ap₂ (and_then n B) e h
        ∙ rw (T→true (eqb kind 1) ((eqb-test kind 1).1 q))
