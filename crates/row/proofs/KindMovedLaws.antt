-- Laws of the number of bounds that a row of either kind moved: an = row moves those of its two forms, at most n each.
use Prim.Native.Nat.{◌*◌, ◌+◌, ◌≤◌, ℕ}
use lib.Dec.{T}
use lib.IntN.{◌+ℤ◌, pos, ℤ}
use lib.Signed.{◌≤ℤ◌}
use mathlib.Core.Bool.{cond, not}
use mathlib.Core.List.{List}
use mathlib.Core.Path.{◌∙◌, ◌≡◌, sym}
use native.Mathlib.Decide.{ℕ_discrete}
use native.Mathlib.Omega.{arith}
use Rattle.integer.proofs.Tests.{T→false, T→true}
use Rattle.model.specs.Box.{NonEmpty, width}
use Rattle.model.specs.Rows.{Row, is_equality, negated}
use Rattle.model.proofs.BoxLaws.{box-ext}
use Rattle.row.specs.Kinds.{propagate_form, propagate_row_of}
use Rattle.row.specs.Moved.{moved_bounds}
use Rattle.row.specs.Outcome.{is_changed, is_infeasible}
use Rattle.row.proofs.KindLaws.{kinded-changed, kinded-ind, kinded-moved, kinded-non_empty, kinded-shrinks, kinded-unchanged}
use Rattle.row.proofs.MovedLaws.{moved-le, moved_none, moved-once, moved_same, moved-width}
use Rattle.row.proofs.NegatedRow.{lower-once, upper-once}
use Rattle.row.proofs.PropagationLaws.{changed-feasible, propagate-row-infeasible-moved, propagate-row-moved-le}

-- the bounds that an = row moved are those of its forms
pub equality-moves : (n : ℕ) (r : Row) (B : List ℤ)
    → T (not (is_infeasible (propagate_form n r B).outcome)) → T (not (is_infeasible (propagate_form n (negated r) (propagate_form n r B).box).outcome))
    → moved_bounds n B (propagate_form n (negated r) (propagate_form n r B).box).box
    ≡ moved_bounds n B (propagate_form n r B).box
    + moved_bounds n (propagate_form n r B).box (propagate_form n (negated r) (propagate_form n r B).box).box
equality-moves n r B f g =
    moved-once n B (propagate_form n r B).box _ (λ j k. lower-once n r B j k f g) (λ j k. upper-once n r B j k f g)

-- at most n of a ≤ row, "up to 2n bounds moved" of an = row
pub kinded-moved-le : (n : ℕ) (r : Row) (B : List ℤ) → (propagate_row_of n r B).moved ≤ cond (is_equality r) (2 * n) n
kinded-moved-le n r B = kinded-ind n r B (λ v. v.moved ≤ cond (is_equality r) (2 * n) n)
    (λ q. rw (T→false (is_equality r) q) (propagate-row-moved-le n r.coefs r.rhs B))
    (λ q t. rw (T→true (is_equality r) q, propagate-row-infeasible-moved n r.coefs r.rhs B t) (omega arith))
    (λ q _ t. rw (T→true (is_equality r) q, propagate-row-infeasible-moved n (negated r).coefs (negated r).rhs (propagate_form n r B).box t) (omega arith))
    (λ q _ _. rw (T→true (is_equality r) q) (moved-le n B _))

-- and no more than the width that the box lost
pub kinded-moved-width : (n : ℕ) (r : Row) (B : List ℤ) → T (not (is_infeasible (propagate_row_of n r B).outcome))
    → (pos (propagate_row_of n r B).moved +ℤ width n (propagate_row_of n r B).box) ≤ℤ width n B
kinded-moved-width n r B f = rw (kinded-moved n r B f) (moved-width n (kinded-shrinks n r B f))

module _ (r : Row) {n : ℕ} {B : List ℤ} (p : NonEmpty n B) where
  pub kinded-moved-none : T (not (is_infeasible (propagate_row_of n r B).outcome)) → (propagate_row_of n r B).moved ≡ 0 → (propagate_row_of n r B).box ≡ B
  kinded-moved-none f e =
      let z = rw (kinded-moved n r B f) at e in
      box-ext n (propagate_row_of n r B).box B (kinded-non_empty r p f).len p.len
      (λ j k. sym (moved_none n B (propagate_row_of n r B).box z j k).0) (λ j k. sym (moved_none n B (propagate_row_of n r B).box z j k).1)

  pub kinded-moved-some : T (is_changed (propagate_row_of n r B).outcome) → 1 ≤ (propagate_row_of n r B).moved
  kinded-moved-some t = go (ℕ_discrete (propagate_row_of n r B).moved 0)
    where
      go : Dec ((propagate_row_of n r B).moved ≡ 0) → 1 ≤ (propagate_row_of n r B).moved
      go (yes e) = absurd (kinded-changed r p t (kinded-moved-none (changed-feasible (propagate_row_of n r B).outcome t) e))
      go (no e) = omega arith

  pub kinded-still-moved : T (not (is_infeasible (propagate_row_of n r B).outcome)) → T (not (is_changed (propagate_row_of n r B).outcome))
      → (propagate_row_of n r B).moved ≡ 0
  kinded-still-moved f t = kinded-moved n r B f ∙ rw (kinded-unchanged r p f t) (moved_same n B)
