-- Laws of removing a redundant row: the zero row takes its place over the box, within the limits.
use Prim.Native.Nat.{suc, zero, ℕ}
use lib.Dec.{T, T_not}
use lib.IntN.{pos, zero-*ℤ, ℤ}
use lib.ListN.{length, length-replicate}
use lib.Signed.{◌<ℤ◌, ◌≤ℤ◌, le_z, le_z_yes, ≤ℤ_refl}
use mathlib.Core.Bool.{◌&&◌, cond, not}
use mathlib.Core.List.{List}
use mathlib.Core.Path.{◌≡◌, refl, sym}
use Rattle.integer.specs.Order.{eq_z}
use Rattle.integer.proofs.IndexLaws.{sum-zero}
use Rattle.integer.proofs.Parts.{le_z-no, mul_mono, zarith}
use Rattle.integer.proofs.Tests.{T→false, T→true, and_i, and_l, and_r, cond_ind, eq_z→eq, eq→eq_z}
use Rattle.model.specs.Box.{at, is_empty, same_list}
use Rattle.model.specs.Point.{dot}
use Rattle.model.proofs.BoxLaws.{same_list-refl, same_list→eq, ≤ℤ-trans}
use Rattle.row.specs.Activity.{max_activity}
use Rattle.row.specs.Outcome.{changed, infeasible, is_changed, is_infeasible, unchanged}
use Rattle.row.specs.Redundancy.{remove_redundant_row, zero_row}
use Rattle.row.specs.Tightening.{NewRow}
use Rattle.row.specs.ValidRow.{ValidRow}
use Rattle.row.proofs.ActivityLaws.{dot-le-max_activity, dot-over-le-max_activity}
use Rattle.row.proofs.Replacement.{Replaces, replaces-i, replaces-refl}

-- ---- the zero row

pub length-zero_row : (n : ℕ) → length (zero_row n) ≡ n
unfolding zero_row
length-zero_row n = length-replicate n (pos 0)

pub at-zero_row : (n j : ℕ) → at (zero_row n) j ≡ pos 0
unfolding zero_row
at-zero_row zero j = refl
at-zero_row (suc n) zero = refl
at-zero_row (suc n) (suc j) = at-zero_row n j

pub dot-zero_row : (n : ℕ) (x : List ℤ) → dot n (zero_row n) x ≡ pos 0
unfolding dot
dot-zero_row n x = sum-zero n _ (λ j k. rw (at-zero_row n j) (zero-*ℤ (at x j)))

-- ---- the cases

module _ (n : ℕ) (A : List ℤ) (b : ℤ) (B : List ℤ) where
  pub remove-redundant-row-ind : (P : NewRow → Type 0)
      → (T (is_empty n B) → P (record { outcome = infeasible; coefs = A; rhs = b }))
      → (T (not (is_empty n B)) → max_activity n A B ≤ℤ b → P (record {
        outcome = cond (eq_z b (pos 0) && same_list A (zero_row n)) unchanged changed;
        coefs = zero_row n;
        rhs = pos 0;
      }))
      → (T (not (is_empty n B)) → b <ℤ max_activity n A B → P (record { outcome = unchanged; coefs = A; rhs = b }))
      → P (remove_redundant_row n A b B)
  unfolding remove_redundant_row
  remove-redundant-row-ind P f g h = cond_ind (is_empty n B) _ _ P f
      (λ t. cond_ind (le_z (max_activity n A B) b) _ _ P (λ l. g t (le_z_yes l)) (λ l. h t (le_z-no l)))

  -- infeasible exactly on the empty box
  pub remove-redundant-row-infeasible : is_infeasible (remove_redundant_row n A b B).outcome ≡ is_empty n B
  unfolding is_infeasible
  remove-redundant-row-infeasible = remove-redundant-row-ind (λ r. is_infeasible r.outcome ≡ is_empty n B)
      (λ t. sym (T→true (is_empty n B) t))
      (λ t _. cond_ind (eq_z b (pos 0) && same_list A (zero_row n)) unchanged changed (λ o. is_infeasible o ≡ is_empty n B)
      (λ _. sym (T→false (is_empty n B) t)) (λ _. sym (T→false (is_empty n B) t)))
      (λ t _. sym (T→false (is_empty n B) t))

  pub remove-redundant-row-unchanged : T (not (is_changed (remove_redundant_row n A b B).outcome))
      → ((remove_redundant_row n A b B).coefs ≡ A) × ((remove_redundant_row n A b B).rhs ≡ b)
  unfolding is_changed
  remove-redundant-row-unchanged = remove-redundant-row-ind (λ r. T (not (is_changed r.outcome)) → (r.coefs ≡ A) × (r.rhs ≡ b))
      (λ _ _. (refl, refl))
      (λ _ _. cond_ind (eq_z b (pos 0) && same_list A (zero_row n)) unchanged changed (λ o. T (not (is_changed o)) → (zero_row n ≡ A) × (pos 0 ≡ b))
      (λ t _. (
        sym (same_list→eq A (zero_row n) (and_r (eq_z b (pos 0)) (same_list A (zero_row n)) t)),
        sym (eq_z→eq b (pos 0) (and_l (eq_z b (pos 0)) (same_list A (zero_row n)) t)),
      ))
      (λ _ z. absurd z))
      (λ _ _ _. (refl, refl))

  pub remove-redundant-row-changed : T (is_changed (remove_redundant_row n A b B).outcome)
      → (remove_redundant_row n A b B).coefs ≡ A → (remove_redundant_row n A b B).rhs ≡ b → ⊥
  unfolding is_changed
  remove-redundant-row-changed = remove-redundant-row-ind (λ r. T (is_changed r.outcome) → r.coefs ≡ A → r.rhs ≡ b → ⊥)
      (λ _ z. absurd z)
      (λ _ _. cond_ind (eq_z b (pos 0) && same_list A (zero_row n)) unchanged changed (λ o. T (is_changed o) → zero_row n ≡ A → pos 0 ≡ b → ⊥)
      (λ _ z. absurd z)
      (λ t _ e q. T_not (eq_z b (pos 0) && same_list A (zero_row n)) t
      (and_i (eq_z b (pos 0)) (same_list A (zero_row n)) (eq→eq_z b (pos 0) (sym q)) (rw e (same_list-refl A)))))
      (λ _ _ z. absurd z)

  pub remove-redundant-row-replaces : length A ≡ n → Replaces n A b (remove_redundant_row n A b B).coefs (remove_redundant_row n A b B).rhs B
  remove-redundant-row-replaces l = remove-redundant-row-ind (λ r. Replaces n A b r.coefs r.rhs B)
      (λ _. replaces-refl n A b B l)
      (λ _ h. replaces-i n A b (zero_row n) (pos 0) B (length-zero_row n)
      (λ x i. ((λ _. ≤ℤ-trans (dot-le-max_activity A i) h), (λ _. rw (dot-zero_row n x) (≤ℤ_refl (pos 0)))))
      (λ x d i _. ≤ℤ-trans (dot-over-le-max_activity A i) (mul_mono (pos d) (omega zarith) h)))
      (λ _ _. replaces-refl n A b B l)

-- ---- the limits

pub valid-zero_row : {n : ℕ} {A : List ℤ} {b : ℤ} {B : List ℤ} → ValidRow n A b B → ValidRow n (zero_row n) (pos 0) B
valid-zero_row {n} v = record {
  coefs = record {
    some = v.coefs.some;
    few = v.coefs.few;
    len = length-zero_row n;
    range = λ j. rw (at-zero_row n j) (record { above = omega zarith; below = omega zarith });
    box = v.coefs.box;
  };
  rhs = record { above = omega zarith; below = omega zarith };
}

pub remove-redundant-row-valid : {n : ℕ} {A : List ℤ} {b : ℤ} {B : List ℤ} → ValidRow n A b B
    → ValidRow n (remove_redundant_row n A b B).coefs (remove_redundant_row n A b B).rhs B
remove-redundant-row-valid {n} {A} {b} {B} v = remove-redundant-row-ind n A b B (λ r. ValidRow n r.coefs r.rhs B)
    (λ _. v) (λ _ _. valid-zero_row v) (λ _ _. v)
