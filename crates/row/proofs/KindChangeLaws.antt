-- Laws of tightening and removing a row that has a kind: the new row may take the old one's place over the box, within the limits.
use Prim.Native.Nat.{◌<◌, ℕ}
use lib.Dec.{T, T_not, eqb}
use lib.IntN.{◌*ℤ◌, pos, ℤ}
use lib.ListN.{length}
use lib.Signed.{◌≤ℤ◌}
use mathlib.Core.Bool.{◌&&◌, ◌||◌, cond, false, not, true}
use mathlib.Core.List.{List}
use mathlib.Core.Logic.{◌↔◌, ◌≢◌}
use mathlib.Core.Path.{◌≡◌, ap, refl, sym}
use native.Mathlib.Omega.{arith}
use Rattle.integer.specs.Order.{eq_z}
use Rattle.integer.proofs.Parts.{zarith}
use Rattle.integer.proofs.Tests.{T→false, T→true, and_l, and_r, cond_ind, eq_z→eq}
use Rattle.model.specs.Box.{at, is_empty, is_free}
use Rattle.model.specs.Point.{InBox, InBoxOver, Meets, MeetsOver}
use Rattle.model.specs.Rows.{Row, is_equality}
use Rattle.row.specs.Activity.{max_activity, min_activity}
use Rattle.row.specs.KindChanges.{ChangedRow, remove_row_of, tighten_row_of}
use Rattle.row.specs.Outcome.{changed, infeasible, is_changed, is_infeasible, unchanged}
use Rattle.row.specs.Redundancy.{remove_redundant_row, zero_row}
use Rattle.row.specs.Tightening.{tighten_coefficient}
use Rattle.row.specs.ValidRow.{ValidRow}
use Rattle.row.proofs.ActivityLaws.{dot-le-max_activity, dot-over-le-max_activity, min_activity-le-dot, min_activity-le-dot-over}
use Rattle.row.proofs.KindLaws.{other-kind}
use Rattle.row.proofs.RedundancyLaws.{dot-zero_row, length-zero_row, remove-redundant-row-changed, remove-redundant-row-infeasible, remove-redundant-row-replaces, remove-redundant-row-unchanged, remove-redundant-row-valid, valid-zero_row}
use Rattle.row.proofs.Replacement.{Replaces}
use Rattle.row.proofs.TighteningLaws.{tighten-coefficient-changed, tighten-coefficient-infeasible, tighten-coefficient-length, tighten-coefficient-other, tighten-coefficient-replaces, tighten-coefficient-unchanged, tighten-coefficient-valid}

-- ---- a row that may take the place of another over the box, by their kinds: the same integer points, and no fractional point more

pub record ReplacesRow (n : ℕ) (r q : Row) (B : List ℤ) : Type 0 where
  pub len : length q.coefs ≡ n
  pub points : {x : List ℤ} → InBox n B x → Meets n q x ↔ Meets n r x
  pub over : {x : List ℤ} {d : ℕ} → InBoxOver n B x d → MeetsOver n q x d → MeetsOver n r x d

replaces-row-refl : (n : ℕ) (r : Row) (B : List ℤ) → length r.coefs ≡ n → ReplacesRow n r r B
replaces-row-refl n r B l = record { len = l; points = λ _. ((λ h. h), (λ h. h)); over = λ _ h. h }

-- of two ≤ rows
replaces-row-le : {n : ℕ} (r q : Row) {B : List ℤ} → T (not (is_equality r)) → T (not (is_equality q))
    → Replaces n r.coefs r.rhs q.coefs q.rhs B → ReplacesRow n r q B
replaces-row-le {n} r q f g w = record {
  len = w.len;
  points = λ {x} i. (
    (λ h. record { le = λ _. ((w.points i).0 (record { le = h.le g })).le; eq = λ t. absurd (T_not (is_equality r) f t) }),
    (λ h. record { le = λ _. ((w.points i).1 (record { le = h.le f })).le; eq = λ t. absurd (T_not (is_equality q) g t) }),
  );
  over = λ {x} {d} i h. record { le = λ _. (w.over i (record { le = h.le g })).le; eq = λ t. absurd (T_not (is_equality r) f t) };
}

-- the test of a kind byte fails
pub le-kind : (kind : ℕ) → (kind ≡ 1 → ⊥) → eqb kind 1 ≡ false
le-kind kind q = T→false (eqb kind 1) (other-kind kind q)

-- ---- tightening

module _ (n : ℕ) (r : Row) (B : List ℤ) (k : ℕ) where
  abbrev tightened_row : Row
  tightened_row = let q = tighten_coefficient n r.coefs r.rhs B k in record { coefs = q.coefs; rhs = q.rhs; kind = r.kind }

  -- the two cases
  pub tighten-kinded-ind : (P : ChangedRow → Type 0)
      → (T (is_equality r) → P (record { outcome = cond (is_empty n B) infeasible unchanged; row = r }))
      → (T (not (is_equality r)) → P (record { outcome = (tighten_coefficient n r.coefs r.rhs B k).outcome; row = tightened_row }))
      → P (tighten_row_of n r B k)
  unfolding tighten_row_of
  tighten-kinded-ind P f g = cond_ind (is_equality r) _ _ P f g

  pub tighten-kinded-empty : is_empty n B ≡ true → tighten_row_of n r B k ≡ record { outcome = infeasible; row = r }
  unfolding tighten_coefficient
  tighten-kinded-empty e = tighten-kinded-ind (λ q. q ≡ record { outcome = infeasible; row = r }) (λ _. rw e) (λ _. rw e)

  pub tighten-kinded-infeasible : is_infeasible (tighten_row_of n r B k).outcome ≡ is_empty n B
  unfolding is_infeasible
  tighten-kinded-infeasible = tighten-kinded-ind (λ q. is_infeasible q.outcome ≡ is_empty n B)
      (λ _. cond_ind (is_empty n B) infeasible unchanged (λ o. is_infeasible o ≡ is_empty n B)
      (λ t. sym (T→true (is_empty n B) t)) (λ t. sym (T→false (is_empty n B) t)))
      (λ _. tighten-coefficient-infeasible n r.coefs r.rhs B k)

  pub tighten-kinded-unchanged : T (not (is_changed (tighten_row_of n r B k).outcome)) → (tighten_row_of n r B k).row ≡ r
  tighten-kinded-unchanged = tighten-kinded-ind (λ q. T (not (is_changed q.outcome)) → q.row ≡ r)
      (λ _ _. refl)
      (λ _ t. let e = tighten-coefficient-unchanged n r.coefs r.rhs B k t in rw (e.0, e.1))

  pub tighten-kinded-changed : k < length r.coefs → T (is_changed (tighten_row_of n r B k).outcome) → (tighten_row_of n r B k).row ≢ r
  unfolding is_changed
  tighten-kinded-changed h = tighten-kinded-ind (λ q. T (is_changed q.outcome) → q.row ≢ r)
      (λ _. cond_ind (is_empty n B) infeasible unchanged (λ o. T (is_changed o) → r ≢ r) (λ _ z. absurd z) (λ _ z. absurd z))
      (λ _ t e. tighten-coefficient-changed n r.coefs r.rhs B k h t (ap (λ (q : Row). q.coefs) e))

  pub tighten-kinded-length : length (tighten_row_of n r B k).row.coefs ≡ length r.coefs
  tighten-kinded-length = tighten-kinded-ind (λ q. length q.row.coefs ≡ length r.coefs)
      (λ _. refl) (λ _. tighten-coefficient-length n r.coefs r.rhs B k)

  pub tighten-kinded-other : (j : ℕ) → j ≢ k → at (tighten_row_of n r B k).row.coefs j ≡ at r.coefs j
  tighten-kinded-other j ne = tighten-kinded-ind (λ q. at q.row.coefs j ≡ at r.coefs j)
      (λ _. refl) (λ _. tighten-coefficient-other n r.coefs r.rhs B k j ne)

  pub tighten-kinded-kind : (tighten_row_of n r B k).row.kind ≡ r.kind
  tighten-kinded-kind = tighten-kinded-ind (λ q. q.row.kind ≡ r.kind) (λ _. refl) (λ _. refl)

  pub tighten-kinded-replaces : k < n → length r.coefs ≡ n → T (is_empty n B || is_free B k) → ReplacesRow n r (tighten_row_of n r B k).row B
  unfolding is_equality
  tighten-kinded-replaces h l f = tighten-kinded-ind (λ q. ReplacesRow n r q.row B)
      (λ _. replaces-row-refl n r B l)
      (λ t. replaces-row-le r tightened_row t t (tighten-coefficient-replaces n r.coefs r.rhs B k h l f))

  pub tighten-kinded-valid : ValidRow n r.coefs r.rhs B → k < n
      → ValidRow n (tighten_row_of n r B k).row.coefs (tighten_row_of n r B k).row.rhs B
  tighten-kinded-valid v h = tighten-kinded-ind (λ q. ValidRow n q.row.coefs q.row.rhs B) (λ _. v) (λ _. tighten-coefficient-valid k v h)

-- ---- removing

module _ (n : ℕ) (r : Row) (B : List ℤ) where
  abbrev removed_row : Row
  removed_row = let q = remove_redundant_row n r.coefs r.rhs B in record { coefs = q.coefs; rhs = q.rhs; kind = r.kind }

  -- 0 ≤ 0
  abbrev zeros : Row
  zeros = record { coefs = zero_row n; rhs = pos 0; kind = 0 }

  pub remove-kinded-ind : (P : ChangedRow → Type 0)
      → (T (is_equality r) → T (is_empty n B) → P (record { outcome = infeasible; row = r }))
      → (T (is_equality r) → T (not (is_empty n B)) → min_activity n r.coefs B ≡ r.rhs → max_activity n r.coefs B ≡ r.rhs
      → P (record { outcome = changed; row = zeros }))
      → (T (is_equality r) → T (not (is_empty n B)) → P (record { outcome = unchanged; row = r }))
      → (T (not (is_equality r)) → P (record { outcome = (remove_redundant_row n r.coefs r.rhs B).outcome; row = removed_row }))
      → P (remove_row_of n r B)
  unfolding remove_row_of
  remove-kinded-ind P f g h k =
      let low = eq_z (min_activity n r.coefs B) r.rhs in let high = eq_z (max_activity n r.coefs B) r.rhs in
      cond_ind (is_equality r) _ _ P
      (λ q. cond_ind (is_empty n B) _ _ P (f q)
      (λ t. cond_ind (low && high) _ _ P
      (λ u. g q t (eq_z→eq (min_activity n r.coefs B) r.rhs (and_l low high u)) (eq_z→eq (max_activity n r.coefs B) r.rhs (and_r low high u)))
      (λ _. h q t)))
      k

  pub remove-kinded-empty : is_empty n B ≡ true → remove_row_of n r B ≡ record { outcome = infeasible; row = r }
  unfolding remove_row_of remove_redundant_row
  remove-kinded-empty e = cond_ind (is_equality r) _ _ (λ q. q ≡ record { outcome = infeasible; row = r }) (λ _. rw e) (λ _. rw e)

  pub remove-kinded-infeasible : is_infeasible (remove_row_of n r B).outcome ≡ is_empty n B
  unfolding is_infeasible
  remove-kinded-infeasible = remove-kinded-ind (λ q. is_infeasible q.outcome ≡ is_empty n B)
      (λ _ t. sym (T→true (is_empty n B) t))
      (λ _ t _ _. sym (T→false (is_empty n B) t))
      (λ _ t. sym (T→false (is_empty n B) t))
      (λ _. remove-redundant-row-infeasible n r.coefs r.rhs B)

  pub remove-kinded-unchanged : T (not (is_changed (remove_row_of n r B).outcome)) → (remove_row_of n r B).row ≡ r
  unfolding is_changed
  remove-kinded-unchanged = remove-kinded-ind (λ q. T (not (is_changed q.outcome)) → q.row ≡ r)
      (λ _ _ _. refl) (λ _ _ _ _ z. absurd z) (λ _ _ _. refl)
      (λ _ t. let e = remove-redundant-row-unchanged n r.coefs r.rhs B t in rw (e.0, e.1))

  pub remove-kinded-changed : T (is_changed (remove_row_of n r B).outcome) → (remove_row_of n r B).row ≢ r
  unfolding is_changed is_equality
  remove-kinded-changed = remove-kinded-ind (λ q. T (is_changed q.outcome) → q.row ≢ r)
      (λ _ _ z. absurd z)
      (λ q _ _ _ _ e. rw (← e) at q)
      (λ _ _ z. absurd z)
      (λ _ t e. remove-redundant-row-changed n r.coefs r.rhs B t (ap (λ (q : Row). q.coefs) e) (ap (λ (q : Row). q.rhs) e))

  -- a kind becomes 0, or stays
  pub remove-kinded-kind : r.kind < 2 → (remove_row_of n r B).row.kind < 2
  remove-kinded-kind h = remove-kinded-ind (λ q. q.row.kind < 2) (λ _ _. h) (λ _ _ _ _. omega arith) (λ _ _. h) (λ _. h)

  pub remove-kinded-replaces : length r.coefs ≡ n → ReplacesRow n r (remove_row_of n r B).row B
  unfolding is_equality
  remove-kinded-replaces l = remove-kinded-ind (λ q. ReplacesRow n r q.row B)
      (λ _ _. replaces-row-refl n r B l)
      (λ q _ low high. record {
        len = length-zero_row n;
        points = λ {x} i. (
          (λ _. record { le = λ t. absurd (T_not (is_equality r) t q); eq = λ _. same (min_activity-le-dot r.coefs i) (dot-le-max_activity r.coefs i) low high }),
          (λ _. record { le = λ _. rw (dot-zero_row n x) (omega zarith); eq = λ t. absurd t }),
        );
        over = λ {x} {d} i _. record {
          le = λ t. absurd (T_not (is_equality r) t q);
          eq = λ _. same (min_activity-le-dot-over r.coefs i) (dot-over-le-max_activity r.coefs i)
              (ap (λ (z : ℤ). z *ℤ pos d) low) (ap (λ (z : ℤ). z *ℤ pos d) high);
        };
      })
      (λ _ _. replaces-row-refl n r B l)
      (λ t. replaces-row-le r removed_row t t (remove-redundant-row-replaces n r.coefs r.rhs B l))
    where
      same : {y z w b : ℤ} → y ≤ℤ z → z ≤ℤ w → y ≡ b → w ≡ b → z ≡ b
      same {y} {z} {w} {b} p q e f = omega zarith

  pub remove-kinded-valid : ValidRow n r.coefs r.rhs B → ValidRow n (remove_row_of n r B).row.coefs (remove_row_of n r B).row.rhs B
  remove-kinded-valid v = remove-kinded-ind (λ q. ValidRow n q.row.coefs q.row.rhs B)
      (λ _ _. v) (λ _ _ _ _. valid-zero_row v) (λ _ _. v) (λ _. remove-redundant-row-valid v)
