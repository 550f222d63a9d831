-- Laws of tightening a coefficient: the new row takes the old one's place over the box, within the limits.
use Prim.Native.Nat.{◌<◌, suc, zero, ℕ}
use lib.Dec.{T}
use lib.IntN.{+ℤ_comm, ◌*ℤ◌, ◌+ℤ◌, ◌-ℤ◌, nat_abs, negsuc, neg_ℤ, neg_ℤ-neg_ℤ, pos, ℤ}
use lib.ListN.{length, length-set, set}
use lib.Seq.{get_or-set_other, get_or-set_same}
use lib.Signed.{◌<ℤ◌, ◌≤ℤ◌, le_z, le_z_yes, lt_z, lt_z_no, lt_z_yes}
use mathlib.Core.Bool.{◌&&◌, ◌||◌, false, not}
use mathlib.Core.List.{List}
use mathlib.Core.Logic.{◌↔◌, ◌≢◌, ◌⊎◌, inl, inr}
use mathlib.Core.Path.{◌∙◌, ◌≡◌, ap, refl, sym}
use native.Mathlib.Decide.{ℕ_discrete}
use native.Mathlib.Omega.{arith}
use Rattle.integer.proofs.IndexLaws.{sum_one}
use Rattle.integer.proofs.Parts.{mul_mono, zarith, zify}
use Rattle.integer.proofs.Tests.{T→false, T→true, and_l, and_r, cond_ind, or_r}
use Rattle.model.specs.Box.{at, is_empty, is_free, lower, upper}
use Rattle.model.specs.Limits.{max_coef, max_rhs, min_coef, min_rhs}
use Rattle.model.specs.Point.{InBox, dot}
use Rattle.model.specs.Valid.{Between}
use Rattle.model.proofs.BoxLaws.{free-lower, free-upper, ≤ℤ-trans}
use Rattle.row.specs.Activity.{max_activity}
use Rattle.row.specs.Outcome.{changed, infeasible, is_changed, is_infeasible, unchanged}
use Rattle.row.specs.Tightening.{NewRow, may_tighten, tighten_at, tighten_coefficient}
use Rattle.row.specs.ValidRow.{ValidRow}
use Rattle.row.proofs.ActivityLaws.{max_activity-gap-dot, max_term-nonpos, max_term-pos}
use Rattle.row.proofs.Replacement.{Replaces, replaces-i, replaces-refl}

abs-pos : {a : ℤ} → pos 0 <ℤ a → pos (nat_abs a) ≡ a
abs-pos {a = pos n} s = refl
abs-pos {a = negsuc n} s = absurd s.lt

abs-nonpos : {a : ℤ} → a ≤ℤ pos 0 → pos (nat_abs a) ≡ neg_ℤ a
abs-nonpos {a = pos zero} s = refl
abs-nonpos {a = pos (suc n)} s = let z : ⊥ = omega zarith in absurd z
abs-nonpos {a = negsuc n} s = refl

-- ---- the cases

module _ (n : ℕ) (A : List ℤ) (b : ℤ) (B : List ℤ) (k : ℕ) where
  pub tighten-coefficient-ind : (P : NewRow → Type 0)
      → (T (is_empty n B) → P (record { outcome = infeasible; coefs = A; rhs = b }))
      → (T (not (is_empty n B)) → P (record { outcome = unchanged; coefs = A; rhs = b }))
      → (T (not (is_empty n B)) → b <ℤ max_activity n A B → (max_activity n A B -ℤ at A k) <ℤ b → pos 0 <ℤ at A k
      → min_rhs ≤ℤ (max_activity n A B -ℤ at A k)
      → P (record { outcome = changed; coefs = set A k (max_activity n A B -ℤ b); rhs = max_activity n A B -ℤ at A k }))
      → (T (not (is_empty n B)) → b <ℤ max_activity n A B → (max_activity n A B +ℤ at A k) <ℤ b → at A k ≤ℤ pos 0
      → P (record { outcome = changed; coefs = set A k (b -ℤ max_activity n A B); rhs = b }))
      → P (tighten_coefficient n A b B k)
  unfolding tighten_coefficient tighten_at
  tighten-coefficient-ind P e same f g =
      let L = max_activity n A B in let a = at A k in let over = lt_z b L in let under = lt_z (L -ℤ pos (nat_abs a)) b in
      let low : T (over && under) → (L -ℤ pos (nat_abs a)) <ℤ b = λ w. lt_z_yes (and_r over under w) in
      cond_ind (is_empty n B) _ _ P e (λ t. cond_ind (over && under) _ _ P
      (λ w. cond_ind (lt_z (pos 0) a) _ _ P
      (λ s. cond_ind (le_z min_rhs (L -ℤ a)) _ _ P
      (λ m. f t (lt_z_yes (and_l over under w)) (rw (abs-pos {a = a} (lt_z_yes s)) at (low w)) (lt_z_yes s) (le_z_yes m))
      (λ _. same t))
      (λ s. g t (lt_z_yes (and_l over under w)) (rw (abs-nonpos {a = a} (lt_z_no s), neg_ℤ-neg_ℤ) at (low w)) (lt_z_no s)))
      (λ _. same t))

  -- infeasible exactly on the empty box
  pub tighten-coefficient-infeasible : is_infeasible (tighten_coefficient n A b B k).outcome ≡ is_empty n B
  unfolding is_infeasible
  tighten-coefficient-infeasible = tighten-coefficient-ind (λ r. is_infeasible r.outcome ≡ is_empty n B)
      (λ t. sym (T→true (is_empty n B) t)) (λ t. sym (T→false (is_empty n B) t))
      (λ t _ _ _ _. sym (T→false (is_empty n B) t)) (λ t _ _ _. sym (T→false (is_empty n B) t))

  pub tighten-coefficient-unchanged : T (not (is_changed (tighten_coefficient n A b B k).outcome))
      → ((tighten_coefficient n A b B k).coefs ≡ A) × ((tighten_coefficient n A b B k).rhs ≡ b)
  unfolding is_changed
  tighten-coefficient-unchanged = tighten-coefficient-ind (λ r. T (not (is_changed r.outcome)) → (r.coefs ≡ A) × (r.rhs ≡ b))
      (λ _ _. (refl, refl)) (λ _ _. (refl, refl)) (λ _ _ _ _ _ z. absurd z) (λ _ _ _ _ z. absurd z)

  pub tighten-coefficient-changed : k < length A → T (is_changed (tighten_coefficient n A b B k).outcome) → (tighten_coefficient n A b B k).coefs ≢ A
  unfolding is_changed
  tighten-coefficient-changed h = tighten-coefficient-ind (λ r. T (is_changed r.outcome) → r.coefs ≢ A)
      (λ _ z. absurd z) (λ _ z. absurd z)
      (λ _ _ u _ _ _ e. let q = moved (max_activity n A B -ℤ b) e in absurd (let z : ⊥ = omega (zarith, simp zify at u, simp zify at q) in z))
      (λ _ _ u _ _ e. let q = moved (b -ℤ max_activity n A B) e in absurd (let z : ⊥ = omega (zarith, simp zify at u, simp zify at q) in z))
    where
      moved : (a : ℤ) → set A k a ≡ A → a ≡ at A k
      moved a e = sym (get_or-set_same A k a (pos 0) h) ∙ ap (λ (c : List ℤ). at c k) e

  -- a coefficient that fails the rule's test stays as it is
  pub tighten-fails : may_tighten (at A k) (max_activity n A B) b ≡ false → T (not (is_changed (tighten_coefficient n A b B k).outcome))
  unfolding tighten_coefficient tighten_at is_changed
  tighten-fails h = cond_ind (is_empty n B) _ _ (λ (r : NewRow). T (not (is_changed r.outcome))) (λ _. tt) (λ _. rw h tt)

  -- a redundant row stays as it is
  pub tighten-coefficient-redundant : max_activity n A B ≤ℤ b → T (not (is_changed (tighten_coefficient n A b B k).outcome))
  unfolding is_changed
  tighten-coefficient-redundant h = tighten-coefficient-ind (λ r. T (not (is_changed r.outcome)))
      (λ _. tt) (λ _. tt) (λ _ o _ _ _. absurd (let z : ⊥ = omega zarith in z)) (λ _ o _ _. absurd (let z : ⊥ = omega zarith in z))

  pub tighten-coefficient-length : length (tighten_coefficient n A b B k).coefs ≡ length A
  tighten-coefficient-length = tighten-coefficient-ind (λ r. length r.coefs ≡ length A)
      (λ _. refl) (λ _. refl) (λ _ _ _ _ _. length-set A k _) (λ _ _ _ _. length-set A k _)

-- ---- the limits

at_set : (P : ℤ → Type 0) (A : List ℤ) (k : ℕ) (a : ℤ) → k < length A → P a → ((i : ℕ) → P (at A i)) → (i : ℕ) → P (at (set A k a) i)
at_set P A k a h p f i = cases (ℕ_discrete i k)
  where
    cases : Dec (i ≡ k) → P (at (set A k a) i)
    cases (yes e) = rw (e, get_or-set_same A k a (pos 0) h) p
    cases (no e) = rw (get_or-set_other A k i a (pos 0) e) (f i)

pub tighten-coefficient-valid : {n : ℕ} {A : List ℤ} {b : ℤ} {B : List ℤ} (k : ℕ) → ValidRow n A b B → k < n
    → ValidRow n (tighten_coefficient n A b B k).coefs (tighten_coefficient n A b B k).rhs B
tighten-coefficient-valid {n} {A} {b} {B} k v h = tighten-coefficient-ind n A b B k (λ r. ValidRow n r.coefs r.rhs B)
    (λ _. v) (λ _. v)
    (λ _ o u s m. let r = v.coefs.range k in valid (max_activity n A B -ℤ b) (max_activity n A B -ℤ at A k)
    (record { above = simp zify (omega zarith); below = simp zify (omega (zarith, simp zify at u)) })
    (record { above = m; below = let u' : (max_activity n A B -ℤ at A k) ≤ℤ b = omega zarith in ≤ℤ-trans u' v.rhs.below }))
    (λ _ o u s. let r = v.coefs.range k in valid (b -ℤ max_activity n A B) b
    (record { above = simp zify (omega (zarith, simp zify at u)); below = simp zify (omega zarith) })
    v.rhs)
  where
    valid : (a c : ℤ) → Between min_coef max_coef a → Between min_rhs max_rhs c → ValidRow n (set A k a) c B
    valid a c p q = record {
      coefs = record {
        some = v.coefs.some;
        few = v.coefs.few;
        len = length-set A k a ∙ v.coefs.len;
        range = at_set (Between min_coef max_coef) A k a (omega (arith, v.coefs.len)) p v.coefs.range;
        box = v.coefs.box;
      };
      rhs = q;
    }

-- ---- the points of the box

dot-set : (n : ℕ) (A x : List ℤ) (k : ℕ) (a : ℤ) → k < n → length A ≡ n → dot n (set A k a) x +ℤ at A k *ℤ at x k ≡ dot n A x +ℤ a *ℤ at x k
unfolding dot
dot-set n A x k a h l =
    let s = get_or-set_same A k a (pos 0) (omega arith) in
    let e = sum_one n (λ j. at (set A k a) j *ℤ at x j) (λ j. at A j *ℤ at x j) k h (λ j _ ne. rw (get_or-set_other A k j a (pos 0) ne)) in
    +ℤ_comm (dot n (set A k a) x) (at A k *ℤ at x k) ∙ (rw s at e) ∙ +ℤ_comm (a *ℤ at x k) (dot n A x)

zero-or-one : (x : ℤ) → pos 0 ≤ℤ x → x ≤ℤ pos 1 → (x ≡ pos 0) ⊎ (x ≡ pos 1)
zero-or-one (pos zero) a b = inl refl
zero-or-one (pos (suc x)) a b = inr (omega zarith)
zero-or-one (negsuc x) a b = absurd a.le

-- D is the row's left side at a point, D' the new row's, a the coefficient of k, L the maximum activity, x the point's value at k
module _ (a D D' L b x : ℤ) where
  points-pos : (L -ℤ a) <ℤ b → (a *ℤ pos 1 +ℤ D) ≤ℤ (a *ℤ x +ℤ L) → D' +ℤ a *ℤ x ≡ D +ℤ (L -ℤ b) *ℤ x → (x ≡ pos 0) ⊎ (x ≡ pos 1)
      → (D' ≤ℤ (L -ℤ a)) ↔ (D ≤ℤ b)
  points-pos u g e (inl z) =
      let g' = simp zify at (rw z at g) in let e' = simp zify at (rw z at e) in let u' = simp zify at u in simp zify (omega zarith)
  points-pos u g e (inr z) =
      let g' = simp zify at (rw z at g) in let e' = simp zify at (rw z at e) in let u' = simp zify at u in simp zify (omega zarith)

  points-neg : (L +ℤ a) <ℤ b → (a *ℤ pos 0 +ℤ D) ≤ℤ (a *ℤ x +ℤ L) → D' +ℤ a *ℤ x ≡ D +ℤ (b -ℤ L) *ℤ x → (x ≡ pos 0) ⊎ (x ≡ pos 1)
      → (D' ≤ℤ b) ↔ (D ≤ℤ b)
  points-neg u g e (inl z) =
      let g' = simp zify at (rw z at g) in let e' = simp zify at (rw z at e) in let u' = simp zify at u in simp zify (omega zarith)
  points-neg u g e (inr z) =
      let g' = simp zify at (rw z at g) in let e' = simp zify at (rw z at e) in let u' = simp zify at u in simp zify (omega zarith)

  over-pos : (d : ℤ) → (L -ℤ a) <ℤ b → x ≤ℤ (pos 1 *ℤ d) → D' +ℤ a *ℤ x ≡ D +ℤ (L -ℤ b) *ℤ x → D' ≤ℤ ((L -ℤ a) *ℤ d) → D ≤ℤ (b *ℤ d)
  over-pos d u h e q =
      let c : pos 0 ≤ℤ (b -ℤ (L -ℤ a)) = (let u' = simp zify at u in simp zify (omega zarith)) in
      let h' = simp zify at h in let k : x ≤ℤ d = omega zarith in
      let m = simp zify at (mul_mono (b -ℤ (L -ℤ a)) c k) in
      let e' = simp zify at e in let q' = simp zify at q in
      simp zify (omega zarith)

  over-neg : (d : ℤ) → (L +ℤ a) <ℤ b → (pos 0 *ℤ d) ≤ℤ x → D' +ℤ a *ℤ x ≡ D +ℤ (b -ℤ L) *ℤ x → D' ≤ℤ (b *ℤ d) → D ≤ℤ (b *ℤ d)
  over-neg d u h e q =
      let c : pos 0 ≤ℤ (b -ℤ (L +ℤ a)) = (let u' = simp zify at u in simp zify (omega zarith)) in
      let h' = simp zify at h in let k : pos 0 ≤ℤ x = omega zarith in
      let m = simp zify at (mul_mono (b -ℤ (L +ℤ a)) c k) in
      let e' = simp zify at e in let q' = simp zify at q in
      simp zify (omega zarith)

pub tighten-coefficient-replaces : (n : ℕ) (A : List ℤ) (b : ℤ) (B : List ℤ) (k : ℕ) → k < n → length A ≡ n → T (is_empty n B || is_free B k)
    → Replaces n A b (tighten_coefficient n A b B k).coefs (tighten_coefficient n A b B k).rhs B
tighten-coefficient-replaces n A b B k h l f = tighten-coefficient-ind n A b B k (λ r. Replaces n A b r.coefs r.rhs B)
    (λ _. replaces-refl n A b B l) (λ _. replaces-refl n A b B l)
    (λ t _ u s _. replaces-i n A b (set A k (L -ℤ b)) (L -ℤ at A k) B (length-set A k (L -ℤ b) ∙ l)
    (λ x i. points-pos (at A k) (dot n A x) _ L b (at x k) u
    (rw (max_term-pos (at A k) (lower B k) (upper B k) s, free-upper B k (free t)) at (max_activity-gap-dot A i k h)) (dot-set n A x k (L -ℤ b) h l) (value t i))
    (λ x d i. over-pos (at A k) (dot n A x) _ L b (at x k) (pos d) u (rw (free-upper B k (free t)) at (i.high k h)) (dot-set n A x k (L -ℤ b) h l)))
    (λ t _ u s. replaces-i n A b (set A k (b -ℤ L)) b B (length-set A k (b -ℤ L) ∙ l)
    (λ x i. points-neg (at A k) (dot n A x) _ L b (at x k) u
    (rw (max_term-nonpos (at A k) (lower B k) (upper B k) s, free-lower B k (free t)) at (max_activity-gap-dot A i k h)) (dot-set n A x k (b -ℤ L) h l) (value t i))
    (λ x d i. over-neg (at A k) (dot n A x) _ L b (at x k) (pos d) u (rw (free-lower B k (free t)) at (i.low k h)) (dot-set n A x k (b -ℤ L) h l)))
  where
    L : ℤ
    L = max_activity n A B

    free : T (not (is_empty n B)) → T (is_free B k)
    free t = or_r (is_empty n B) (is_free B k) f t

    value : {x : List ℤ} → T (not (is_empty n B)) → InBox n B x → (at x k ≡ pos 0) ⊎ (at x k ≡ pos 1)
    value {x} t i =
        let p = free-lower B k (free t) in let q = free-upper B k (free t) in let u = i.low k h in let v = i.high k h in
        zero-or-one (at x k) (omega zarith) (omega zarith)

-- ---- the other coefficients stay

pub tighten-coefficient-other : (n : ℕ) (A : List ℤ) (b : ℤ) (B : List ℤ) (k j : ℕ) → j ≢ k → at (tighten_coefficient n A b B k).coefs j ≡ at A j
tighten-coefficient-other n A b B k j ne = tighten-coefficient-ind n A b B k (λ r. at r.coefs j ≡ at A j)
    (λ _. refl) (λ _. refl) (λ _ _ _ _ _. get_or-set_other A k j _ (pos 0) ne) (λ _ _ _ _. get_or-set_other A k j _ (pos 0) ne)
