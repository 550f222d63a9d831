-- Laws of the activities of a row over a box: their terms, monotony, the points between them, their range.
use Prim.Native.Nat.{◌*◌, ◌+◌, ◌<◌, ◌≤◌, ℕ}
use lib.IntN.{◌*ℤ◌, ◌+ℤ◌, pos, ℤ}
use lib.Signed.{◌<ℤ◌, ◌≤ℤ◌, lt_z, lt_z_no, lt_z_yes}
use mathlib.Core.List.{List}
use mathlib.Core.Path.{◌∙◌, ◌≡◌, refl, sym}
use native.Mathlib.Omega.{arith}
use Rattle.integer.specs.Range.{Within}
use Rattle.integer.proofs.IndexLaws.{sum-cong, sum-gap, sum_mono, sum-mul, sum-within}
use Rattle.integer.proofs.Parts.{lt-is, lt-isn't, mul-anti-left, mul_assoc, mul-mono-left, zarith}
use Rattle.integer.proofs.RangeLaws.{within!, within-le, within-mul}
use Rattle.integer.proofs.Tests.{cond_ind}
use Rattle.model.specs.Box.{Inside, at, lower, upper}
use Rattle.model.specs.Limits.{max_bound, max_coef, min_bound, min_coef}
use Rattle.model.specs.Point.{InBox, InBoxOver, dot}
use Rattle.model.specs.Valid.{Between}
use Rattle.row.specs.Activity.{max_activity, max_term, min_activity, min_term}
use Rattle.row.specs.ValidRow.{ValidCoefs}
use Rattle.row.proofs.PointBox.{box_at, lower-at, upper-at}

-- ---- one term

module _ (a l u : ℤ) where
  pub min_term-ind : (P : ℤ → Type 0) → (pos 0 <ℤ a → P (a *ℤ l)) → (a ≤ℤ pos 0 → P (a *ℤ u)) → P (min_term a l u)
  unfolding min_term
  min_term-ind P f g = cond_ind (lt_z (pos 0) a) (a *ℤ l) (a *ℤ u) P (λ t. f (lt_z_yes t)) (λ t. g (lt_z_no t))

  pub max_term-ind : (P : ℤ → Type 0) → (pos 0 <ℤ a → P (a *ℤ u)) → (a ≤ℤ pos 0 → P (a *ℤ l)) → P (max_term a l u)
  unfolding max_term
  max_term-ind P f g = cond_ind (lt_z (pos 0) a) (a *ℤ u) (a *ℤ l) P (λ t. f (lt_z_yes t)) (λ t. g (lt_z_no t))

  pub min_term-pos : pos 0 <ℤ a → min_term a l u ≡ a *ℤ l
  unfolding min_term
  min_term-pos s = rw (lt-is s)

  pub min_term-nonpos : a ≤ℤ pos 0 → min_term a l u ≡ a *ℤ u
  unfolding min_term
  min_term-nonpos s = rw (lt-isn't s)

  pub max_term-pos : pos 0 <ℤ a → max_term a l u ≡ a *ℤ u
  unfolding max_term
  max_term-pos s = rw (lt-is s)

  pub max_term-nonpos : a ≤ℤ pos 0 → max_term a l u ≡ a *ℤ l
  unfolding max_term
  max_term-nonpos s = rw (lt-isn't s)

-- over a smaller interval the least is larger and the greatest is smaller
module _ (a : ℤ) {l u l' u' : ℤ} (h : l ≤ℤ l') (k : u' ≤ℤ u) where
  pub min_term-mono : min_term a l u ≤ℤ min_term a l' u'
  min_term-mono = min_term-ind a l u (λ z. z ≤ℤ min_term a l' u')
      (λ s. rw (min_term-pos a l' u' s) (mul-mono-left a (omega zarith) h))
      (λ s. rw (min_term-nonpos a l' u' s) (mul-anti-left a s k))

  pub max_term-anti : max_term a l' u' ≤ℤ max_term a l u
  max_term-anti = max_term-ind a l u (λ z. max_term a l' u' ≤ℤ z)
      (λ s. rw (max_term-pos a l' u' s) (mul-mono-left a (omega zarith) k))
      (λ s. rw (max_term-nonpos a l' u' s) (mul-anti-left a s h))

-- over the interval of one number
pub min_term-at : (a x : ℤ) → min_term a x x ≡ a *ℤ x
min_term-at a x = min_term-ind a x x (λ z. z ≡ a *ℤ x) (λ s. refl) (λ s. refl)

pub max_term-at : (a x : ℤ) → max_term a x x ≡ a *ℤ x
max_term-at a x = max_term-ind a x x (λ z. z ≡ a *ℤ x) (λ s. refl) (λ s. refl)

module _ (a : ℤ) {l u x : ℤ} (h : l ≤ℤ x) (k : x ≤ℤ u) where
  pub min_term-le : min_term a l u ≤ℤ (a *ℤ x)
  min_term-le = rw (← min_term-at a x) (min_term-mono a h k)

  pub le-max_term : (a *ℤ x) ≤ℤ max_term a l u
  le-max_term = rw (← max_term-at a x) (max_term-anti a h k)

-- over the interval times d
pub min_term-mul : (a l u : ℤ) (d : ℕ) → min_term a l u *ℤ pos d ≡ min_term a (l *ℤ pos d) (u *ℤ pos d)
min_term-mul a l u d = min_term-ind a l u (λ z. z *ℤ pos d ≡ min_term a (l *ℤ pos d) (u *ℤ pos d))
    (λ s. mul_assoc a l (pos d) ∙ sym (min_term-pos a _ _ s)) (λ s. mul_assoc a u (pos d) ∙ sym (min_term-nonpos a _ _ s))

pub max_term-mul : (a l u : ℤ) (d : ℕ) → max_term a l u *ℤ pos d ≡ max_term a (l *ℤ pos d) (u *ℤ pos d)
max_term-mul a l u d = max_term-ind a l u (λ z. z *ℤ pos d ≡ max_term a (l *ℤ pos d) (u *ℤ pos d))
    (λ s. mul_assoc a u (pos d) ∙ sym (max_term-pos a _ _ s)) (λ s. mul_assoc a l (pos d) ∙ sym (max_term-nonpos a _ _ s))

-- ---- the activities over a smaller box, with one term apart too

module _ (A : List ℤ) {n : ℕ} {Q B : List ℤ} (i : Inside n Q B) where
  pub min_activity-mono : min_activity n A B ≤ℤ min_activity n A Q
  unfolding min_activity
  min_activity-mono = sum_mono n _ _ (λ j k. min_term-mono (at A j) (i.low j k) (i.high j k))

  pub max_activity-anti : max_activity n A Q ≤ℤ max_activity n A B
  unfolding max_activity
  max_activity-anti = sum_mono n _ _ (λ j k. max_term-anti (at A j) (i.low j k) (i.high j k))

  pub min_activity-gap : (k : ℕ) → k < n
      → (min_term (at A k) (lower Q k) (upper Q k) +ℤ min_activity n A B) ≤ℤ (min_term (at A k) (lower B k) (upper B k) +ℤ min_activity n A Q)
  unfolding min_activity
  min_activity-gap = sum-gap n _ _ (λ j k. min_term-mono (at A j) (i.low j k) (i.high j k))

  pub max_activity-gap : (k : ℕ) → k < n
      → (max_term (at A k) (lower B k) (upper B k) +ℤ max_activity n A Q) ≤ℤ (max_term (at A k) (lower Q k) (upper Q k) +ℤ max_activity n A B)
  unfolding max_activity
  max_activity-gap = sum-gap n _ _ (λ j k. max_term-anti (at A j) (i.low j k) (i.high j k))

-- ---- points

module _ (n : ℕ) (A x : List ℤ) where
  pub min_activity-at : min_activity n A (box_at n x) ≡ dot n A x
  unfolding min_activity dot
  min_activity-at = sum-cong n _ _ (λ j k. rw (lower-at n x j k, upper-at n x j k) (min_term-at (at A j) (at x j)))

  pub max_activity-at : max_activity n A (box_at n x) ≡ dot n A x
  unfolding max_activity dot
  max_activity-at = sum-cong n _ _ (λ j k. rw (lower-at n x j k, upper-at n x j k) (max_term-at (at A j) (at x j)))

module _ (A : List ℤ) {n : ℕ} {B x : List ℤ} (i : InBox n B x) where
  pub min_activity-le-dot : min_activity n A B ≤ℤ dot n A x
  unfolding min_activity dot
  min_activity-le-dot = sum_mono n _ _ (λ j k. min_term-le (at A j) (i.low j k) (i.high j k))

  pub dot-le-max_activity : dot n A x ≤ℤ max_activity n A B
  unfolding max_activity dot
  dot-le-max_activity = sum_mono n _ _ (λ j k. le-max_term (at A j) (i.low j k) (i.high j k))

  pub min_activity-gap-dot : (k : ℕ) → k < n → (at A k *ℤ at x k +ℤ min_activity n A B) ≤ℤ (min_term (at A k) (lower B k) (upper B k) +ℤ dot n A x)
  unfolding min_activity dot
  min_activity-gap-dot = sum-gap n _ _ (λ j k. min_term-le (at A j) (i.low j k) (i.high j k))

  pub max_activity-gap-dot : (k : ℕ) → k < n → (max_term (at A k) (lower B k) (upper B k) +ℤ dot n A x) ≤ℤ (at A k *ℤ at x k +ℤ max_activity n A B)
  unfolding max_activity dot
  max_activity-gap-dot = sum-gap n _ _ (λ j k. le-max_term (at A j) (i.low j k) (i.high j k))

module _ (A : List ℤ) {n : ℕ} {B x : List ℤ} {d : ℕ} (i : InBoxOver n B x d) where
  pub min_activity-le-dot-over : (min_activity n A B *ℤ pos d) ≤ℤ dot n A x
  unfolding min_activity dot
  min_activity-le-dot-over = rw (sum-mul n) (sum_mono n _ _ (λ j k. rw (min_term-mul (at A j)) (min_term-le (at A j) (i.low j k) (i.high j k))))

  pub dot-over-le-max_activity : dot n A x ≤ℤ (max_activity n A B *ℤ pos d)
  unfolding max_activity dot
  dot-over-le-max_activity = rw (sum-mul n) (sum_mono n _ _ (λ j k. rw (max_term-mul (at A j)) (le-max_term (at A j) (i.low j k) (i.high j k))))

-- ---- the range of valid numbers

pub within-coef : {z : ℤ} → Between min_coef max_coef z → Within 1_000_000 z
within-coef {z} b = within! 1_000_000 z (omega zarith)

pub within-bound : {z : ℤ} → Between min_bound max_bound z → Within 32_768 z
within-bound {z} b = within! 32_768 z (omega zarith)

-- of the first i terms too, as a loop adds them
module _ {n : ℕ} {A B : List ℤ} (v : ValidCoefs n A B) where
  product-within : (i j : ℕ) → Within 32_768_000_000 (at A j *ℤ at B i)
  product-within i j = within-mul (within-coef (v.range j)) (within-bound (v.box.range i))

  pub min_activity-within : (i : ℕ) → i ≤ n → Within 5_000_000_000_000 (min_activity i A B)
  unfolding min_activity
  min_activity-within i h = within-le (omega (arith, v.few)) (sum-within 32_768_000_000 _
      (λ j. min_term-ind (at A j) (lower B j) (upper B j) (Within 32_768_000_000) (λ _. product-within (2 * j) j) (λ _. product-within (2 * j + 1) j)) i)

  pub max_activity-within : (i : ℕ) → i ≤ n → Within 5_000_000_000_000 (max_activity i A B)
  unfolding max_activity
  max_activity-within i h = within-le (omega (arith, v.few)) (sum-within 32_768_000_000 _
      (λ j. max_term-ind (at A j) (lower B j) (upper B j) (Within 32_768_000_000) (λ _. product-within (2 * j + 1) j) (λ _. product-within (2 * j) j)) i)
