-- What a sweep by steps passes over: a coefficient of 0 adds nothing to the activity and moves no bound.
use Prim.Native.Nat.{◌*◌, ◌+◌, ◌<◌, ◌≤◌, suc, zero, ℕ}
use lib.IntN.{◌+ℤ◌, +ℤ_idr, pos, ℤ}
use lib.ListN.{get_or, set}
use lib.Seq.{set-get_or}
use lib.Signed.{≤ℤ_refl}
use mathlib.Core.List.{List}
use mathlib.Core.Path.{◌∙◌, ◌≡◌, ap, sym}
use native.Mathlib.Decide.{ℕ_discrete}
use native.Mathlib.Numerals.{add-one}
use native.Mathlib.Omega.{arith}
use Rattle.integer.specs.Index.{sum}
use Rattle.integer.proofs.Parts.{zarith, zify}
use Rattle.model.specs.Box.{at, lower, upper, with_bounds}
use Rattle.model.proofs.BoxLoops.{write_to, write_to-late}
use Rattle.row.specs.Activity.{greatest}
use Rattle.row.specs.Kinds.{signed}
use Rattle.row.specs.Moved.{differs, moved_bounds}
use Rattle.row.specs.Propagation.{implied_box, new_lower, new_upper}
use Rattle.sweep.specs.Steps.{Steps}
use Rattle.row.proofs.BoundLaws.{new_lower-nonneg, new_upper-nonpos}
use Rattle.row.proofs.ImpliedBoxLaws.{lower-implied, upper-implied}
use Rattle.row.proofs.MovedLaws.{differs-same}
use Rattle.row.proofs.ReachLaws.{greatest-zero, min_term-zero, min_term_at, term_width-zero, width_at}
use Rattle.row.proofs.RowLoops.{moved_to, tighten_to}
use Rattle.row.proofs.SignedLaws.{at-signed}

-- ---- sums, boxes and counts over a stretch where nothing happens

sum-skip : (f : ℕ → ℤ) (i k : ℕ) → i ≤ k → ((j : ℕ) → i ≤ j → j < k → f j ≡ pos 0) → sum i f ≡ sum k f
unfolding sum
sum-skip f i zero h z = ap (λ (q : ℕ). sum q f) (let e : i ≡ 0 = omega arith in e)
sum-skip f i (suc k) h z = go (ℕ_discrete i (suc k)) (λ (q : i ≤ k). sum-skip f i k q (λ j a b. z j a (omega arith)))
  where
    go : Dec (i ≡ suc k) → (i ≤ k → sum i f ≡ sum k f) → sum i f ≡ sum k f +ℤ f k
    go (yes e) r = ap (λ (q : ℕ). sum q f) e
    go (no ne) r = r (omega arith) ∙ sym (+ℤ_idr (sum k f)) ∙ ap (λ (x : ℤ). sum k f +ℤ x) (sym (z k (omega arith) (omega arith)))

moved-skip : (B P : List ℤ) (i k : ℕ) → i ≤ k → ((j : ℕ) → i ≤ j → j < k → (lower P j ≡ lower B j) × (upper P j ≡ upper B j))
    → moved_bounds i B P ≡ moved_bounds k B P
unfolding moved_bounds
moved-skip B P i zero h z = ap (λ (q : ℕ). moved_bounds q B P) (let e : i ≡ 0 = omega arith in e)
moved-skip B P i (suc k) h z = go (ℕ_discrete i (suc k)) (λ (q : i ≤ k). moved-skip B P i k q (λ j a b. z j a (omega arith)))
  where
    go : Dec (i ≡ suc k) → (i ≤ k → moved_bounds i B P ≡ moved_bounds k B P)
        → moved_bounds i B P ≡ moved_bounds k B P + (differs (lower B k) (lower P k) + differs (upper B k) (upper P k))
    go (yes e) r = ap (λ (q : ℕ). moved_bounds q B P) e
    go (no ne) r =
        let w = z k (omega arith) (omega arith) in
        rw (w.0, w.1) (omega (arith, r (omega arith), differs-same (lower B k), differs-same (upper B k)))

same-bounds : (P : List ℤ) (j : ℕ) {l u : ℤ} → l ≡ lower P j → u ≡ upper P j → with_bounds P j l u ≡ P
unfolding with_bounds
same-bounds P j e f = rw (e, f) (ap (λ (Q : List ℤ). set Q (2 * j + 1) (upper P j)) (set-get_or P (2 * j) (pos 0)) ∙ set-get_or P (2 * j + 1) (pos 0))

write_skip : (f g : ℕ → ℤ) (B : List ℤ) (i k : ℕ) → i ≤ k → ((j : ℕ) → i ≤ j → j < k → (f j ≡ lower B j) × (g j ≡ upper B j))
    → write_to i f g B ≡ write_to k f g B
unfolding write_to
write_skip f g B i zero h z = ap (λ (q : ℕ). write_to q f g B) (let e : i ≡ 0 = omega arith in e)
write_skip f g B i (suc k) h z = go (ℕ_discrete i (suc k)) (λ (q : i ≤ k). write_skip f g B i k q (λ j a b. z j a (omega arith)))
  where
    go : Dec (i ≡ suc k) → (i ≤ k → write_to i f g B ≡ write_to k f g B) → write_to i f g B ≡ with_bounds (write_to k f g B) k (f k) (g k)
    go (yes e) r = ap (λ (q : ℕ). write_to q f g B) e
    go (no ne) r =
        let w = z k (omega arith) (omega arith) in
        r (omega arith) ∙ sym (same-bounds (write_to k f g B) k
        (w.0 ∙ sym (write_to-late f g B k (2 * k) (omega arith))) (w.1 ∙ sym (write_to-late f g B k (2 * k + 1) (omega arith))))

greatest-skip : (f : ℕ → ℤ) (i k : ℕ) → i ≤ k → ((j : ℕ) → i ≤ j → j < k → f j ≡ pos 0) → greatest i f ≡ greatest k f
greatest-skip f i zero h z = ap (λ (q : ℕ). greatest q f) (let e : i ≡ 0 = omega arith in e)
greatest-skip f i (suc k) h z = go (ℕ_discrete i (suc k)) (λ (q : i ≤ k). greatest-skip f i k q (λ j a b. z j a (omega arith)))
  where
    go : Dec (i ≡ suc k) → (i ≤ k → greatest i f ≡ greatest k f) → greatest i f ≡ greatest (suc k) f
    go (yes e) r = ap (λ (q : ℕ). greatest q f) e
    go (no ne) r = r (omega arith) ∙ greatest-zero f k (z k (omega arith) (omega arith)) ∙ ap (λ (q : ℕ). greatest q f) (add-one k)

-- ---- a step of a row

module _ {n : ℕ} {A : List ℤ} {S : List ℕ} (v : Steps n A S) {j : ℕ} (h : j < n) where
  at_least_one : j + 1 ≤ j + get_or S j 0
  at_least_one = omega (arith, v.forward j h)

  zero-between : (k : ℕ) → j + 1 ≤ k → k < j + get_or S j 0 → at A k ≡ pos 0
  zero-between k a b = v.zeros j h k (omega arith) b

  pub step_sum : (B : List ℤ) → sum (j + 1) (min_term_at A B) ≡ sum (j + get_or S j 0) (min_term_at A B)
  step_sum B = sum-skip _ (j + 1) (j + get_or S j 0) at_least_one (λ k a b. rw (zero-between k a b) (min_term-zero (lower B k) (upper B k)))

  pub step-widest : (B : List ℤ) → greatest (j + 1) (width_at A B) ≡ greatest (j + get_or S j 0) (width_at A B)
  step-widest B = greatest-skip _ (j + 1) (j + get_or S j 0) at_least_one (λ k a b. rw (zero-between k a b) (term_width-zero (lower B k) (upper B k)))

  module _ (b L : ℤ) (B : List ℤ) where
    low-stays : (k : ℕ) → j + 1 ≤ k → k < j + get_or S j 0 → new_lower (at A k) b L (lower B k) (upper B k) ≡ lower B k
    low-stays k a c = rw (zero-between k a c) (new_lower-nonneg (pos 0) b L (lower B k) (upper B k) (≤ℤ_refl (pos 0)))

    high-stays : (k : ℕ) → j + 1 ≤ k → k < j + get_or S j 0 → new_upper (at A k) b L (lower B k) (upper B k) ≡ upper B k
    high-stays k a c = rw (zero-between k a c) (new_upper-nonpos (pos 0) b L (lower B k) (upper B k) (≤ℤ_refl (pos 0)))

    pub step-box : tighten_to A b L B (j + 1) ≡ tighten_to A b L B (j + get_or S j 0)
    step-box = write_skip _ _ B (j + 1) (j + get_or S j 0) at_least_one (λ k a c. (low-stays k a c, high-stays k a c))

    pub step-moved : moved_to A b L B n (j + 1) ≡ moved_to A b L B n (j + get_or S j 0)
    step-moved = moved-skip B (implied_box n A b L B) (j + 1) (j + get_or S j 0) at_least_one (λ k a c. let m : k < n = omega (arith, v.within j h) in (
      lower-implied n A b L B k m ∙ low-stays k a c,
      upper-implied n A b L B k m ∙ high-stays k a c,
    ))

-- the steps of a row are those of its negated form
pub signed_steps : (s : ℤ) {n : ℕ} {A : List ℤ} {S : List ℕ} → Steps n A S → Steps n (signed s A) S
signed_steps s {n} {A} v = record {
  len = v.len;
  forward = v.forward;
  within = v.within;
  zeros = λ j h k a b. rw (at-signed s A k, v.zeros j h k a b) (simp zify (omega zarith));
}
