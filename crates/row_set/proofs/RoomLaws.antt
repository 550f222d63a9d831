-- A row that moves nothing in a box moves nothing in another, wider or not, where no bound moved that it hears of.
use Prim.Native.Nat.{◌<◌, ℕ}
use lib.Dec.{T}
use lib.IntN.{◌+ℤ◌, pos, zero-*ℤ, ℤ}
use lib.Signed.{◌<ℤ◌, ◌≤ℤ◌, lt_z, ≤ℤ_refl}
use mathlib.Core.Bool.{Bool, ◌&&◌, ◌||◌, false, true}
use mathlib.Core.List.{List}
use mathlib.Core.Logic.{◌⊎◌, inl, inr}
use mathlib.Core.Path.{◌≡◌, ap, refl}
use Rattle.integer.proofs.IndexLaws.{sum-gap, sum_mono}
use Rattle.integer.proofs.Parts.{lt-is, mul-anti-left, mul-mono-left, zarith, zify}
use Rattle.integer.proofs.Tests.{T→true, lt-or-ge}
use Rattle.model.specs.Box.{NonEmpty, at, lower, upper}
use Rattle.model.specs.Rows.{Row, Rows, is_equality, negated, row_at}
use Rattle.model.proofs.BoxLaws.{≤ℤ-antisymm, ≤ℤ-trans}
use Rattle.model.proofs.PointLaws.{at-negated}
use Rattle.row.specs.Activity.{min_activity, min_term}
use Rattle.row.specs.Kinds.{propagate_row_of}
use Rattle.row.specs.Outcome.{unchanged}
use Rattle.row.specs.Propagation.{PropagatedRow, propagate_row}
use Rattle.row.proofs.ActivityLaws.{min_term-nonpos, min_term-pos}
use Rattle.row.proofs.BoundLaws.{le-new_upper, new_lower-le}
use Rattle.row.proofs.KindLaws.{forms-fixed, kinded-fixed, kinded-stays}
use Rattle.row.proofs.PropagationLaws.{Stable, box→stable, stable→same}
use Rattle.row_set.specs.Bits.{bit_at}
use Rattle.row_set.specs.Readers.{Calm, Unheard, hears_fall, hears_rise}

-- ---- a form: of the row A in Q every term leaves the others no less room than in P, and is no wider

pub record Roomy (n : ℕ) (A P Q : List ℤ) : Type 0 where
  pub above : (j : ℕ) → j < n → pos 0 <ℤ at A j → (lower Q j ≤ℤ lower P j) × (upper Q j ≤ℤ upper P j)
  pub below : (j : ℕ) → j < n → at A j <ℤ pos 0 → (lower P j ≤ℤ lower Q j) × (upper P j ≤ℤ upper Q j)

module _ {n : ℕ} {A P Q : List ℤ} (v : Roomy n A P Q) where
  term-less : (j : ℕ) → j < n → min_term (at A j) (lower Q j) (upper Q j) ≤ℤ min_term (at A j) (lower P j) (upper P j)
  term-less j k = go (lt-or-ge (pos 0) (at A j)) (lt-or-ge (at A j) (pos 0))
    where
      go : (pos 0 <ℤ at A j) ⊎ (at A j ≤ℤ pos 0) → (at A j <ℤ pos 0) ⊎ (pos 0 ≤ℤ at A j)
          → min_term (at A j) (lower Q j) (upper Q j) ≤ℤ min_term (at A j) (lower P j) (upper P j)
      go (inl s) t = rw (min_term-pos (at A j) (lower Q j) (upper Q j) s, min_term-pos (at A j) (lower P j) (upper P j) s)
          (mul-mono-left (at A j) (omega zarith) (v.above j k s).0)
      go (inr s) (inl t) = rw (min_term-nonpos (at A j) (lower Q j) (upper Q j) s, min_term-nonpos (at A j) (lower P j) (upper P j) s)
          (mul-anti-left (at A j) s (v.below j k t).1)
      go (inr s) (inr t) = rw (≤ℤ-antisymm s t, min_term-nonpos (pos 0) (lower Q j) (upper Q j) (≤ℤ_refl _), min_term-nonpos (pos 0) (lower P j) (upper P j) (≤ℤ_refl _), zero-*ℤ (upper Q j), zero-*ℤ (upper P j))
          (≤ℤ_refl (pos 0))

  activity-less : min_activity n A Q ≤ℤ min_activity n A P
  unfolding min_activity
  activity-less = sum_mono n _ _ term-less

  -- the other terms leave variable j no less
  others-less : (j : ℕ) → j < n → (min_term (at A j) (lower P j) (upper P j) +ℤ min_activity n A Q) ≤ℤ (min_term (at A j) (lower Q j) (upper Q j) +ℤ min_activity n A P)
  unfolding min_activity
  others-less = sum-gap n _ _ term-less

  stable-roomy : (b : ℤ) → Stable n A b P → Stable n A b Q
  stable-roomy b s = record {
    met = ≤ℤ-trans activity-less s.met;
    low = λ j k. (new_lower-le (at A j) b (min_activity n A Q) (lower Q j) (upper Q j) (lower Q j)).1 (
      ≤ℤ_refl _,
      λ t.
          let old = ((new_lower-le (at A j) b (min_activity n A P) (lower P j) (upper P j) (lower P j)).0 (s.low j k)).1 t in
          let less = mul-anti-left (at A j) (omega zarith) (v.below j k t).0 in
          let nonpos : at A j ≤ℤ pos 0 = omega zarith in
          let gap = rw (min_term-nonpos (at A j) (lower P j) (upper P j) nonpos, min_term-nonpos (at A j) (lower Q j) (upper Q j) nonpos) at (others-less j k) in
          simp zify (omega (zarith, simp zify at old, simp zify at less, simp zify at gap)),
    );
    high = λ j k. (le-new_upper (at A j) b (min_activity n A Q) (lower Q j) (upper Q j) (upper Q j)).1 (
      ≤ℤ_refl _,
      λ t.
          let old = ((le-new_upper (at A j) b (min_activity n A P) (lower P j) (upper P j) (upper P j)).0 (s.high j k)).1 t in
          let less = mul-mono-left (at A j) (omega zarith) (v.above j k t).1 in
          let gap = rw (min_term-pos (at A j) (lower P j) (upper P j) t, min_term-pos (at A j) (lower Q j) (upper Q j) t) at (others-less j k) in
          simp zify (omega (zarith, simp zify at old, simp zify at less, simp zify at gap)),
    );
  }

-- ---- a row by its kind

hears-above : (equality : Bool) {a : ℤ} → pos 0 <ℤ a → hears_rise equality a ≡ true
unfolding hears_rise
hears-above equality s = rw (lt-is s)

hears-below : (equality : Bool) {a : ℤ} → a <ℤ pos 0 → hears_fall equality a ≡ true
unfolding hears_fall
hears-below equality s = rw (lt-is s)

-- an = row hears the other way too
hears-too : (a : ℤ) → a <ℤ pos 0 → hears_rise true a ≡ true
unfolding hears_rise
hears-too a s = go (lt_z (pos 0) a) (lt_z a (pos 0)) (lt-is s)
  where
    go : (x y : Bool) → y ≡ true → (x || (true && y)) ≡ true
    go true y e = refl
    go false y e = e

hears-also : (a : ℤ) → pos 0 <ℤ a → hears_fall true a ≡ true
unfolding hears_fall
hears-also a s = go (lt_z a (pos 0)) (lt_z (pos 0) a) (lt-is s)
  where
    go : (x y : Bool) → y ≡ true → (x || (true && y)) ≡ true
    go true y e = refl
    go false y e = e

module _ (row : Row) {n : ℕ} {P Q : List ℤ} (u : (j : ℕ) → j < n → Unheard row P Q j) where
  first-roomy : Roomy n row.coefs P Q
  first-roomy = record {
    above = λ j k s. (u j k).rise (hears-above (is_equality row) s);
    below = λ j k s. (u j k).fall (hears-below (is_equality row) s);
  }

  second-roomy : T (is_equality row) → Roomy n (negated row).coefs P Q
  unfolding negated
  second-roomy t = record {
    above = λ j k s. let g = rw (at-negated row.coefs j) at s in let z = simp zify at g in
        (u j k).rise (rw (T→true (is_equality row) t) (hears-too (at row.coefs j) (omega (zarith, z))));
    below = λ j k s. let g = rw (at-negated row.coefs j) at s in let z = simp zify at g in
        (u j k).fall (rw (T→true (is_equality row) t) (hears-also (at row.coefs j) (omega (zarith, z))));
  }

  module _ (h : 0 < n) (p : NonEmpty n P) (q : NonEmpty n Q) where
    form-roomy : (A : List ℤ) (b : ℤ) → Roomy n A P Q → (propagate_row n A b P).box ≡ P → (propagate_row n A b Q).box ≡ Q
    form-roomy A b v e = ap (λ (w : PropagatedRow). w.box) (stable→same h q (stable-roomy v b (box→stable h p e)))

    -- what the row says in P, nothing, it says in Q
    pub row-unmoved : propagate_row_of n row P ≡ record { outcome = unchanged; moved = 0; box = P }
        → propagate_row_of n row Q ≡ record { outcome = unchanged; moved = 0; box = Q }
    unfolding negated
    row-unmoved e =
        let fixed = kinded-fixed row h p (ap (λ (w : PropagatedRow). w.box) e) in
        kinded-stays row h q (forms-fixed row h q
        (form-roomy row.coefs row.rhs first-roomy fixed.0)
        (λ t. form-roomy (negated row).coefs (negated row).rhs (second-roomy t) (fixed.1 t)))

-- ---- the rows of a box

-- a row that is not in the set D' was not in D, and hears nothing between P and Q
pub calm-kept : {n m : ℕ} {A : Rows} {P Q : List ℤ} {D D' : List ℕ} → 0 < n → NonEmpty n P → Calm n m A P D
    → ((r : ℕ) → r < m → bit_at D' r ≡ 0 → (bit_at D r ≡ 0) × ((j : ℕ) → j < n → Unheard (row_at n A r) P Q j))
    → Calm n m A Q D'
calm-kept {n} {A = A} h p c f = record { same = λ q r k e. let w = f r k e in row-unmoved (row_at n A r) w.1 h p q (c.same p r k w.0) }
