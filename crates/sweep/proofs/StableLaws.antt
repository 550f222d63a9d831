-- A row that moves nothing in a box moves nothing in a smaller one whose bounds that its minimum activity reads are the same: the
-- lower ones where the coefficient is above 0, the upper ones where it is below.
use Prim.Native.Nat.{◌<◌, ℕ}
use lib.IntN.{pos, zero-*ℤ, ℤ}
use lib.Signed.{◌<ℤ◌, ◌≤ℤ◌, ≤ℤ_refl}
use mathlib.Core.Bool.{not}
use mathlib.Core.List.{List}
use mathlib.Core.Path.{◌∙◌, ◌≡◌, ap, sym}
use mathlib.Core.Logic.{◌≢◌, ◌⊎◌, inl, inr, ⊎_elim}
use lib.Dec.{T}
use Rattle.integer.proofs.IndexLaws.{sum-cong}
use Rattle.integer.proofs.Parts.{mul-anti-left, mul-mono-left, zarith, zify}
use Rattle.integer.proofs.Tests.{decide, lt-or-ge}
use Rattle.model.specs.Box.{Inside, NonEmpty, at, lower, upper}
use Rattle.model.specs.Rows.{Row, is_equality, negated, negated_coefs}
use Rattle.model.proofs.BoxLaws.{≤ℤ-antisymm}
use Rattle.model.proofs.PointLaws.{at-negated}
use Rattle.row.specs.Activity.{min_activity, min_term}
use Rattle.row.specs.Kinds.{propagate_row_of}
use Rattle.row.specs.Outcome.{is_infeasible, unchanged}
use Rattle.row.specs.Propagation.{PropagatedRow, propagate_row}
use Rattle.row.proofs.ActivityLaws.{min_term-nonpos, min_term-pos}
use Rattle.row.proofs.BoundLaws.{le-new_upper, new_lower-le}
use Rattle.row.proofs.KindLaws.{forms-fixed, kinded-fixed, kinded-le, kinded-stays}
use Rattle.row.proofs.PropagationLaws.{Stable, box→stable, propagate-row-again, propagate-row-non_empty, stable→same}

-- the row A reads the same bounds in P and Q
pub record SameReads (n : ℕ) (A P Q : List ℤ) : Type 0 where
  pub low : (j : ℕ) → j < n → pos 0 <ℤ at A j → lower Q j ≡ lower P j
  pub high : (j : ℕ) → j < n → at A j <ℤ pos 0 → upper Q j ≡ upper P j

min_term-reads : (a l u l' u' : ℤ) → (pos 0 <ℤ a → l' ≡ l) → (a <ℤ pos 0 → u' ≡ u) → min_term a l' u' ≡ min_term a l u
min_term-reads a l u l' u' f g = go (lt-or-ge (pos 0) a) (lt-or-ge a (pos 0))
  where
    go : (pos 0 <ℤ a) ⊎ (a ≤ℤ pos 0) → (a <ℤ pos 0) ⊎ (pos 0 ≤ℤ a) → min_term a l' u' ≡ min_term a l u
    go (inl s) t = rw (f s) (min_term-pos a l u' s ∙ sym (min_term-pos a l u s))
    go (inr s) (inl t) = rw (g t) (min_term-nonpos a l' u s ∙ sym (min_term-nonpos a l u s))
    go (inr s) (inr t) =
        min_term-nonpos a l' u' s ∙ (rw (≤ℤ-antisymm s t) (zero-*ℤ u' ∙ sym (zero-*ℤ u))) ∙ sym (min_term-nonpos a l u s)

module _ {n : ℕ} {A P Q : List ℤ} (b : ℤ) (i : Inside n Q P) (r : SameReads n A P Q) where
  reads-activity : min_activity n A Q ≡ min_activity n A P
  unfolding min_activity
  reads-activity = sum-cong n _ _ (λ j k. min_term-reads (at A j) (lower P j) (upper P j) (lower Q j) (upper Q j) (r.low j k) (r.high j k))

  stable-kept : Stable n A b P → Stable n A b Q
  stable-kept s = record {
    met = rw reads-activity s.met;
    low = λ j k. rw reads-activity ((new_lower-le (at A j) b (min_activity n A P) (lower Q j) (upper Q j) (lower Q j)).1 (
      ≤ℤ_refl _,
      λ t.
          let old = ((new_lower-le (at A j) b (min_activity n A P) (lower P j) (upper P j) (lower P j)).0 (s.low j k)).1 t in
          let less = mul-anti-left (at A j) (omega zarith) (i.low j k) in
          rw (r.high j k t) (simp zify (omega (zarith, simp zify at old, simp zify at less))),
    ));
    high = λ j k. rw reads-activity ((le-new_upper (at A j) b (min_activity n A P) (lower Q j) (upper Q j) (upper Q j)).1 (
      ≤ℤ_refl _,
      λ t.
          let old = ((le-new_upper (at A j) b (min_activity n A P) (lower P j) (upper P j) (upper P j)).0 (s.high j k)).1 t in
          let less = mul-mono-left (at A j) (omega zarith) (i.high j k) in
          rw (r.low j k t) (simp zify (omega (zarith, simp zify at old, simp zify at less))),
    ));
  }

-- ---- by the kind: an = row reads both bounds of every variable whose coefficient is not 0

pub record SameBounds (n : ℕ) (A P Q : List ℤ) : Type 0 where
  pub low : (j : ℕ) → j < n → at A j ≢ pos 0 → lower Q j ≡ lower P j
  pub high : (j : ℕ) → j < n → at A j ≢ pos 0 → upper Q j ≡ upper P j

above-not : {a : ℤ} → pos 0 <ℤ a → a ≢ pos 0
above-not h e = let z : ⊥ = omega zarith in z

below-not : {a : ℤ} → a <ℤ pos 0 → a ≢ pos 0
below-not h e = let z : ⊥ = omega zarith in z

first_reads : {n : ℕ} {A P Q : List ℤ} → SameBounds n A P Q → SameReads n A P Q
first_reads s = record { low = λ j k h. s.low j k (above-not h); high = λ j k h. s.high j k (below-not h) }

second_reads : {n : ℕ} {A P Q : List ℤ} → SameBounds n A P Q → SameReads n (negated_coefs A) P Q
second_reads {n} {A} s = record {
  low = λ j k h. let g = rw (at-negated A j) at h in let z = simp zify at g in s.low j k (below-not (omega (zarith, z)));
  high = λ j k h. let g = rw (at-negated A j) at h in let z = simp zify at g in s.high j k (above-not (omega (zarith, z)));
}

-- what a row says in P it says in Q: a ≤ row where it reads the same bounds, an = row where both are the same
module _ (r : Row) {n : ℕ} {P Q : List ℤ} (h : 0 < n) (p : NonEmpty n P) (q : NonEmpty n Q) (i : Inside n Q P) where
  form-kept : (A : List ℤ) (b : ℤ) → SameReads n A P Q → (propagate_row n A b P).box ≡ P → (propagate_row n A b Q).box ≡ Q
  form-kept A b s e = ap (λ (v : PropagatedRow). v.box) (stable→same h q (stable-kept b i s (box→stable h p e)))

  pub kinded-kept : (T (not (is_equality r)) → SameReads n r.coefs P Q) → (T (is_equality r) → SameBounds n r.coefs P Q)
      → propagate_row_of n r P ≡ record { outcome = unchanged; moved = 0; box = P } → propagate_row_of n r Q ≡ record { outcome = unchanged; moved = 0; box = Q }
  unfolding negated
  kinded-kept f g e =
      let fixed = kinded-fixed r h p (ap (λ (v : PropagatedRow). v.box) e) in
      kinded-stays r h q (forms-fixed r h q
      (form-kept r.coefs r.rhs (⊎_elim (λ t. first_reads (g t)) f (decide (is_equality r))) fixed.0)
      (λ t. form-kept (negated r).coefs (negated r).rhs (second_reads (g t)) (fixed.1 t)))

-- a ≤ row that was just visited moves nothing; an = row may (`not-idempotent`)
same_after : (A : List ℤ) (b : ℤ) {n : ℕ} {B : List ℤ} → 0 < n → NonEmpty n B → T (not (is_infeasible (propagate_row n A b B).outcome))
    → propagate_row n A b (propagate_row n A b B).box ≡ record { outcome = unchanged; moved = 0; box = (propagate_row n A b B).box }
same_after A b h p f = let q = propagate-row-non_empty A b p f in stable→same h q (box→stable h q (propagate-row-again A b h p f))

pub kinded-after : (r : Row) {n : ℕ} {B : List ℤ} → 0 < n → NonEmpty n B → T (not (is_equality r)) → T (not (is_infeasible (propagate_row_of n r B).outcome))
    → propagate_row_of n r (propagate_row_of n r B).box ≡ record { outcome = unchanged; moved = 0; box = (propagate_row_of n r B).box }
kinded-after r {n} {B} h p q f = rw (kinded-le n r B q, kinded-le n r (propagate_row n r.coefs r.rhs B).box q) (same_after r.coefs r.rhs h p (rw (kinded-le n r B q) at f))
