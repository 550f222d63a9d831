-- Which rows hear nothing of a variable, one row more in its sets, and one variable more whose sets are written.
use Prim.Native.Nat.{◌*◌, ◌+◌, ◌<◌, ◌≤◌, ℕ}
use borrow.Author.Count.{below_more}
use lib.Dec.{eqb, eqb→eq, not_T}
use lib.IntN.{pos, ℤ}
use lib.ListN.{drop, get_or, length, take}
use lib.Signed.{◌≤ℤ◌}
use mathlib.Core.Bool.{Bool, false, true}
use mathlib.Core.List.{List}
use mathlib.Core.Path.{◌∙◌, ◌≡◌, refl}
use native.Mathlib.Omega.{arith}
use Rattle.integer.proofs.Parts.{lt-isn't}
use Rattle.integer.proofs.Tests.{T→false}
use Rattle.model.specs.Box.{at}
use Rattle.prepared_model.specs.Layout.{fall_of, rise_of}
use Rattle.prepared_model.specs.SameBut.{SameBut}
use Rattle.prepared_model.proofs.KeptLaws.{same-before, same-join}
use Rattle.row_set.specs.Bits.{bit_at}
use Rattle.row_set.specs.Readers.{hears_fall, hears_rise}
use Rattle.hearers.specs.Column.{Column}

-- a coefficient of 0
pub rise-none : (equality : Bool) → hears_rise equality (pos 0) ≡ false
unfolding hears_rise
rise-none true = refl
rise-none false = refl

pub fall-none : (equality : Bool) → hears_fall equality (pos 0) ≡ false
unfolding hears_fall
fall-none true = refl
fall-none false = refl

-- a ≤ row
pub rise-below : {a : ℤ} → a ≤ℤ pos 0 → hears_rise false a ≡ false
unfolding hears_rise
rise-below h = rw (lt-isn't h)

pub fall-above : {a : ℤ} → pos 0 ≤ℤ a → hears_fall false a ≡ false
unfolding hears_fall
fall-above h = rw (lt-isn't h)

pub not-equality : (kind : ℕ) → (kind ≡ 1 → ⊥) → eqb kind 1 ≡ false
not-equality kind f = T→false (eqb kind 1) (not_T (eqb kind 1) (λ t. f (eqb→eq kind 1 t)))

-- one row more
pub column-more : (n r : ℕ) (C : List ℤ) (K : List ℕ) (j : ℕ) {R F : List ℕ} (S G : List ℕ) → Column n r C K j R F
    → (hears_rise (eqb (get_or K r 0) 1) (at C (r * n + j)) ≡ true → bit_at S r ≡ 1)
    → (hears_fall (eqb (get_or K r 0) 1) (at C (r * n + j)) ≡ true → bit_at G r ≡ 1)
    → ((i : ℕ) → (i ≡ r → ⊥) → (bit_at S i ≡ bit_at R i) × (bit_at G i ≡ bit_at F i)) → Column n (r + 1) C K j S G
column-more n r C K j S G c rise fall others = record {
  rising = below_more (λ q. hears_rise (eqb (get_or K q 0) 1) (at C (q * n + j)) ≡ true → bit_at S q ≡ 1) r (λ q k t. (others q (omega arith)).0 ∙ c.rising q k t) rise;
  falling = below_more (λ q. hears_fall (eqb (get_or K q 0) 1) (at C (q * n + j)) ≡ true → bit_at G q ≡ 1) r (λ q k t. (others q (omega arith)).1 ∙ c.falling q k t) fall;
}

-- the two sets of variable j, written one after the other
module _ (j : ℕ) {R F W X Y : List ℕ} (r : length R ≡ 4) (f : length F ≡ 4) (room : 392 + 8 * j ≤ length W)
    (p : take (length R) (drop (384 + 8 * j) X) ≡ R) (s : SameBut (384 + 8 * j) (384 + 8 * j + length R) W X)
    (q : take (length F) (drop (388 + 8 * j) Y) ≡ F) (t : SameBut (388 + 8 * j) (388 + 8 * j + length F) X Y) where
  pub column-same : SameBut (384 + 8 * j) (384 + 8 * j + 8) W Y
  column-same =
      let e : 388 + 8 * j ≡ 384 + 8 * j + 4 = omega arith in
      let u : 388 + 8 * j + 4 ≡ 384 + 8 * j + 8 = omega arith in
      same-join (omega arith) (omega arith) (rw r at s) (rw (f, u, e) at t)

  pub column-written : {n m : ℕ} {C : List ℤ} {K : List ℕ} → Column n m C K j R F → Column n m C K j (rise_of Y j) (fall_of Y j)
  unfolding rise_of fall_of
  column-written c =
      let rise : take 4 (drop (384 + 8 * j) Y) ≡ R = same-before t (384 + 8 * j) 4 (omega arith) (omega (arith, s.len)) ∙ (rw r at p) in
      let fall : take 4 (drop (388 + 8 * j) Y) ≡ F = rw f at q in
      rw (rise, fall) c

-- the sets stay where later places are written
pub column-kept : {p q n m : ℕ} {C : List ℤ} {K X Y : List ℕ} (j : ℕ) → SameBut p q X Y → 392 + 8 * j ≤ p → 392 + 8 * j ≤ length X
    → Column n m C K j (rise_of X j) (fall_of X j) → Column n m C K j (rise_of Y j) (fall_of Y j)
unfolding rise_of fall_of
column-kept j t h l c =
    rw (same-before t (384 + 8 * j) 4 (omega arith) (omega arith), same-before t (388 + 8 * j) 4 (omega arith) (omega arith)) c

-- one variable more
module _ (j : ℕ) {W X Y : List ℕ} (s : SameBut 384 (384 + 8 * j) W X) (t : SameBut (384 + 8 * j) (384 + 8 * j + 8) X Y) where
  pub columns-same : SameBut 384 (384 + 8 * (j + 1)) W Y
  columns-same = let e : 384 + 8 * j + 8 ≡ 384 + 8 * (j + 1) = omega arith in rw e at (same-join (omega arith) (omega arith) s t)

  pub columns-more : {n m : ℕ} {C : List ℤ} {K : List ℕ} → 384 + 8 * j ≤ length W
      → ((q : ℕ) → q < j → Column n m C K q (rise_of X q) (fall_of X q)) → Column n m C K j (rise_of Y j) (fall_of Y j)
      → (q : ℕ) → q < j + 1 → Column n m C K q (rise_of Y q) (fall_of Y q)
  columns-more {n} {m} {C} {K} l f g =
      below_more (λ q. Column n m C K q (rise_of Y q) (fall_of Y q)) j (λ q k. column-kept q t (omega arith) (omega (arith, s.len)) (f q k)) g
