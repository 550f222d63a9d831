-- Laws of the box that a row implies: it lies inside the old one, has the same minimum activity and keeps within the limits.
use Prim.Native.Nat.{◌*◌, ◌+◌, ◌<◌, ℕ}
use lib.Dec.{T, T_not}
use lib.IntN.{◌-ℤ◌, ℤ}
use lib.ListN.{length}
use lib.Signed.{◌≤ℤ◌}
use mathlib.Core.Bool.{Bool, ◌&&◌, cond, false, not, true}
use mathlib.Core.List.{List}
use mathlib.Core.Logic.{◌⊎◌, inl, inr, ⊎_elim}
use mathlib.Core.Path.{◌∙◌, ◌≡◌, ap, ap₂, refl, subst, sym}
use native.Mathlib.Numerals.{add-one}
use Rattle.integer.specs.Index.{all}
use Rattle.integer.specs.Order.{eq_z}
use Rattle.integer.proofs.IndexLaws.{all-at, all-i, sum-cong}
use Rattle.integer.proofs.Parts.{zarith, zify}
use Rattle.integer.proofs.Tests.{eq→eq_z}
use Rattle.model.specs.Box.{Inside, NonEmpty, at, box_of, empty_box, is_empty, lower, upper}
use Rattle.model.specs.Limits.{max_bound, max_width, min_bound}
use Rattle.model.specs.Valid.{Between, ValidBox}
use Rattle.model.proofs.BoxLaws.{at-box_of, box-ext, is_empty_empty, length-box_of, lower-box_of, upper-box_of, ≤ℤ-trans}
use Rattle.model.proofs.CheckLaws.{narrow-past}
use Rattle.row.specs.Activity.{min_activity}
use Rattle.row.specs.Moved.{differs, moved_bounds}
use Rattle.row.specs.Propagation.{implied_box, new_lower, new_upper, stays, stays_at}
use Rattle.row.proofs.BoundLaws.{eq→stays, lower-le-new_lower, min_term-new, new_lower-le-new_upper, new_upper-le-upper, one-stays, stays→eq}
use Rattle.row.proofs.MovedLaws.{differs-sym}

module _ (n : ℕ) (A : List ℤ) (b L : ℤ) (B : List ℤ) where
  pub lower-implied : (j : ℕ) → j < n → lower (implied_box n A b L B) j ≡ new_lower (at A j) b L (lower B j) (upper B j)
  unfolding implied_box
  lower-implied j k = lower-box_of n _ _ j k

  pub upper-implied : (j : ℕ) → j < n → upper (implied_box n A b L B) j ≡ new_upper (at A j) b L (lower B j) (upper B j)
  unfolding implied_box
  upper-implied j k = upper-box_of n _ _ j k

  pub length-implied : length (implied_box n A b L B) ≡ 2 * n
  unfolding implied_box
  length-implied = length-box_of n _ _

  pub implied-inside : Inside n (implied_box n A b L B) B
  implied-inside = record {
    low = λ j k. rw (lower-implied j k) (lower-le-new_lower _ _ _ _ _);
    high = λ j k. rw (upper-implied j k) (new_upper-le-upper _ _ _ _ _);
  }

  -- it leaves the minimum activity as it is
  pub min_activity-implied : min_activity n A (implied_box n A b L B) ≡ min_activity n A B
  unfolding min_activity
  min_activity-implied = sum-cong n _ _ (λ j k. rw (lower-implied j k, upper-implied j k) (min_term-new (at A j) b L (lower B j) (upper B j)))

  pub implied-non_empty : L ≤ℤ b → NonEmpty n B → NonEmpty n (implied_box n A b L B)
  implied-non_empty f p = record {
    len = length-implied;
    order = λ j k. rw (lower-implied j k, upper-implied j k) (new_lower-le-new_upper (at A j) b L (lower B j) (upper B j) f (p.order j k));
  }

  -- whether a bound moved
  pub stays-box : length B ≡ 2 * n → T (all n (stays_at A b L B)) → implied_box n A b L B ≡ B
  stays-box l t = box-ext n _ B length-implied l
      (λ j k. lower-implied j k ∙ (stays→eq (at A j) b L (lower B j) (upper B j) (all-at n (stays_at A b L B) t j k)).0)
      (λ j k. upper-implied j k ∙ (stays→eq (at A j) b L (lower B j) (upper B j) (all-at n (stays_at A b L B) t j k)).1)

  pub box-stays : implied_box n A b L B ≡ B → T (all n (stays_at A b L B))
  box-stays e = all-i n (stays_at A b L B) (λ j k. eq→stays (at A j) b L (lower B j) (upper B j)
      (sym (lower-implied j k) ∙ ap (λ (c : List ℤ). lower c j) e) (sym (upper-implied j k) ∙ ap (λ (c : List ℤ). upper c j) e))

-- ---- how many bounds it moves: of a variable one at most

-- of two tests, one of which holds
fails : (p q : Bool) → T p ⊎ T q → cond p 0 1 + cond q 0 1 ≡ cond (p && q) 0 1
fails true true h = refl
fails true false h = refl
fails false true h = refl
fails false false (inl t) = absurd t
fails false false (inr t) = absurd t

differs-new : (a b L l u : ℤ) → differs l (new_lower a b L l u) + differs u (new_upper a b L l u) ≡ cond (stays a b L l u) 0 1
unfolding stays differs
differs-new a b L l u =
    let x = new_lower a b L l u in
    let y = new_upper a b L l u in
    ap₂ ◌+◌ (differs-sym l x) (differs-sym u y) ∙ fails (eq_z x l) (eq_z y u) (⊎_elim (λ e. inl (eq→eq_z x l e)) (λ e. inr (eq→eq_z y u e)) (one-stays a b L l u))

pub moved-implied : (n : ℕ) (A : List ℤ) (b L : ℤ) (B : List ℤ) (j : ℕ) → j < n
    → moved_bounds (j + 1) B (implied_box n A b L B) ≡ moved_bounds j B (implied_box n A b L B) + cond (stays_at A b L B j) 0 1
unfolding moved_bounds
moved-implied n A b L B j k =
    rw (add-one j, lower-implied n A b L B j k, upper-implied n A b L B j k, differs-new (at A j) b L (lower B j) (upper B j))

-- ---- the limits

between : {z : ℤ} → min_bound ≤ℤ z → z ≤ℤ max_bound → Between min_bound max_bound z
between l h = record { above = l; below = h }

-- a box whose bounds are in range and whose variables are no wider than 4,096 is valid
valid-bounds : {n : ℕ} {B : List ℤ} → length B ≡ 2 * n → (B ≡ empty_box n) ⊎ NonEmpty n B
    → ((j : ℕ) → j < n → Between min_bound max_bound (lower B j)) → ((j : ℕ) → j < n → Between min_bound max_bound (upper B j))
    → ((j : ℕ) → j < n → (upper B j -ℤ lower B j) ≤ℤ max_width) → ValidBox n B
valid-bounds {n} {B} e s l u w = record {
  len = e;
  range = subst (λ (P : List ℤ). (i : ℕ) → Between min_bound max_bound (at P i)) eta
      (at-box_of (Between min_bound max_bound) n (λ j. lower B j) (λ j. upper B j) (between (omega zarith) (omega zarith)) l u);
  shape = s;
  narrow = narrow-past n B e w;
}
  where
    eta : box_of n (λ j. lower B j) (λ j. upper B j) ≡ B
    eta = box-ext n _ B (length-box_of n _ _) e (λ j k. lower-box_of n _ _ j k) (λ j k. upper-box_of n _ _ j k)

pub valid-empty : (n : ℕ) → ValidBox n (empty_box n)
unfolding empty_box
valid-empty n = valid-bounds (length-box_of n _ _) (inl refl)
    (λ j k. rw (lower-box_of n _ _ j k) (between (omega zarith) (omega zarith)))
    (λ j k. rw (upper-box_of n _ _ j k) (between (omega zarith) (omega zarith)))
    (λ j k. rw (lower-box_of n _ _ j k, upper-box_of n _ _ j k) (omega zarith))

-- a box that is not empty and lies inside a valid one is valid: no bound leaves its range, and no variable gets wider
pub valid-inside : {n : ℕ} {P B : List ℤ} → ValidBox n B → NonEmpty n P → Inside n P B → ValidBox n P
valid-inside {n} {P} {B} v p i = valid-bounds p.len (inr p)
    (λ j k. between (≤ℤ-trans (v.range _).above (i.low j k)) (≤ℤ-trans (p.order j k) (≤ℤ-trans (i.high j k) (v.range _).below)))
    (λ j k. between (≤ℤ-trans (v.range _).above (≤ℤ-trans (i.low j k) (p.order j k))) (≤ℤ-trans (i.high j k) (v.range _).below))
    (λ j k. ≤ℤ-trans (narrower (i.low j k) (i.high j k)) (v.narrow j))
  where
    narrower : {l u l' u' : ℤ} → l ≤ℤ l' → u' ≤ℤ u → (u' -ℤ l') ≤ℤ (u -ℤ l)
    narrower {l} {u} {l'} {u'} h k = simp zify (omega zarith)

pub valid-implied : (n : ℕ) (A : List ℤ) (b L : ℤ) (B : List ℤ) → L ≤ℤ b → ValidBox n B → NonEmpty n B → ValidBox n (implied_box n A b L B)
valid-implied n A b L B f v p = valid-inside v (implied-non_empty n A b L B f p) (implied-inside n A b L B)

pub valid-non_empty : {n : ℕ} {B : List ℤ} → ValidBox n B → T (not (is_empty n B)) → NonEmpty n B
valid-non_empty {n} {B} v t = cases v.shape
  where
    cases : (B ≡ empty_box n) ⊎ NonEmpty n B → NonEmpty n B
    cases (inl e) = absurd (T_not (is_empty n B) t (rw e (is_empty_empty n)))
    cases (inr p) = p
