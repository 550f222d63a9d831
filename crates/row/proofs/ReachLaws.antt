-- When a row moves nothing: exactly if no term is wider than the room b − Lmin. Laws of the greatest of a list of numbers, of the
-- width of a term, and of the one comparison that tells.
use Prim.Native.Nat.{◌*◌, ◌+◌, suc, zero, ℕ}
use lib.Dec.{T}
use lib.IntN.{◌*ℤ◌, ◌+ℤ◌, ◌-ℤ◌, +ℤ_idr, pos, zero-*ℤ, ℤ}
use lib.ListN.{length}
use lib.Signed.{◌<ℤ◌, ◌≤ℤ◌, le_z, le_z_yes, lt_z, ≤ℤ_refl}
use mathlib.Core.Bool.{Bool, ◌&&◌, cond, false, not, true, true≢false}
use mathlib.Core.List.{List}
use mathlib.Core.Logic.{◌⊎◌, inl, inr}
use mathlib.Core.Path.{◌∙◌, ◌≡◌, ap, ap₂, refl, sym}
use mir.Facts.{to_z-of_z}
use mir.Syntax.{w32, w64}
use mir.Val.{SFits, of_z, to_z}
use native.Mathlib.Numerals.{add-one}
use native.Mathlib.Omega.{arith}
use Rattle.integer.specs.Index.{all, sum}
use Rattle.integer.specs.Order.{max_z}
use Rattle.integer.specs.Range.{Within}
use Rattle.integer.proofs.IndexLaws.{sum_more}
use Rattle.std.specs.Int.{int_max}
use Rattle.integer.proofs.Parts.{le-false, le-true, le_is, le-isn't, lt-false, lt-is, lt-isn't, lt-true, zarith, zify}
use Rattle.integer.proofs.RangeLaws.{back, within-fits, within-sub}
use Rattle.integer.proofs.Reading.{read_wide}
use Rattle.integer.proofs.Tests.{T→false, T→true, and_i, and_l, and_r, bool-ext, cond_ind, decide, lt-or-ge, true→T}
use Rattle.model.specs.Box.{at, empty_box, is_empty, lower, upper}
use Rattle.model.proofs.BoxLaws.{max-i, max-l, max-r, ≤ℤ-antisymm, ≤ℤ-trans}
use Rattle.row.specs.Activity.{greatest, min_activity, min_term, term_width, widest_term}
use Rattle.row.specs.Moved.{moved_bounds}
use Rattle.row.specs.Outcome.{changed, infeasible, is_unchanged, unchanged}
use Rattle.row.specs.Propagation.{PropagatedRow, implied_box, new_lower, new_upper, propagate_row, row_moves, stays, stays_at}
use Rattle.row.specs.ValidRow.{ValidCoefs, ValidRow}
use Rattle.row.proofs.ActivityLaws.{max_term-nonpos, max_term-pos, min_term-nonpos, min_term-pos}
use Rattle.row.proofs.BoundLaws.{eq→stays, le-new_upper, lower-le-new_lower, new_lower-le, new_lower-nonneg, new_upper-le-upper, new_upper-nonpos, stays→eq}
use Rattle.row.proofs.RowLoops.{bounds-small, coefs-small, max_term-is, min-activity-small, rhs-within, term-within}
use Rattle.row.proofs.ImpliedBoxLaws.{stays-box}
use Rattle.row.proofs.MovedLaws.{moved_same}
use Rattle.row.proofs.PropagationLaws.{propagate-row-ind}

-- ---- the greatest of some numbers

-- one number more, as a loop takes it
pub greatest-more : (f : ℕ → ℤ) (i : ℕ) → greatest (i + 1) f ≡ max_z (greatest i f) (f i)
unfolding greatest
greatest-more f i = rw add-one

pub greatest-nonneg : (n : ℕ) (f : ℕ → ℤ) → pos 0 ≤ℤ greatest n f
unfolding greatest
greatest-nonneg zero f = ≤ℤ_refl (pos 0)
greatest-nonneg (suc n) f = ≤ℤ-trans (greatest-nonneg n f) (max-l (greatest n f) (f n))

max-zero : {x : ℤ} → pos 0 ≤ℤ x → max_z x (pos 0) ≡ x
max-zero {x} h = simp zify (omega zarith)

-- a 0 more changes nothing
pub greatest-zero : (f : ℕ → ℤ) (i : ℕ) → f i ≡ pos 0 → greatest i f ≡ greatest (i + 1) f
greatest-zero f i e = sym (greatest-more f i ∙ rw e (max-zero (greatest-nonneg i f)))

max-le : (x y z : ℤ) → le_z (max_z x y) z ≡ (le_z x z && le_z y z)
max-le x y z = bool-ext (le_z (max_z x y) z) (le_z x z && le_z y z)
    (λ t. let h : max_z x y ≤ℤ z = le_z_yes t in and_i (le_z x z) (le_z y z) (≤ℤ-trans (max-l x y) h).le (≤ℤ-trans (max-r x y) h).le)
    (λ t. (max-i x y z (le_z_yes (and_l (le_z x z) (le_z y z) t)) (le_z_yes (and_r (le_z x z) (le_z y z) t))).le)

-- it is at most z, which is not below 0, exactly if each number is
pub greatest-le : (n : ℕ) (f : ℕ → ℤ) (z : ℤ) → pos 0 ≤ℤ z → le_z (greatest n f) z ≡ all n (λ j. le_z (f j) z)
unfolding greatest all
greatest-le zero f z h = le_is h
greatest-le (suc n) f z h = max-le (greatest n f) (f n) z ∙ ap (λ (p : Bool). p && le_z (f n) z) (greatest-le n f z h)

greatest-within : (m : ℕ) (f : ℕ → ℤ) → ((j : ℕ) → Within m (f j)) → (n : ℕ) → Within m (greatest n f)
unfolding greatest max_z
greatest-within m f h zero = record { abs = omega arith }
greatest-within m f h (suc n) = cond_ind (le_z (greatest n f) (f n)) (f n) (greatest n f) (Within m) (λ _. h n) (λ _. greatest-within m f h n)

all-cong : (n : ℕ) (f g : ℕ → Bool) → ((j : ℕ) → f j ≡ g j) → all n f ≡ all n g
unfolding all
all-cong zero f g h = refl
all-cong (suc n) f g h = cc (all-cong n f g h, h n)

-- ---- the width of one term

-- as code finds it: the greatest of a × x is the least with the bounds exchanged
pub term_width-is : (a l u : ℤ) → min_term a u l -ℤ min_term a l u ≡ term_width a l u
unfolding term_width
term_width-is a l u = ap (λ (z : ℤ). z -ℤ min_term a l u) (sym (max_term-is a l u))

pub term_width-within : {a l u : ℤ} → Within 1_000_000 a → Within 32_768 l → Within 32_768 u → Within 65_536_000_000 (term_width a l u)
term_width-within {a} {l} {u} h k j = rw (← term_width-is a l u) (within-sub (term-within h j k) (term-within h k j))

pub term_width-zero : (l u : ℤ) → term_width (pos 0) l u ≡ pos 0
unfolding term_width
term_width-zero l u = rw (max_term-nonpos (pos 0) l u (≤ℤ_refl (pos 0)), min_term-nonpos (pos 0) l u (≤ℤ_refl (pos 0)), zero-*ℤ l, zero-*ℤ u)

pub min_term-zero : (l u : ℤ) → min_term (pos 0) l u ≡ pos 0
min_term-zero l u = min_term-nonpos (pos 0) l u (≤ℤ_refl (pos 0)) ∙ zero-*ℤ u

-- the terms of a row and their widths; a coefficient of 0 adds nothing to the least sum and none is wider for it
abbrev pub min_term_at : List ℤ → List ℤ → ℕ → ℤ
min_term_at A B j = min_term (at A j) (lower B j) (upper B j)

abbrev pub width_at : List ℤ → List ℤ → ℕ → ℤ
width_at A B j = term_width (at A j) (lower B j) (upper B j)

module _ (A B : List ℤ) (j : ℕ) (z : at A j ≡ pos 0) where
  pub least_zero : sum j (min_term_at A B) ≡ sum (j + 1) (min_term_at A B)
  least_zero = sym (sum_more (min_term_at A B) j ∙ ap (λ (x : ℤ). sum j (min_term_at A B) +ℤ x) (rw z (min_term-zero (lower B j) (upper B j))) ∙ +ℤ_idr (sum j (min_term_at A B)))

  pub widest-zero : greatest j (width_at A B) ≡ greatest (j + 1) (width_at A B)
  widest-zero = greatest-zero (width_at A B) j (rw z (term_width-zero (lower B j) (upper B j)))

pub widest-small : {n : ℕ} {A B : List ℤ} → ValidCoefs n A B → Within 65_536_000_000 (widest_term n A B)
unfolding widest_term
widest-small {n} {A} {B} v = greatest-within 65_536_000_000 (width_at A B)
    (λ j. term_width-within (coefs-small v j) (bounds-small v (2 * j)) (bounds-small v (2 * j + 1))) n

-- a variable keeps its bounds exactly if its term is not wider than the room
module _ (a b L l u : ℤ) (met : L ≤ℤ b) where
  width-pos : pos 0 <ℤ a → term_width a l u ≡ a *ℤ u -ℤ a *ℤ l
  unfolding term_width
  width-pos s = rw (max_term-pos a l u s, min_term-pos a l u s)

  width-nonpos : a ≤ℤ pos 0 → term_width a l u ≡ a *ℤ l -ℤ a *ℤ u
  unfolding term_width
  width-nonpos s = rw (max_term-nonpos a l u s, min_term-nonpos a l u s)

  kept : T (stays a b L l u) → (pos 0 <ℤ a) ⊎ (a ≤ℤ pos 0) → (a <ℤ pos 0) ⊎ (pos 0 ≤ℤ a) → term_width a l u ≤ℤ (b -ℤ L)
  kept t (inl s) _ =
      let e : u ≤ℤ new_upper a b L l u = rw (stays→eq a b L l u t).1 (≤ℤ_refl u) in
      let q = ((le-new_upper a b L l u u).0 e).1 s in
      rw (width-pos s) (simp zify (omega (zarith, simp zify at q)))
  kept t (inr s) (inl r) =
      let e : new_lower a b L l u ≤ℤ l = rw (stays→eq a b L l u t).0 (≤ℤ_refl l) in
      let q = ((new_lower-le a b L l u l).0 e).1 r in
      rw (width-nonpos s) (simp zify (omega (zarith, simp zify at q)))
  kept t (inr s) (inr r) = rw (≤ℤ-antisymm s r, term_width-zero l u) (simp zify (omega zarith))

  keeps : term_width a l u ≤ℤ (b -ℤ L) → (pos 0 <ℤ a) ⊎ (a ≤ℤ pos 0) → T (stays a b L l u)
  keeps h (inl s) =
      let w = rw (width-pos s) at h in
      eq→stays a b L l u (new_lower-nonneg a b L l u (omega zarith)) (≤ℤ-antisymm (new_upper-le-upper a b L l u)
      ((le-new_upper a b L l u u).1 (≤ℤ_refl u, λ _. simp zify (omega (zarith, simp zify at w)))))
  keeps h (inr s) =
      let w = rw (width-nonpos s) at h in
      eq→stays a b L l u (≤ℤ-antisymm ((new_lower-le a b L l u l).1 (≤ℤ_refl l, λ _. simp zify (omega (zarith, simp zify at w)))) (lower-le-new_lower a b L l u))
      (new_upper-nonpos a b L l u s)

  pub stays-is : stays a b L l u ≡ le_z (term_width a l u) (b -ℤ L)
  stays-is = bool-ext (stays a b L l u) (le_z (term_width a l u) (b -ℤ L))
      (λ t. (kept t (lt-or-ge (pos 0) a) (lt-or-ge a (pos 0))).le) (λ t. keeps (le_z_yes t) (lt-or-ge (pos 0) a))

-- ---- the row

module _ (n : ℕ) (A : List ℤ) (b : ℤ) (B : List ℤ) where
  abbrev L : ℤ
  L = min_activity n A B

  pub all_stay : L ≤ℤ b → all n (stays_at A b L B) ≡ le_z (widest_term n A B) (b -ℤ L)
  unfolding widest_term
  all_stay met =
      all-cong n _ _ (λ j. stays-is (at A j) b L (lower B j) (upper B j) met)
      ∙ sym (greatest-le n (width_at A B) (b -ℤ L) (simp zify (omega zarith)))

  module _ (some : is_empty n B ≡ false) where
    -- nothing moves: the row is met, and every variable keeps its bounds
    pub staying : length B ≡ 2 * n → widest_term n A B ≤ℤ (b -ℤ L) → propagate_row n A b B ≡ record { outcome = unchanged; moved = 0; box = B }
    unfolding propagate_row widest_term
    staying len h =
        let z = ≤ℤ-trans (greatest-nonneg n (width_at A B)) h in
        let met : L ≤ℤ b = simp zify (omega (zarith, simp zify at z)) in
        let e : all n (stays_at A b L B) ≡ true = all_stay met ∙ le_is h in
        rw (some, lt-isn't met, e, stays-box n A b L B len (true→T (all n (stays_at A b L B)) e), moved_same n B)

    -- no point of the box meets the row
    pub unmet : b <ℤ L → propagate_row n A b B ≡ record { outcome = infeasible; moved = 0; box = empty_box n }
    unfolding propagate_row
    unmet h = rw (some, lt-is h)

    -- something moves: the row is met, and some term is wider than the room
    pub moving : L ≤ℤ b → (b -ℤ L) <ℤ widest_term n A B
        → propagate_row n A b B ≡ record { outcome = changed; moved = moved_bounds n B (implied_box n A b L B); box = implied_box n A b L B }
    unfolding propagate_row
    moving met h = rw (some, lt-isn't met, all_stay met, le-isn't h)

    -- one comparison tells whether the row moves anything: where it is not met, b − L is below 0 and so below every width
    pub moves-test : length B ≡ 2 * n → lt_z (b -ℤ L) (widest_term n A B) ≡ row_moves n A b B
    unfolding row_moves is_unchanged
    moves-test len = go (lt-or-ge b L) (lt-or-ge (b -ℤ L) (widest_term n A B))
      where
        go : (b <ℤ L) ⊎ (L ≤ℤ b) → ((b -ℤ L) <ℤ widest_term n A B) ⊎ (widest_term n A B ≤ℤ (b -ℤ L)) → lt_z (b -ℤ L) (widest_term n A B) ≡ row_moves n A b B
        go (inl k) (inl h) = rw (lt-is h, unmet k)
        go (inr k) (inl h) = rw (lt-is h, moving k h)
        go k (inr h) = rw (lt-isn't h, staying len h)

  module _ (none : is_empty n B ≡ true) where
    pub on-empty : propagate_row n A b B ≡ record { outcome = infeasible; moved = 0; box = B }
    unfolding propagate_row
    on-empty = rw none

    pub moves-empty : row_moves n A b B ≡ true
    unfolding row_moves is_unchanged
    moves-empty = rw on-empty

  -- what the answer no says
  pub moves_not : length B ≡ 2 * n → row_moves n A b B ≡ false → propagate_row n A b B ≡ record { outcome = unchanged; moved = 0; box = B }
  unfolding row_moves is_unchanged
  moves_not len = propagate-row-ind n A b B (λ v. not (is_unchanged v.outcome) ≡ false → v ≡ record { outcome = unchanged; moved = 0; box = B })
      (λ _ e. cc) (λ _ _ e. cc) (λ _ _. go (decide (all n (stays_at A b L B))))
    where
      go : T (all n (stays_at A b L B)) ⊎ T (not (all n (stays_at A b L B)))
          → not (is_unchanged (cond (all n (stays_at A b L B)) unchanged changed)) ≡ false
          → ◌≡◌ {A = PropagatedRow} (record { outcome = cond (all n (stays_at A b L B)) unchanged changed; moved = moved_bounds n B (implied_box n A b L B); box = implied_box n A b L B }) (record { outcome = unchanged; moved = 0; box = B })
      go (inl t) e = rw (T→true (all n (stays_at A b L B)) t, stays-box n A b L B len t, moved_same n B)
      go (inr t) e = absurd (true≢false (rw (T→false (all n (stays_at A b L B)) t) at e))

-- ---- the numbers in code

-- what a function found, as bits
module _ {n : ℕ} {A : List ℤ} {b : ℤ} {B : List ℤ} (v : ValidRow n A b B) {least widest : ℤ} (e : least ≡ min_activity n A B) (f : widest ≡ widest_term n A B) where
  pub rhs-read : to_z w64 (of_z w64 (to_z w32 (of_z w32 b))) ≡ b
  rhs-read = read_wide (within-fits w32 tt (rhs-within v.rhs))

  pub least-read : to_z w64 (of_z w64 least) ≡ min_activity n A B
  least-read = rw e (back w64 tt (min-activity-small v.coefs))

  pub widest-read : to_z w64 (of_z w64 widest) ≡ widest_term n A B
  widest-read = rw f (back w64 tt (widest-small v.coefs))

  abbrev pub slack : ℤ
  slack = to_z w64 (of_z w64 (to_z w32 (of_z w32 b))) -ℤ to_z w64 (of_z w64 least)

  slack-is : slack ≡ b -ℤ min_activity n A B
  slack-is = ap₂ ◌-ℤ◌ rhs-read least-read

  pub slack-fits : SFits w64 slack
  slack-fits = rw slack-is (within-fits w64 tt (within-sub (rhs-within v.rhs) (min-activity-small v.coefs)))

  pub slack-read : to_z w64 (of_z w64 slack) ≡ b -ℤ min_activity n A B
  slack-read = to_z-of_z {w = w64} slack-fits ∙ slack-is

-- std's `max` makes the opposite test
pub max-is : (x y : ℤ) → int_max x y ≡ max_z x y
unfolding max_z
max-is x y = go (lt_z y x) (le_z x y) refl refl
  where
    go : (a b : Bool) → lt_z y x ≡ a → le_z x y ≡ b → cond a x y ≡ cond b y x
    go true true e f = absurd (let l = lt-true y x e in let k = le-true x y f in omega zarith)
    go true false e f = refl
    go false true e f = refl
    go false false e f = absurd (let l = lt-false y x e in let k = le-false x y f in omega zarith)
