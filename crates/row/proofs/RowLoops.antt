-- What the functions of this crate need of the definitions: ranges of numbers, the cases of a new bound, and the loops.
use Prim.Native.Nat.{◌*◌, ◌+◌, ◌<◌, ◌≤◌, ℕ}
use lib.Dec.{not_T}
use lib.IntN.{◌*ℤ◌, ◌+ℤ◌, ◌-ℤ◌, neg_ℤ, pos, *ℤ_comm, +ℤ_idl, ℤ}
use lib.ListN.{length, set}
use lib.Seq.{get_or-set_other, set-get_or}
use lib.Signed.{◌<ℤ◌, ◌≤ℤ◌, le_z, le_z_yes, lt_z}
use mathlib.Core.Bool.{Bool, ◌&&◌, cond, false, not, true, true≢false}
use mathlib.Core.List.{List}
use mathlib.Core.Logic.{◌⊎◌, inl, inr}
use mathlib.Core.Path.{◌∙◌, ◌≡◌, ap, ap₂, refl, sym}
use mir.Syntax.{w64}
use mir.Val.{SFits}
use native.Mathlib.Omega.{arith}
use Rattle.integer.specs.Division.{ceil_div, floor_div}
use Rattle.integer.specs.Index.{sum}
use Rattle.integer.specs.Order.{eq_z, max_z, min_z}
use Rattle.integer.specs.Range.{Within}
use Rattle.integer.proofs.DivisionLaws.{ceil-le, floor-le}
use Rattle.integer.proofs.IndexLaws.{sum_more, sum-within}
use Rattle.integer.proofs.Parts.{le_z-no, lt-is, lt-isn't, zarith, zify}
use Rattle.integer.proofs.RangeLaws.{within!, within-fits, within_in, within-le, within-lit, within-mul}
use Rattle.integer.proofs.Tests.{T→false, T→true, cond_ind, eq_z→eq, eq→eq_z}
use Rattle.model.specs.Box.{at, lower, upper, with_bounds}
use Rattle.model.specs.Limits.{max_bound, max_coef, max_rhs, max_variables, min_bound, min_coef, min_rhs}
use Rattle.model.specs.Valid.{Between}
use Rattle.model.proofs.BoxLoops.{write_to, write_to-all, write_to-late, write_to-more}
use Rattle.row.specs.Activity.{max_activity, max_term, min_activity, min_term}
use Rattle.row.specs.Moved.{moved_bounds}
use Rattle.row.specs.Propagation.{implied_box, new_lower, new_upper, stays, stays_at}
use Rattle.row.specs.ValidRow.{ImpliesBounds, ImpliesBox, ValidCoefs, ValidRow}
use Rattle.row.proofs.ImpliedBoxLaws.{moved-implied}

not-le : {x y : ℤ} → (x ≤ℤ y → ⊥) → y <ℤ x
not-le {x} {y} h = le_z-no (not_T (le_z x y) (λ t. h (le_z_yes t)))

-- ---- ranges

pub within-between : {m : ℕ} {l u z : ℤ} → Within m l → Within m u → l ≤ℤ z → z ≤ℤ u → Within m z
within-between {m} {l} {u} {z} h k p q = within! m z (omega (zarith, within_in h, within_in k))

bound-within : {z : ℤ} → Between min_bound max_bound z → Within 32_768 z
bound-within h = within-between {l = min_bound} {u = max_bound} (within-lit tt) (within-lit tt) h.above h.below

coef-within : {z : ℤ} → Between min_coef max_coef z → Within 1_000_000 z
coef-within h = within-between {l = min_coef} {u = max_coef} (within-lit tt) (within-lit tt) h.above h.below

pub rhs-within : {z : ℤ} → Between min_rhs max_rhs z → Within 1_000_000_000 z
rhs-within h = within-between {l = min_rhs} {u = max_rhs} (within-lit tt) (within-lit tt) h.above h.below

-- ---- activities

pub term-within : {a l u : ℤ} → Within 1_000_000 a → Within 32_768 l → Within 32_768 u → Within 32_768_000_000 (min_term a l u)
unfolding min_term
term-within {a} {l} {u} h k j =
    cond_ind (lt_z (pos 0) a) (a *ℤ l) (a *ℤ u) (Within 32_768_000_000) (λ _. within-mul h k) (λ _. within-mul h j)

-- the greatest of a × x is the least with the bounds exchanged
pub max_term-is : (a l u : ℤ) → max_term a l u ≡ min_term a u l
unfolding max_term min_term
max_term-is a l u = refl

sum-small : (f : ℕ → ℤ) → ((j : ℕ) → Within 32_768_000_000 (f j)) → (i : ℕ) → i ≤ max_variables → Within 5_000_000_000_000 (sum i f)
sum-small f h i k = within-le (omega arith) (sum-within 32_768_000_000 f h i)

-- what a row's loop adds up: each term is small, so is each sum of them
pub record Terms (n : ℕ) (f : ℕ → ℤ) : Type 0 where
  pub few : n ≤ max_variables
  pub small : (j : ℕ) → Within 32_768_000_000 (f j)

-- one turn: the sum so far and the next term
module _ {n : ℕ} {f : ℕ → ℤ} (g : Terms n f) (i : ℕ) {s t : ℤ} (so_far : s ≡ sum i f) (next : t ≡ f i) where
  pub turn : s +ℤ t ≡ sum (i + 1) f
  turn = ap₂ ◌+ℤ◌ so_far next ∙ sym (sum_more f i)

  pub turn-fits : i < n → SFits w64 (s +ℤ t)
  turn-fits h = rw turn (within-fits w64 tt (sum-small f g.small (i + 1) (omega (arith, g.few))))

module _ {n : ℕ} {A B : List ℤ} (v : ValidCoefs n A B) where
  pub coefs-small : (j : ℕ) → Within 1_000_000 (at A j)
  coefs-small j = coef-within (v.range j)

  pub bounds-small : (i : ℕ) → Within 32_768 (at B i)
  bounds-small i = bound-within (v.box.range i)

  pub min-terms : Terms n (λ j. min_term (at A j) (lower B j) (upper B j))
  min-terms = record { few = v.few; small = λ j. term-within (coefs-small j) (bounds-small (2 * j)) (bounds-small (2 * j + 1)) }

  pub max-terms : Terms n (λ j. max_term (at A j) (lower B j) (upper B j))
  max-terms = record { few = v.few; small = λ j. rw max_term-is (term-within (coefs-small j) (bounds-small (2 * j + 1)) (bounds-small (2 * j))) }

  pub min-activity-small : Within 5_000_000_000_000 (min_activity n A B)
  unfolding min_activity
  min-activity-small = sum-small _ min-terms.small n v.few

  pub max-activity-small : Within 5_000_000_000_000 (max_activity n A B)
  unfolding max_activity
  max-activity-small = sum-small _ max-terms.small n v.few

-- a row that the box can meet has all that its new bounds are found by
pub implies-box : {n : ℕ} {A : List ℤ} {b L : ℤ} {B : List ℤ} → ValidRow n A b B → Within 5_000_000_000_000 L → L ≤ℤ b → ImpliesBox n A b L B
implies-box v small met = record {
  len = v.coefs.len;
  box_len = v.coefs.box.len;
  few = v.coefs.few;
  coefs = coefs-small v.coefs;
  rhs = rhs-within v.rhs;
  activity = small;
  met = met;
  bounds = bounds-small v.coefs;
}

-- ---- new bounds

-- of a coefficient a above 0: u stays exactly if a × u is at most the room that the row leaves
module _ (a b L l u : ℤ) (p : pos 0 <ℤ a) where
  abbrev room : ℤ
  room = b -ℤ L +ℤ a *ℤ l

  upper_is : new_upper a b L l u ≡ min_z u (floor_div room a)
  unfolding new_upper
  upper_is = rw (lt-is p)

  pub upper-stays : (a *ℤ u) ≤ℤ room → new_upper a b L l u ≡ u
  upper-stays h =
      let k : u ≤ℤ floor_div room a = (floor-le room u p).1 (rw (*ℤ_comm u a) h) in
      upper_is ∙ simp zify (omega zarith)

  upper-below : room <ℤ (a *ℤ u) → floor_div room a <ℤ u
  upper-below h = not-le (λ t. let k = (floor-le room u p).0 t in let z : ⊥ = omega (zarith, *ℤ_comm u a) in z)

  pub upper-moves : room <ℤ (a *ℤ u) → new_upper a b L l u ≡ floor_div room a
  upper-moves h = let k = upper-below h in upper_is ∙ simp zify (omega zarith)

  pub upper-small : ImpliesBounds a b L l u → room <ℤ (a *ℤ u) → Within 32_768 (floor_div room a)
  upper-small i h =
      let m = i.met in
      let k : l ≤ℤ floor_div room a = (floor-le room l p).1 (simp zify (omega zarith)) in
      within-between i.low i.high k (omega (zarith, upper-below h))

-- −a in code
pub zero_minus : (a : ℤ) → pos 0 -ℤ a ≡ neg_ℤ a
zero_minus a = +ℤ_idl (neg_ℤ a)

pub g-pos : {a : ℤ} → a <ℤ pos 0 → pos 0 <ℤ neg_ℤ a
g-pos {a} p = simp zify (omega zarith)

-- of a = −g below 0: l stays exactly if g × l is at least what the row needs
module _ (a b L l u : ℤ) (p : a <ℤ pos 0) where
  abbrev need : ℤ
  need = L +ℤ neg_ℤ a *ℤ u -ℤ b

  lower-is : new_lower a b L l u ≡ max_z l (ceil_div need (neg_ℤ a))
  unfolding new_lower
  lower-is = rw (lt-is p)

  pub lower-stays : need ≤ℤ (neg_ℤ a *ℤ l) → new_lower a b L l u ≡ l
  lower-stays h =
      let k : ceil_div need (neg_ℤ a) ≤ℤ l = (ceil-le need l (g-pos p)).1 (rw (*ℤ_comm l (neg_ℤ a)) h) in
      lower-is ∙ simp zify (omega zarith)

  lower-above : (neg_ℤ a *ℤ l) <ℤ need → l <ℤ ceil_div need (neg_ℤ a)
  lower-above h = not-le (λ t. let k = (ceil-le need l (g-pos p)).0 t in let z : ⊥ = omega (zarith, *ℤ_comm l (neg_ℤ a)) in z)

  pub lower-moves : (neg_ℤ a *ℤ l) <ℤ need → new_lower a b L l u ≡ ceil_div need (neg_ℤ a)
  lower-moves h = let k = lower-above h in lower-is ∙ simp zify (omega zarith)

  pub lower-small : ImpliesBounds a b L l u → (neg_ℤ a *ℤ l) <ℤ need → Within 32_768 (ceil_div need (neg_ℤ a))
  lower-small i h =
      let m = i.met in
      let k : ceil_div need (neg_ℤ a) ≤ℤ u = (ceil-le need u (g-pos p)).1 (simp zify (omega zarith)) in
      within-between i.low i.high (omega (zarith, lower-above h)) k

-- ---- the bounds of one variable

pub upper-kept : {a : ℤ} (b L l u : ℤ) → a ≤ℤ pos 0 → new_upper a b L l u ≡ u
unfolding new_upper
upper-kept b L l u h = rw (lt-isn't h)

pub lower-kept : {a : ℤ} (b L l u : ℤ) → pos 0 ≤ℤ a → new_lower a b L l u ≡ l
unfolding new_lower
lower-kept b L l u h = rw (lt-isn't h)

pub eq_z-no : (x y : ℤ) → (x ≡ y → ⊥) → eq_z x y ≡ false
eq_z-no x y h = T→false (eq_z x y) (not_T (eq_z x y) (λ t. h (eq_z→eq x y t)))

pub eq_z-yes : (x y : ℤ) → x ≡ y → eq_z x y ≡ true
eq_z-yes x y e = T→true (eq_z x y) (eq→eq_z x y e)

pub and-false : (p : Bool) → (p && false) ≡ false
and-false true = refl
and-false false = refl

-- the box with the implied bounds of variable j, and whether one moves
abbrev pub tightened_at : ℤ → ℤ → ℤ → List ℤ → ℕ → List ℤ
tightened_at a b L B j = with_bounds B j (new_lower a b L (lower B j) (upper B j)) (new_upper a b L (lower B j) (upper B j))

abbrev pub moves_at : ℤ → ℤ → ℤ → List ℤ → ℕ → Bool
moves_at a b L B j = not (stays a b L (lower B j) (upper B j))

-- what writing the bounds of variable j comes to, and the answer, by which of them differ from the old ones
module _ (a b L : ℤ) (B : List ℤ) (j : ℕ) where
  abbrev low : ℤ
  low = new_lower a b L (lower B j) (upper B j)

  abbrev high : ℤ
  high = new_upper a b L (lower B j) (upper B j)

  abbrev Left : List ℤ → Bool → Type 0
  Left B' moved = (B' ≡ tightened_at a b L B j) × (moved ≡ moves_at a b L B j)

  pub none-moved : low ≡ lower B j → high ≡ upper B j → Left B false
  unfolding with_bounds stays
  none-moved e f = (
    sym (rw (e, f) (ap (λ (P : List ℤ). set P (2 * j + 1) (upper B j)) (set-get_or B (2 * j) (pos 0)) ∙ set-get_or B (2 * j + 1) (pos 0))),
    rw (eq_z-yes low (lower B j) e, eq_z-yes high (upper B j) f),
  )

  pub upper-moved : low ≡ lower B j → (high ≡ upper B j → ⊥) → Left (set B (2 * j + 1) high) true
  unfolding with_bounds stays
  upper-moved e f = (
    sym (rw e (ap (λ (P : List ℤ). set P (2 * j + 1) high) (set-get_or B (2 * j) (pos 0)))),
    rw (eq_z-no high (upper B j) f, and-false (eq_z low (lower B j))),
  )

  pub lower-moved : (low ≡ lower B j → ⊥) → high ≡ upper B j → Left (set B (2 * j) low) true
  unfolding with_bounds stays
  lower-moved e f =
      let same : upper B j ≡ upper (set B (2 * j) low) j = sym (get_or-set_other B (2 * j) (2 * j + 1) low (pos 0) (omega arith)) in (
        sym (ap (set (set B (2 * j) low) (2 * j + 1)) (f ∙ same) ∙ set-get_or (set B (2 * j) low) (2 * j + 1) (pos 0)),
        rw (eq_z-no low (lower B j) e),
      )

-- ---- the bounds of all variables, one after the other

-- a number that a turn raises where its test fails
count : (p : Bool) {m before now : ℕ} {t : Bool} → before ≡ m → t ≡ not p → ((t ≡ true) × (now ≡ before + 1)) ⊎ ((t ≡ false) × (now ≡ before)) → now ≡ m + cond p 0 1
count true e f (inl w) = absurd (true≢false (sym w.0 ∙ f))
count true e f (inr w) = omega arith
count false e f (inl w) = omega arith
count false e f (inr w) = absurd (true≢false (sym f ∙ w.0))

module _ (A : List ℤ) (b L : ℤ) (B : List ℤ) where
  -- each variable's numbers are within the limits
  pub implies-at : {n : ℕ} → ImpliesBox n A b L B → (j : ℕ) → ImpliesBounds (at A j) b L (lower B j) (upper B j)
  implies-at i j = record {
    coef = i.coefs j;
    rhs = i.rhs;
    activity = i.activity;
    met = i.met;
    low = i.bounds (2 * j);
    high = i.bounds (2 * j + 1);
  }

  abbrev lows : ℕ → ℤ
  lows j = new_lower (at A j) b L (lower B j) (upper B j)

  abbrev highs : ℕ → ℤ
  highs j = new_upper (at A j) b L (lower B j) (upper B j)

  -- the box where the loop comes to variable i
  abbrev pub tighten_to : ℕ → List ℤ
  tighten_to i = write_to i lows highs B

  -- variable i has its old bounds there
  pub lower-there : (i : ℕ) → lower (tighten_to i) i ≡ lower B i
  lower-there i = write_to-late lows highs B i (2 * i) (omega arith)

  pub upper-there : (i : ℕ) → upper (tighten_to i) i ≡ upper B i
  upper-there i = write_to-late lows highs B i (2 * i + 1) (omega arith)

  -- a turn: from the box P that it finds, with the coefficient a, it leaves Q
  pub tighten-more : (i : ℕ) {a : ℤ} {P Q : List ℤ} → a ≡ at A i → P ≡ tighten_to i → Q ≡ tightened_at a b L P i → Q ≡ tighten_to (i + 1)
  tighten-more i e f g =
      g ∙ ap₂ (λ (x : ℤ) (R : List ℤ). tightened_at x b L R i) e f
      ∙ ap₂ (λ (l u : ℤ). with_bounds (tighten_to i) i (new_lower (at A i) b L l u) (new_upper (at A i) b L l u)) (lower-there i) (upper-there i)
      ∙ sym (write_to-more lows highs B i)

  pub tighten-all : (n : ℕ) → length B ≡ 2 * n → tighten_to n ≡ implied_box n A b L B
  unfolding implied_box
  tighten-all n l = write_to-all lows highs B n l

  -- how many bounds of the first i of n variables moved
  abbrev pub moved_to : ℕ → ℕ → ℕ
  moved_to n i = moved_bounds i B (implied_box n A b L B)

  pub moved_more : (n i : ℕ) {a : ℤ} {P : List ℤ} {before now : ℕ} {t : Bool} → i < n → a ≡ at A i → P ≡ tighten_to i → before ≡ moved_to n i
      → t ≡ moves_at a b L P i → ((t ≡ true) × (now ≡ before + 1)) ⊎ ((t ≡ false) × (now ≡ before)) → now ≡ moved_to n (i + 1)
  moved_more n i k e f m g w =
      let q = g ∙ ap₂ (λ (x : ℤ) (R : List ℤ). moves_at x b L R i) e f
      ∙ ap₂ (λ (l u : ℤ). not (stays (at A i) b L l u)) (lower-there i) (upper-there i) in
      count (stays_at A b L B i) m q w ∙ sym (moved-implied n A b L B i k)
