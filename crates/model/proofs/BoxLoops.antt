-- What a loop that writes the bounds of one variable after the other leaves.
use Prim.Native.Nat.{◌*◌, ◌+◌, ◌<◌, ◌≤◌, suc, zero, ℕ}
use lib.IntN.{pos, ℤ}
use lib.ListN.{length, length-set, set}
use lib.Seq.{get_or-set_other, get_or-set_same}
use mathlib.Core.List.{List}
use mathlib.Core.Path.{◌∙◌, ◌≡◌, refl, sym}
use native.Mathlib.Decide.{ℕ_discrete}
use native.Mathlib.Numerals.{add-one}
use native.Mathlib.Omega.{arith}
use Rattle.model.specs.Box.{at, box_of, lower, upper, with_bounds}
use Rattle.model.proofs.BoxLaws.{box-ext, length-box_of, lower-box_of, upper-box_of}

-- ---- new bounds for one variable

pub length-with_bounds : (B : List ℤ) (k : ℕ) (l u : ℤ) → length (with_bounds B k l u) ≡ length B
unfolding with_bounds
length-with_bounds B k l u = length-set (set B (2 * k) l) (2 * k + 1) u ∙ length-set B (2 * k) l

-- the numbers of other variables
pub with_bounds-other : (B : List ℤ) (k : ℕ) (l u : ℤ) (q : ℕ) → (q ≡ 2 * k → ⊥) → (q ≡ 2 * k + 1 → ⊥) → at (with_bounds B k l u) q ≡ at B q
unfolding with_bounds
with_bounds-other B k l u q h g =
    get_or-set_other (set B (2 * k) l) (2 * k + 1) q u (pos 0) g ∙ get_or-set_other B (2 * k) q l (pos 0) h

module _ (B : List ℤ) (k : ℕ) (l u : ℤ) (h : 2 * k + 1 < length B) where
  pub lower-with_bounds : lower (with_bounds B k l u) k ≡ l
  unfolding with_bounds
  lower-with_bounds =
      get_or-set_other (set B (2 * k) l) (2 * k + 1) (2 * k) u (pos 0) (omega arith) ∙ get_or-set_same B (2 * k) l (pos 0) (omega arith)

  pub upper-with_bounds : upper (with_bounds B k l u) k ≡ u
  unfolding with_bounds
  upper-with_bounds = get_or-set_same (set B (2 * k) l) (2 * k + 1) u (pos 0) (omega (arith, length-set B (2 * k) l))

-- ---- the loop: the bounds f j and g j for each variable j below i

unfoldable pub write_to : ℕ → (ℕ → ℤ) → (ℕ → ℤ) → List ℤ → List ℤ
write_to zero f g B = B
write_to (suc i) f g B = with_bounds (write_to i f g B) i (f i) (g i)

module _ (f g : ℕ → ℤ) (B : List ℤ) where
  pub write_to-more : (i : ℕ) → write_to (i + 1) f g B ≡ with_bounds (write_to i f g B) i (f i) (g i)
  unfolding write_to
  write_to-more i = rw add-one

  pub length-write_to : (i : ℕ) → length (write_to i f g B) ≡ length B
  unfolding write_to
  length-write_to zero = refl
  length-write_to (suc i) = length-with_bounds (write_to i f g B) i (f i) (g i) ∙ length-write_to i

  -- the numbers that it has not come to
  pub write_to-late : (i q : ℕ) → 2 * i ≤ q → at (write_to i f g B) q ≡ at B q
  unfolding write_to
  write_to-late zero q h = refl
  write_to-late (suc i) q h =
      with_bounds-other (write_to i f g B) i (f i) (g i) q (omega arith) (omega arith) ∙ write_to-late i q (omega arith)

  -- those that it has written
  pub write_to-lower : (n i j : ℕ) → length B ≡ 2 * n → i ≤ n → j < i → lower (write_to i f g B) j ≡ f j
  unfolding write_to
  write_to-lower n zero j l k h = absurd (let z : ⊥ = omega arith in z)
  write_to-lower n (suc i) j l k h = go (ℕ_discrete j i) (λ (q : j < i). write_to-lower n i j l (omega arith) q)
    where
      go : Dec (j ≡ i) → (j < i → lower (write_to i f g B) j ≡ f j) → lower (with_bounds (write_to i f g B) i (f i) (g i)) j ≡ f j
      go (yes e) r = rw e (lower-with_bounds (write_to i f g B) i (f i) (g i) (omega (arith, length-write_to i)))
      go (no e) r = with_bounds-other (write_to i f g B) i (f i) (g i) (2 * j) (omega arith) (omega arith) ∙ r (omega arith)

  pub write_to-upper : (n i j : ℕ) → length B ≡ 2 * n → i ≤ n → j < i → upper (write_to i f g B) j ≡ g j
  unfolding write_to
  write_to-upper n zero j l k h = absurd (let z : ⊥ = omega arith in z)
  write_to-upper n (suc i) j l k h = go (ℕ_discrete j i) (λ (q : j < i). write_to-upper n i j l (omega arith) q)
    where
      go : Dec (j ≡ i) → (j < i → upper (write_to i f g B) j ≡ g j) → upper (with_bounds (write_to i f g B) i (f i) (g i)) j ≡ g j
      go (yes e) r = rw e (upper-with_bounds (write_to i f g B) i (f i) (g i) (omega (arith, length-write_to i)))
      go (no e) r = with_bounds-other (write_to i f g B) i (f i) (g i) (2 * j + 1) (omega arith) (omega arith) ∙ r (omega arith)

  -- at the end it is the box of the two index functions
  pub write_to-all : (n : ℕ) → length B ≡ 2 * n → write_to n f g B ≡ box_of n f g
  write_to-all n l = box-ext n _ _ (length-write_to n ∙ l) (length-box_of n f g)
      (λ j k. write_to-lower n n j l (omega arith) k ∙ sym (lower-box_of n f g j k))
      (λ j k. write_to-upper n n j l (omega arith) k ∙ sym (upper-box_of n f g j k))
