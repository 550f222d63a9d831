-- Words that say a row: one more from its end, and the number beside its right side.
use Prim.Native.Nat.{◌*◌, ◌+◌, ◌-◌, ◌/◌, ◌%◌, ◌<◌, ◌≤◌, suc, zero, ℕ}
use borrow.Author.Count.{below_more}
use lib.Arith.{digits_div, digits_mod}
use lib.IntN.{◌+ℤ◌, pos, ℤ}
use lib.ListN.{drop, length, set, take}
use lib.Seq.{drop-cons}
use mathlib.Core.List.{List, [], ◌∷◌}
use mathlib.Core.Path.{◌∙◌, ◌≡◌, refl}
use native.Mathlib.Nat.{mul-le-mul, mul-le-mul_right, suc-mul}
use native.Mathlib.Numerals.{add-one}
use native.Mathlib.Omega.{arith}
use Rattle.integer.specs.Range.{Within}
use Rattle.integer.proofs.IndexLaws.{get_d-all}
use Rattle.integer.proofs.Parts.{add_parts, sub_parts, zarith}
use Rattle.integer.proofs.RangeLaws.{within! }
use Rattle.model.specs.Box.{at}
use Rattle.model.specs.Limits.{max_coef, max_rhs, min_coef, min_rhs}
use Rattle.model.specs.Rows.{row_of}
use Rattle.model.specs.Valid.{Between}
use Rattle.model.proofs.RowsLaws.{at-row_of, length-row_of}
use Rattle.packed_row.specs.Words.{coef_of, coefs_from, rhs_of}
use Rattle.packed_row.proofs.PackedLaws.{coef-inside, rhs-inside}
use Rattle.prepared_model.specs.Layout.{row_words}
use Rattle.prepared_model.specs.SameBut.{SameBut}
use Rattle.prepared_model.proofs.KeptLaws.{same-before, same-join}

-- a coefficient and the zeros that follow it, read back
module _ (x zeros : ℕ) (a : ℤ) (b : Between min_coef max_coef a) (e : pos x ≡ a +ℤ pos 1_000_000) where
  pub coef-small : x ≤ 2_000_000
  coef-small = omega (zarith, b, e, add_parts a (pos 1_000_000))

  pub coef-packed : zeros < 128 → coef_of (x * 128 + zeros) ≡ a
  coef-packed h =
      let d : (x * 128 + zeros) / 128 ≡ x = digits_div x h in
      coef-inside (x * 128 + zeros) (omega (arith, d, coef-small))
      ∙ rw d (omega (zarith, e, add_parts a (pos 1_000_000), sub_parts (pos x) (pos 1_000_000)))

pub within-rhs : {z : ℤ} → Between min_rhs max_rhs z → Within 1_000_000_000 z
within-rhs {z} b = within! 1_000_000_000 z (omega zarith)

-- a right side and its kind, read back
module _ (x kind : ℕ) (z : ℤ) (b : Between min_rhs max_rhs z) (e : pos x ≡ z +ℤ pos 1_000_000_000) where
  pub rhs-small : x ≤ 2_000_000_000
  rhs-small = omega (zarith, b, e, add_parts z (pos 1_000_000_000))

  pub rhs-packed : kind < 2 → (rhs_of (x * 2 + kind) ≡ z) × ((x * 2 + kind) % 2 ≡ kind)
  rhs-packed h =
      let d : (x * 2 + kind) / 2 ≡ x = digits_div x h in (
        rhs-inside (x * 2 + kind) (omega (arith, d, rhs-small))
            ∙ rw d (omega (zarith, e, add_parts z (pos 1_000_000_000), sub_parts (pos x) (pos 1_000_000_000))),
        digits_mod x h,
      )

-- the part of a list from p on, where its first number is written
part-set : (X : List ℕ) (p k w : ℕ) → p < length X → take (suc k) (drop p (set X p w)) ≡ w ∷ take k (drop (suc p) X)
part-set [] p k w h = absurd (let z : ⊥ = omega arith in z)
part-set (x ∷ X) zero k w h = refl
part-set (x ∷ X) (suc p) k w h = part-set X p k w (omega arith)

-- the words from p + 1 on say C, however many of its first zeros are skipped; one word more is written before them
module _ (X : List ℕ) (p k w zeros : ℕ) (C : List ℤ) (h : p < length X) (g : coefs_from (take k (drop (p + 1) X)) zeros ≡ C) where
  part : take (k + 1) (drop p (set X p w)) ≡ w ∷ take k (drop (p + 1) X)
  part = rw (add-one k, add-one p) (part-set X p k w h)

  packed_more : (a : ℤ) → coef_of w ≡ a → w % 128 ≡ zeros → coefs_from (take (k + 1) (drop p (set X p w))) 0 ≡ a ∷ C
  unfolding coefs_from
  packed_more a e f = rw (part, e, f, g)

  packed_zero : coefs_from (take (k + 1) (drop p (set X p w))) (zeros + 1) ≡ pos 0 ∷ C
  unfolding coefs_from
  packed_zero = rw (part, add-one zeros, g)

-- the same of a row C at a place, from its coefficient j on
module _ (X : List ℕ) (C : List ℤ) (place j w zeros : ℕ) (t : 0 < j) (l : j ≤ length C) (room : place + length C ≤ length X)
    (g : coefs_from (take (length C - j) (drop (place + j) X)) zeros ≡ drop j C) where
  rest : drop (j - 1) C ≡ at C (j - 1) ∷ drop j C
  rest =
      let e : suc (j - 1) ≡ j = omega arith in
      drop-cons C (j - 1) (pos 0) (omega arith) ∙ rw e

  next : place + (j - 1) + 1 ≡ place + j
  next = omega arith

  longer : length C - (j - 1) ≡ length C - j + 1
  longer = omega arith

  pub row_more : coef_of w ≡ at C (j - 1) → w % 128 ≡ zeros
      → coefs_from (take (length C - (j - 1)) (drop (place + (j - 1)) (set X (place + (j - 1)) w))) 0 ≡ drop (j - 1) C
  row_more e f = rw (rest, longer) (packed_more X (place + (j - 1)) (length C - j) w zeros (drop j C) (omega arith) (rw next g) (at C (j - 1)) e f)

  pub row_zero : at C (j - 1) ≡ pos 0
      → coefs_from (take (length C - (j - 1)) (drop (place + (j - 1)) (set X (place + (j - 1)) w))) (zeros + 1) ≡ drop (j - 1) C
  row_zero e = rw (rest, longer, e) (packed_zero X (place + (j - 1)) (length C - j) w zeros (drop j C) (omega arith) (rw next g))

-- row r of a matrix, and the place of its words
module _ (n m r : ℕ) (C : List ℤ) (few : n ≤ 128) (few_rows : m ≤ 120) (len : length C ≡ m * n) (h : r < m) where
  pub row_room : (r * n + n ≤ length C) × (length C ≤ 15_360)
  row_room =
      let all : m * n ≤ 120 * 128 = mul-le-mul few_rows few in
      (omega (arith, mul-le-mul_right n h, suc-mul r n), omega arith)

  pub length-row : length (row_of n C r) ≡ n
  length-row = length-row_of n m C r len h

  pub row-range : ((i : ℕ) → Between min_coef max_coef (at C i)) → (j : ℕ) → Between min_coef max_coef (at (row_of n C r) j)
  row-range b =
      get_d-all (row_of n C r) (pos 0) (Between min_coef max_coef) (record { above = omega zarith; below = omega zarith })
      (λ j k. rw (at-row_of n C r j (omega (arith, length-row))) (b (r * n + j)))

-- the rows below r were written; so is row r, and the others stay
module _ (n r : ℕ) (C : List ℤ) (W X Y : List ℕ) (room : 1_408 + r * n + n ≤ length W) (s : SameBut 1_408 (1_408 + r * n) W X)
    (t : SameBut (1_408 + r * n) (1_408 + r * n + n) X Y) where
  pub rows_same : SameBut 1_408 (1_408 + (r + 1) * n) W Y
  rows_same =
      let e : 1_408 + r * n + n ≡ 1_408 + (r + 1) * n = rw (add-one r) (omega (arith, suc-mul r n)) in
      rw e at (same-join (omega arith) (omega arith) s t)

  pub rows_more : ((q : ℕ) → q < r → coefs_from (row_words n X q) 0 ≡ row_of n C q) → coefs_from (row_words n Y r) 0 ≡ row_of n C r
      → (q : ℕ) → q < r + 1 → coefs_from (row_words n Y q) 0 ≡ row_of n C q
  unfolding row_words
  rows_more f g = below_more _ r before g
    where
      before : (q : ℕ) → q < r → coefs_from (take n (drop (1_408 + q * n) Y)) 0 ≡ row_of n C q
      before q k =
          let e : 1_408 + q * n + n ≤ 1_408 + r * n = omega (arith, mul-le-mul_right n k, suc-mul q n) in
          rw (same-before t (1_408 + q * n) n e (omega (arith, s.len))) (f q k)
