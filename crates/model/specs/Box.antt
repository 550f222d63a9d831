-- The box: a flat list of bounds, l and u of each variable in turn (01: "Variable j has whole bounds l ≤ u ..; together they
-- are the box"). A number past a list's end reads as 0; the checks rule that out before any rule reads it.
use Rattle.std.specs.Prelude.{◌*◌, ◌+◌, ◌<◌, suc, zero, ℕ, ◌-ℤ◌, pos, ℤ, get_or, length, set, ◌≤ℤ◌, Bool, ◌&&◌, false, true, List, [], ◌∷◌, ◌≡◌}
use Rattle.integer.specs.Index.{sum}
use Rattle.integer.specs.Order.{eq_z, max_z, min_z}

-- number i of a list
abbrev pub at : List ℤ → ℕ → ℤ
at xs i = get_or xs i (pos 0)

-- l and u of variable j
abbrev pub lower : List ℤ → ℕ → ℤ
lower B j = get_or B (2 * j) (pos 0)

abbrev pub upper : List ℤ → ℕ → ℤ
upper B j = get_or B (2 * j + 1) (pos 0)

-- the box B with l and u for the bounds of variable j
unfoldable pub with_bounds : List ℤ → ℕ → ℤ → ℤ → List ℤ
with_bounds B j l u = set (set B (2 * j) l) (2 * j + 1) u

-- the box of n variables with the bounds f j and g j
unfoldable pub box_of : ℕ → (ℕ → ℤ) → (ℕ → ℤ) → List ℤ
box_of zero f g = []
box_of (suc n) f g = f 0 ∷ g 0 ∷ box_of n (λ j. f (suc j)) (λ j. g (suc j))

-- two lists have the same numbers
unfoldable pub same_list : List ℤ → List ℤ → Bool
same_list [] [] = true
same_list [] (y ∷ ys) = false
same_list (x ∷ xs) [] = false
same_list (x ∷ xs) (y ∷ ys) = eq_z x y && same_list xs ys

-- The empty box (01's void box): "has every l = 1 and every u = 0; it is the only box with l above u, and holds no point".
unfoldable pub empty_box : ℕ → List ℤ
empty_box n = box_of n (λ j. pos 1) (λ j. pos 0)

unfoldable pub is_empty : ℕ → List ℤ → Bool
is_empty n B = same_list B (empty_box n)

-- A free binary variable (01: "A variable is free 0-1 when its bounds are now 0 and 1").
unfoldable pub is_free : List ℤ → ℕ → Bool
is_free B k = eq_z (lower B k) (pos 0) && eq_z (upper B k) (pos 1)

-- "the smallest [box] that contains both sides"
unfoldable pub hull : ℕ → List ℤ → List ℤ → List ℤ
hull n P Q = box_of n (λ j. min_z (lower P j) (lower Q j)) (λ j. max_z (upper P j) (upper Q j))

-- the total width of a box, the sum of u − l
unfoldable pub width : ℕ → List ℤ → ℤ
width n B = sum n (λ j. upper B j -ℤ lower B j)

-- a box of n variables that is not empty: l ≤ u
pub record NonEmpty (n : ℕ) (B : List ℤ) : Type 0 where
  pub len : length B ≡ 2 * n
  pub order : (j : ℕ) → j < n → lower B j ≤ℤ upper B j

-- Q's bounds lie within B's, variable by variable. Nothing is said of l ≤ u or of the lengths: where it matters, Q is `NonEmpty` too.
pub record Inside (n : ℕ) (Q B : List ℤ) : Type 0 where
  pub low : (j : ℕ) → j < n → lower B j ≤ℤ lower Q j
  pub high : (j : ℕ) → j < n → upper Q j ≤ℤ upper B j
