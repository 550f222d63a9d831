-- The checks of a model in memory and of a table, by the numbers of 01 and 02 and in their order (`Places`). Each looks at everything
-- that the call is lent before the next one does.
use Rattle.std.specs.Prelude.{◌*◌, ◌/◌, ℕ, eqb, leb, ltb, ◌-ℤ◌, ℤ, get_or, length, Bool, ◌&&◌, ◌||◌, cond, List, [], ◌++◌, ◌∷◌}
use Rattle.std.specs.Int.Signed.{le_z}
use Rattle.integer.specs.Index.{all}
use Rattle.model.specs.Box.{at, is_empty, lower, upper}
use Rattle.model.specs.Limits.{max_bound, max_coef, max_rhs, max_rows, max_variables, max_width, min_bound, min_coef, min_rhs}
use Rattle.model.specs.Model.{Model}
use Rattle.model.specs.Rows.{Rows}

-- a check: what must be so, and the number by which the call is refused where it is not
pub data Check : Type 0 where
  must : Bool → ℕ → Check

-- the number of the first check that fails, 0 where there is none (01: "The first that applies to the call is the answer")
unfoldable pub first : List Check → ℕ
first [] = 0
first (must ok number ∷ checks) = cond ok (first checks) number

-- every number of xs lies between low and high
unfoldable pub in_range : ℤ → ℤ → List ℤ → Bool
in_range low high xs = all (length xs) (λ i. le_z low (at xs i) && le_z (at xs i) high)

-- no lower bound is above its upper
unfoldable pub ordered : List ℤ → Bool
ordered B = all (length B / 2) (λ j. le_z (lower B j) (upper B j))

-- no u − l is over 4,096; the empty box's are all −1
unfoldable pub narrow : List ℤ → Bool
narrow B = all (length B / 2) (λ j. le_z (upper B j -ℤ lower B j) max_width)

-- every byte is 0 or 1
unfoldable pub bits : List ℕ → Bool
bits t = all (length t) (λ i. ltb (get_or t i 0) 2)

-- the table, where the call is lent one: a probe, a call list, the rounds
pub data LentTable : Type 0 where
  none : LentTable
  table : List ℕ → LentTable

-- 3. n is not 1 to 128, or m is over 120.
unfoldable pub size_checks : ℕ → ℕ → List Check
size_checks n m = must (leb 1 n && leb n max_variables && leb m max_rows) 3 ∷ []

-- 5. A lent buffer has not exactly the length needed: 2n bounds, m × n coefficients, m right sides and (02, C-14) m kinds.
unfoldable pub length_checks : Model → List Check
length_checks M =
    must (eqb (length M.box) (2 * M.n) && eqb (length M.rows.coefs) (M.m * M.n) && eqb (length M.rows.rhs) M.m
    && eqb (length M.rows.kinds) M.m) 5 ∷ []

-- 5, of the table: "The implication table has 4n² bytes".
unfoldable pub table_length_checks : ℕ → LentTable → List Check
table_length_checks n none = []
table_length_checks n (table t) = must (eqb (length t) (4 * (n * n))) 5 ∷ []

-- 6. A bound is outside its range. 7. A lower bound is above its upper in a box that is not void.
-- "23, a width above 4,096, straight after check 7" (02, C-22).
unfoldable pub box_checks : ℕ → List ℤ → List Check
box_checks n B = must (in_range min_bound max_bound B) 6 ∷ must (is_empty n B || ordered B) 7 ∷ must (narrow B) 23 ∷ []

-- Those of the box, then: 8. A coefficient is outside its range. 9. A right side is outside its range. "16, a kind byte above 1,
-- after check 9" (02, C-14).
unfoldable pub number_checks : ℕ → List ℤ → Rows → List Check
number_checks n B A =
    box_checks n B
    ++ must (in_range min_coef max_coef A.coefs) 8
    ∷ must (in_range min_rhs max_rhs A.rhs) 9
    ∷ must (bits A.kinds) 16
    ∷ []

-- 10. A table byte is neither 0 nor 1.
unfoldable pub table_byte_checks : LentTable → List Check
table_byte_checks none = []
table_byte_checks (table t) = must (bits t) 10 ∷ []

-- The one chain of checks: of the model M, of the table where one is lent, and of whatever else the call is lent, which `fits` where
-- every other buffer has its length (5, with the others). A call's own checks come after it.
unfoldable pub model_checks : Model → LentTable → (fits : Bool) → List Check
model_checks M t fits =
    size_checks M.n M.m
    ++ (length_checks M ++ (table_length_checks M.n t ++ (must fits 5 ∷ (number_checks M.n M.box M.rows ++ table_byte_checks t))))

-- the number that a model in memory is refused by, 0 where it is accepted
unfoldable pub model_fault : Model → LentTable → (fits : Bool) → ℕ
model_fault M t fits = first (model_checks M t fits)
