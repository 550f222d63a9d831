-- A model prepared for many calls, in a lent workspace of 32-bit numbers: where everything stands.
--      0 a number that says it is ours, 1 n, 2 m, 3 nothing
--      4 the rows that may move a bound of the box below, as a set
--      8 the last box, 2n numbers: each bound + 32,768
--    264 the right side and the kind of each row in one number
--    384 of each variable the rows that hear a bound of it rise (4 numbers), and those that hear one fall (4 numbers)
--  1,408 the rows, one after the other, n numbers each (`packed_row`)
-- 16,768 the end
use Rattle.std.specs.Prelude.{◌*◌, ◌+◌, ◌/◌, ◌%◌, suc, zero, ℕ, eqb, leb, ltb, ◌-ℤ◌, pos, ℤ, drop, get_or, length, take, Bool, ◌&&◌, List, [], ◌∷◌}
use Rattle.model.specs.Box.{at}
use Rattle.model.specs.Limits.{bound_count, bound_size, max_rows, max_variables}
use Rattle.model.specs.Rows.{Row, Rows}
use Rattle.packed_row.specs.Words.{coefs_from, rhs_of, row_of_words}

abbrev pub workspace_len : ℕ
workspace_len = 16_768

-- "AST1", as bytes
abbrev pub our_mark : ℕ
our_mark = 827_609_921

abbrev pub variables_of : List ℕ → ℕ
variables_of W = get_or W 1 0

abbrev pub rows_in : List ℕ → ℕ
rows_in W = get_or W 2 0

-- its length and head are ours
unfoldable pub is_ours : List ℕ → Bool
is_ours W =
    eqb (length W) workspace_len && eqb (get_or W 0 0) our_mark && ltb 0 (variables_of W) && leb (variables_of W) max_variables && leb (rows_in W) max_rows

-- the rows to look at
unfoldable pub dirty_of : List ℕ → List ℕ
dirty_of W = take 4 (drop 4 W)

-- the rows that hear of variable j
unfoldable pub rise_of : List ℕ → ℕ → List ℕ
rise_of W j = take 4 (drop (384 + 8 * j) W)

unfoldable pub fall_of : List ℕ → ℕ → List ℕ
fall_of W j = take 4 (drop (388 + 8 * j) W)

-- any number says a bound in range
unfoldable pub bound_of : ℕ → ℤ
bound_of w = pos (w % bound_count) -ℤ pos bound_size

-- f 0, f 1, .., f (k − 1)
unfoldable pub list_to : {A : Type 0} → ℕ → (ℕ → A) → List A
list_to zero f = []
list_to (suc k) f = f 0 ∷ list_to k (λ i. f (suc i))

-- the box that is kept
unfoldable pub box_in : ℕ → List ℕ → List ℤ
box_in n W = list_to (2 * n) (λ i. bound_of (get_or W (8 + i) 0))

-- the numbers of row r
unfoldable pub row_words : ℕ → List ℕ → ℕ → List ℕ
row_words n W r = take n (drop (1_408 + r * n) W)

abbrev pub rhs_word_of : List ℕ → ℕ → ℕ
rhs_word_of W r = get_or W (264 + r) 0

-- row r
unfoldable pub row_in : ℕ → List ℕ → ℕ → Row
row_in n W r = row_of_words (row_words n W r) (rhs_word_of W r)

-- all rows, as a model has them
unfoldable pub decode : ℕ → ℕ → List ℕ → Rows
decode n m W =
    record {
      coefs = list_to (m * n) (λ q. at (coefs_from (row_words n W (q / n)) 0) (q % n));
      rhs = list_to m (λ r. rhs_of (rhs_word_of W r));
      kinds = list_to m (λ r. rhs_word_of W r % 2);
    }
