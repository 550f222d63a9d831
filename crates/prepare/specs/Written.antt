-- What `prepare` writes into a workspace: the head, a box that every call may be compared with, all rows to look at, and the model's rows
-- with the sets of those that hear of each variable.
use Rattle.std.specs.Prelude.{◌%◌, ◌<◌, ◌≤◌, ℕ, get_or, length, List, ◌≡◌}
use Rattle.model.specs.Limits.{bound_size}
use Rattle.hearers.specs.Column.{Column}
use Rattle.model.specs.Box.{at}
use Rattle.model.specs.Rows.{Rows, row_of}
use Rattle.packed_row.specs.Words.{coefs_from, rhs_of}
use Rattle.prepared_model.specs.Layout.{fall_of, our_mark, rise_of, row_words, rows_in, rhs_word_of, variables_of, workspace_len}

-- the workspace W was written for the rows A. The box is [0, 0] of every variable: with all rows to look at, any box would do.
pub record Written (n m : ℕ) (A : Rows) (W : List ℕ) : Type 0 where
  pub len : length W ≡ workspace_len
  pub mark : get_or W 0 0 ≡ our_mark
  pub variables : variables_of W ≡ n
  pub row_count : rows_in W ≡ m
  pub dirty : (i : ℕ) → 4 ≤ i → i < 8 → get_or W i 0 ≡ 4_294_967_295
  pub box : (i : ℕ) → 8 ≤ i → i < 264 → get_or W i 0 ≡ bound_size
  pub sides : (r : ℕ) → r < m → (rhs_of (rhs_word_of W r) ≡ at A.rhs r) × (rhs_word_of W r % 2 ≡ get_or A.kinds r 0)
  pub columns : (j : ℕ) → j < n → Column n m A.coefs A.kinds j (rise_of W j) (fall_of W j)
  pub rows : (r : ℕ) → r < m → coefs_from (row_words n W r) 0 ≡ row_of n A.coefs r
