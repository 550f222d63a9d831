-- A row of a prepared model is propagated.
use Rattle.std.specs.Prelude.{◌<◌, ◌≤◌, ℕ, ℤ, length, List, ◌≡◌}
use Rattle.model.specs.Box.{NonEmpty}
use Rattle.model.specs.Valid.{ValidBox}
use Rattle.packed_row.specs.Words.{Readable}
use Rattle.prepared_model.specs.Layout.{workspace_len}
use Rattle.model.specs.Limits.{max_rows, max_variables}

-- a box that is not empty, which the rows know, and a set of rows to look at
pub record LookingAt (ws W : List ℕ) (r : ℕ) (B seen : List ℤ) (D : List ℕ) : Type 0 where
  pub words : Readable ws B
  pub non_empty : NonEmpty (length ws) B
  pub known : seen ≡ B
  pub len : length W ≡ workspace_len
  pub set : length D ≡ 4
  pub row : r < 128

-- a workspace of n variables and m rows, and a box of them
pub record Sized (n m : ℕ) (W : List ℕ) (B : List ℤ) : Type 0 where
  pub some : 0 < n
  pub few : n ≤ max_variables
  pub few_rows : m ≤ max_rows
  pub len : length W ≡ workspace_len
  pub box : ValidBox n B

-- one that is not empty, which the rows know, and a set of rows to look at
pub record Looking (n m : ℕ) (W : List ℕ) (B seen : List ℤ) (D : List ℕ) : Type 0 where
  pub sized : Sized n m W B
  pub non_empty : NonEmpty n B
  pub known : seen ≡ B
  pub set : length D ≡ 4
