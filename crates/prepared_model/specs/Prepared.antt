-- The invariant of a workspace: what `prepare` makes it, and what every prepared call leaves it.
use Rattle.std.specs.Prelude.{◌<◌, ◌≤◌, ℕ, get_or, length, List, ◌≡◌}
use Rattle.model.specs.Box.{NonEmpty}
use Rattle.model.specs.Limits.{max_rows, max_variables}
use Rattle.model.specs.Model.{model_of}
use Rattle.model.specs.Rows.{Rows}
use Rattle.model.specs.Valid.{ValidModel}
use Rattle.row_set.specs.Readers.{Calm, Hearers}
use Rattle.prepared_model.specs.Layout.{box_in, decode, dirty_of, fall_of, our_mark, rise_of, rows_in, variables_of, workspace_len}

-- a workspace whose length and head are ours: all that a prepared call asks of it, by check 5
pub record Ours (W : List ℕ) : Type 0 where
  pub len : length W ≡ workspace_len
  pub mark : get_or W 0 0 ≡ our_mark
  pub some : 0 < variables_of W
  pub few : variables_of W ≤ max_variables
  pub few_rows : rows_in W ≤ max_rows

-- it holds the rows A of a valid model, the sets of rows that hear of each variable, and a box that is not empty in which every row
-- moves nothing but those to look at
pub record Prepared (W : List ℕ) (A : Rows) : Type 0 where
  pub ours : Ours W
  pub rows : decode (variables_of W) (rows_in W) W ≡ A
  pub box : ValidModel (model_of (variables_of W) (rows_in W) (box_in (variables_of W) W) A)
  pub non_empty : NonEmpty (variables_of W) (box_in (variables_of W) W)
  pub hearers : Hearers (variables_of W) (rows_in W) A (rise_of W) (fall_of W)
  pub calm : Calm (variables_of W) (rows_in W) A (box_in (variables_of W) W) (dirty_of W)
