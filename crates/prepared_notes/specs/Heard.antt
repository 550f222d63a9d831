-- What the sets of a workspace say of a row, of two boxes: they are those of the rows that hear of a variable only where the workspace is
-- prepared, so nothing here asks for that.
use Rattle.std.specs.Prelude.{◌*◌, ◌<◌, ◌≤◌, ℕ, pos, ℤ, length, ◌≤ℤ◌, List, ◌≡◌}
use Rattle.model.specs.Box.{at, lower, upper}
use Rattle.packed_row.specs.Words.{coefs_from}
use Rattle.prepared_model.specs.Layout.{fall_of, rise_of, workspace_len}
use Rattle.row_set.specs.Bits.{bit_at}
use Rattle.model.specs.Limits.{max_variables}

-- row r is not among those that hear a bound rise from old to new, or fall
pub record Deaf (rise fall : List ℕ) (r : ℕ) (old new : ℤ) : Type 0 where
  pub up : bit_at rise r ≡ 1 → new ≤ℤ old
  pub down : bit_at fall r ≡ 1 → old ≤ℤ new

-- both bounds of variable j
pub record Missed (W : List ℕ) (r : ℕ) (P Q : List ℤ) (j : ℕ) : Type 0 where
  pub low : Deaf (rise_of W j) (fall_of W j) r (lower P j) (lower Q j)
  pub high : Deaf (rise_of W j) (fall_of W j) r (upper P j) (upper Q j)

-- two boxes that differ only where the row that the words say has a coefficient
pub record Noting (ws W : List ℕ) (old new : List ℤ) (D : List ℕ) : Type 0 where
  pub few : length ws ≤ max_variables
  pub len : length W ≡ workspace_len
  pub set : length D ≡ 4
  pub old_len : length old ≡ 2 * length ws
  pub new_len : length new ≡ 2 * length ws
  pub elsewhere : (k : ℕ) → k < length ws → at (coefs_from ws 0) k ≡ pos 0 → (lower new k ≡ lower old k) × (upper new k ≡ upper old k)
