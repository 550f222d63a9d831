-- What the loop asks that puts a row down for the bounds that it moved.
use Rattle.std.specs.Prelude.{◌*◌, ◌<◌, ◌≤◌, ℕ, pos, ℤ, length, List, ◌≡◌}
use Rattle.model.specs.Box.{at, lower, upper}
use Rattle.packed_row.specs.Words.{coefs_from}
use Rattle.prepared_model.specs.RowReasons.{Lent}
use Rattle.model.specs.Limits.{max_variables}

-- two boxes that differ only where the row that the words say has a coefficient, and a list
pub record Blaming (ws : List ℕ) (old new : List ℤ) (R : List ℕ) : Type 0 where
  pub few : length ws ≤ max_variables
  pub old_len : length old ≡ 2 * length ws
  pub new_len : length new ≡ 2 * length ws
  pub lent : Lent (length ws) R
  pub elsewhere : (k : ℕ) → k < length ws → at (coefs_from ws 0) k ≡ pos 0 → (lower new k ≡ lower old k) × (upper new k ≡ upper old k)
