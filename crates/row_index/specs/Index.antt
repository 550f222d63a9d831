-- What is known of the rows that were propagated before: where each row's next nonzero coefficient is, and each column's signs. Both are made
-- where they are first needed: a 0 in front of a row's steps, or of a column's signs, says that they are not known yet.
use Rattle.std.specs.Prelude.{◌*◌, ◌+◌, ◌<◌, ◌≤◌, ℕ, pos, ℤ, get_or, length, cond, List, ◌≡◌}
use Rattle.std.specs.Int.Signed.{lt_z}
use Rattle.model.specs.Box.{at}
use Rattle.model.specs.Limits.{max_variables}

-- 1 above 0, 2 below, 3 for 0
unfoldable pub sign_of : ℤ → ℕ
sign_of a = cond (lt_z (pos 0) a) 1 (cond (lt_z a (pos 0)) 2 3)

-- from variable j of the row that starts at `start`, the step to the next variable passes over zeros only and stays in the row
pub record GoodStep (n : ℕ) (C : List ℤ) (start : ℕ) (S : List ℕ) (j : ℕ) : Type 0 where
  pub forward : 0 < get_or S (start + j) 0
  pub within : j + get_or S (start + j) 0 ≤ n
  pub zeros : (k : ℕ) → j < k → k < j + get_or S (start + j) 0 → at C (start + k) ≡ pos 0

-- the steps, row by row: those of a row that are known are good
pub record RowSteps (n m : ℕ) (C : List ℤ) (across : List ℕ) : Type 0 where
  pub some : 0 < n
  pub few : n ≤ max_variables
  pub matrix : m * n ≤ length C
  pub room : m * n ≤ length across
  pub right : (r : ℕ) → r < m → (get_or across (r * n) 0 ≡ 0 → ⊥) → (j : ℕ) → j < n → GoodStep n C (r * n) across j

-- the signs, column by column: those of a column that are known are right
pub record ColumnSigns (n m : ℕ) (C : List ℤ) (signs : List ℕ) : Type 0 where
  pub some : 0 < length signs
  pub matrix : m * n ≤ length C
  pub room : n * m ≤ length signs
  pub right : (j : ℕ) → j < n → (get_or signs (j * m) 0 ≡ 0 → ⊥) → (r : ℕ) → r < m → get_or signs (j * m + r) 0 ≡ sign_of (at C (r * n + j))

pub record Index (n m : ℕ) (C : List ℤ) (across signs : List ℕ) : Type 0 where
  pub rows : RowSteps n m C across
  pub columns : ColumnSigns n m C signs
