-- Where a row can be read in place.
use Rattle.std.specs.Prelude.{◌*◌, ◌+◌, ◌<◌, ◌≤◌, ℕ, ℤ, drop, length, take, List}
use Rattle.model.specs.Rows.{Rows, row_of}
use Rattle.sweep.specs.Steps.{Steps}

-- row r lies in the matrix, whose rows of n coefficients stand one after the other, among the right sides and among the kinds
pub record RowIn (n : ℕ) (A : Rows) (r : ℕ) : Type 0 where
  pub coefs : r * n + n ≤ length A.coefs
  pub rhs : r < length A.rhs
  pub kinds : r < length A.kinds

-- the steps of row r stand in `across` where its coefficients do in the matrix C
pub record StepsIn (n : ℕ) (C : List ℤ) (across : List ℕ) (r : ℕ) : Type 0 where
  pub room : r * n + n ≤ length across
  pub good : Steps n (row_of n C r) (take n (drop (r * n) across))
