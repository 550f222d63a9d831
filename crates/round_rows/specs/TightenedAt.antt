-- What is asked where a coefficient is looked at to be tightened.
use Rattle.std.specs.Prelude.{◌*◌, ◌+◌, ◌<◌, ◌≤◌, ℕ, ℤ, length, List}
use Rattle.integer.specs.Range.{Within}
use Rattle.model.specs.Box.{at}
use Rattle.model.specs.Limits.{coef_size}
use Rattle.model.specs.Rows.{Rows, row_at}

-- variable k of row r lies in the buffers, and the numbers of the test are in range
pub record TightenedAt (n : ℕ) (B : List ℤ) (A : Rows) (r k : ℕ) (most : ℤ) : Type 0 where
  pub variable : k < n
  pub box : 2 * k + 1 < length B
  pub coefs : r * n + n ≤ length A.coefs
  pub rhs : r < length A.rhs
  pub coef : Within coef_size (at (row_at n A r).coefs k)
  pub small : Within 5_000_000_000_000 most
