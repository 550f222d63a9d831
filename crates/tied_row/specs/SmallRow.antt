-- What putting j as k or as 1 − k into a row asks of it: both variables are its own, and its numbers are within their limits, so that
-- no sum overflows.
use Rattle.std.specs.Prelude.{◌*◌, ◌<◌, ℕ, ℤ, length, List, ◌≡◌}
use Rattle.integer.specs.Range.{Within}
use Rattle.model.specs.Box.{at}
use Rattle.model.specs.Limits.{coef_size, rhs_size}
use Rattle.model.specs.Rows.{Rows}

pub record SmallRow (A : List ℤ) (b : ℤ) (k j : ℕ) : Type 0 where
  pub variable : k < length A
  pub replaced : j < length A
  pub coefs : (i : ℕ) → Within coef_size (at A i)
  pub rhs : Within rhs_size b

-- the same of all rows
pub record SmallRows (n m : ℕ) (A : Rows) : Type 0 where
  pub coefs_len : length A.coefs ≡ m * n
  pub rhs_len : length A.rhs ≡ m
  pub coefs : (i : ℕ) → Within coef_size (at A.coefs i)
  pub rhs : (i : ℕ) → Within rhs_size (at A.rhs i)
