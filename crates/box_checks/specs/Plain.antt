-- What one loop asks of a box: where it is so of every variable, the three checks of the bounds are passed.
use Rattle.std.specs.Prelude.{ℕ, ◌+ℤ◌, ℤ, Bool, ◌&&◌, List}
use Rattle.std.specs.Int.Signed.{le_z}
use Rattle.integer.specs.Order.{min_z}
use Rattle.model.specs.Box.{lower, upper}
use Rattle.model.specs.Limits.{max_bound, max_width, min_bound}

-- the bounds of variable j are in range, in order, and no more than 4,096 apart
abbrev pub plain_at : List ℤ → ℕ → Bool
plain_at B j = le_z min_bound (lower B j) && le_z (lower B j) (upper B j) && le_z (upper B j) (min_z (lower B j +ℤ max_width) max_bound)
