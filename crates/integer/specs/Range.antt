-- |z| ≤ m: the range of a whole number, from which its sums and products are shown to fit a machine's integer.
use Rattle.std.specs.Prelude.{◌≤◌, ℕ, nat_abs, ℤ}

pub record Within (m : ℕ) (z : ℤ) : Type 0 where
  pub abs : nat_abs z ≤ m
