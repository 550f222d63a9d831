-- The lesser and the greater of two whole numbers, and the test that two are equal.
use Rattle.std.specs.Prelude.{ℤ, Bool, ◌&&◌, cond}
use Rattle.std.specs.Int.Signed.{le_z}

unfoldable pub min_z : ℤ → ℤ → ℤ
min_z a b = cond (le_z a b) a b

unfoldable pub max_z : ℤ → ℤ → ℤ
max_z a b = cond (le_z a b) b a

unfoldable pub eq_z : ℤ → ℤ → Bool
eq_z a b = le_z a b && le_z b a
