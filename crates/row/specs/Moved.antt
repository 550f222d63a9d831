-- How many bounds a row's propagation moved (02, C-11).
use Rattle.std.specs.Prelude.{◌+◌, suc, zero, ℕ, ℤ, cond, List}
use Rattle.integer.specs.Order.{eq_z}
use Rattle.model.specs.Box.{lower, upper}

-- 1 where the two numbers differ
unfoldable pub differs : ℤ → ℤ → ℕ
differs a b = cond (eq_z a b) 0 1

-- "The number is that of bounds differing before and after each visit": of the first n variables of the boxes B and P
unfoldable pub moved_bounds : ℕ → List ℤ → List ℤ → ℕ
moved_bounds zero B P = 0
moved_bounds (suc n) B P = moved_bounds n B P + (differs (lower B n) (lower P n) + differs (upper B n) (upper P n))
