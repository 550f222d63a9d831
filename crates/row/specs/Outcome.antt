-- How a call on one row ends, for all three of them.
use Rattle.std.specs.Prelude.{Bool, false, true}

-- infeasible: 01's None; changed: its Narrowed, Sharpened, Dropped; unchanged: its Same
pub data Outcome : Type 0 where
  infeasible changed unchanged : Outcome

unfoldable pub is_infeasible : Outcome → Bool
is_infeasible infeasible = true
is_infeasible changed = false
is_infeasible unchanged = false

unfoldable pub is_changed : Outcome → Bool
is_changed infeasible = false
is_changed changed = true
is_changed unchanged = false

-- 01's Same is the one answer after which nothing is other than before
unfoldable pub is_unchanged : Outcome → Bool
is_unchanged infeasible = false
is_unchanged changed = false
is_unchanged unchanged = true
