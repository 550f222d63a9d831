-- What the checks come to, index by index: a model that passes 3, 5 to 9, 16 and 23, and a table that passes 5 and 10
-- (`fault-none`, `table-fault-none`).
use Rattle.std.specs.Prelude.{◌*◌, ◌<◌, ◌≤◌, ℕ, ◌-ℤ◌, ℤ, get_or, length, ◌≤ℤ◌, List, ◌⊎◌, ◌≡◌}
use Rattle.model.specs.Box.{NonEmpty, at, empty_box, lower, upper}
use Rattle.model.specs.Limits.{max_bound, max_coef, max_rhs, max_rows, max_variables, max_width, min_bound, min_coef, min_rhs}
use Rattle.model.specs.Model.{Model}
use Rattle.model.specs.State.{State}

pub record Between (low high z : ℤ) : Type 0 where
  pub above : low ≤ℤ z
  pub below : z ≤ℤ high

-- a box of n variables, empty or not, with every bound in its range and no variable wider than 4,096
pub record ValidBox (n : ℕ) (B : List ℤ) : Type 0 where
  pub len : length B ≡ 2 * n
  pub range : (i : ℕ) → Between min_bound max_bound (at B i)
  pub shape : (B ≡ empty_box n) ⊎ NonEmpty n B
  pub narrow : (j : ℕ) → (upper B j -ℤ lower B j) ≤ℤ max_width

pub record ValidModel (M : Model) : Type 0 where
  pub some : 0 < M.n
  pub few : M.n ≤ max_variables
  pub few_rows : M.m ≤ max_rows
  pub box : ValidBox M.n M.box
  pub coefs_len : length M.rows.coefs ≡ M.m * M.n
  pub coefs : (i : ℕ) → Between min_coef max_coef (at M.rows.coefs i)
  pub rhs_len : length M.rows.rhs ≡ M.m
  pub rhs : (i : ℕ) → Between min_rhs max_rhs (at M.rows.rhs i)
  pub kinds_len : length M.rows.kinds ≡ M.m
  pub kinds : (i : ℕ) → get_or M.rows.kinds i 0 < 2

pub record ValidTable (n : ℕ) (t : List ℕ) : Type 0 where
  pub len : length t ≡ 4 * (n * n)
  pub bits : (i : ℕ) → get_or t i 0 < 2

pub record ValidState (s : State) : Type 0 where
  pub model : ValidModel s.model
  pub table : ValidTable s.model.n s.table
