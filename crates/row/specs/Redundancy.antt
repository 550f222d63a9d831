-- Remove a redundant row (01's drop; 000, 1.1 and 1.3, "identification of redundancy").
use Rattle.std.specs.Prelude.{ℕ, pos, ℤ, replicate, ◌&&◌, cond, List}
use Rattle.std.specs.Int.Signed.{le_z}
use Rattle.integer.specs.Order.{eq_z}
use Rattle.model.specs.Box.{is_empty, same_list}
use Rattle.row.specs.Activity.{max_activity}
use Rattle.row.specs.Outcome.{changed, infeasible, unchanged}
use Rattle.row.specs.Tightening.{NewRow}

-- the row  0 x0 + 0 x1 + .. ≤ 0
unfoldable pub zero_row : ℕ → List ℤ
zero_row n = replicate n (pos 0)

-- "if Lmax ≤ b, all its coefficients and b become 0. Answer Dropped if a number changed, else Same."
unfoldable pub remove_redundant_row : ℕ → List ℤ → ℤ → List ℤ → NewRow
remove_redundant_row n A b B =
    cond (is_empty n B) (record { outcome = infeasible; coefs = A; rhs = b })
    (cond (le_z (max_activity n A B) b)
    (record { outcome = cond (eq_z b (pos 0) && same_list A (zero_row n)) unchanged changed; coefs = zero_row n; rhs = pos 0 })
    (record { outcome = unchanged; coefs = A; rhs = b }))
