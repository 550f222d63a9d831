-- The calls that may change one row, by its kind (02, C-14, "Equality rows"): each is the call on a ≤ row where the row is one, and
-- what 02 says where it is an = row.
use Rattle.std.specs.Prelude.{ℕ, pos, ℤ, ◌&&◌, cond, List}
use Rattle.integer.specs.Order.{eq_z}
use Rattle.model.specs.Box.{is_empty}
use Rattle.model.specs.Rows.{Row, is_equality}
use Rattle.row.specs.Activity.{max_activity, min_activity}
use Rattle.row.specs.Outcome.{Outcome, changed, infeasible, unchanged}
use Rattle.row.specs.Redundancy.{remove_redundant_row, zero_row}
use Rattle.row.specs.Tightening.{tighten_coefficient}

-- a row after a call that may change it
pub record ChangedRow : Type 0 where
  pub outcome : Outcome
  pub row : Row

-- "Sharpen answers Same on it"; None on the empty box, as all calls do
unfoldable pub tighten_row_of : ℕ → Row → List ℤ → ℕ → ChangedRow
tighten_row_of n r B k =
    cond (is_equality r)
    (record { outcome = cond (is_empty n B) infeasible unchanged; row = r })
    (let q = tighten_coefficient n r.coefs r.rhs B k in
    record { outcome = q.outcome; row = record { coefs = q.coefs; rhs = q.rhs; kind = r.kind } })

-- "Drop zeroes it, and sets its kind to 0, only when Lmin and Lmax both equal b." The kind changes, so the answer is Dropped.
unfoldable pub remove_row_of : ℕ → Row → List ℤ → ChangedRow
remove_row_of n r B =
    cond (is_equality r)
    (cond (is_empty n B) (record { outcome = infeasible; row = r })
    (cond (eq_z (min_activity n r.coefs B) r.rhs && eq_z (max_activity n r.coefs B) r.rhs)
    (record { outcome = changed; row = record { coefs = zero_row n; rhs = pos 0; kind = 0 } })
    (record { outcome = unchanged; row = r })))
    (let q = remove_redundant_row n r.coefs r.rhs B in
    record { outcome = q.outcome; row = record { coefs = q.coefs; rhs = q.rhs; kind = r.kind } })
