-- What one proposed allocation gets against a model (02, C-21): "inside, outside the box at the lowest such variable, or, if inside the
-- box, the lowest row broken". Box and rows are read as `IntegerPoint` reads them, the rows' kinds too; ties are not read (D-56).
use Rattle.std.specs.Prelude.{ℕ, ℤ, Bool, ◌&&◌, cond, List}
use Rattle.std.specs.Int.Signed.{le_z}
use Rattle.integer.specs.Index.{all}
use Rattle.integer.specs.Order.{eq_z}
use Rattle.model.specs.Box.{at, lower, upper}
use Rattle.model.specs.Model.{Model}
use Rattle.model.specs.Point.{dot}
use Rattle.model.specs.Rows.{Row, is_equality, row_at}
use Rattle.semantics.specs.Lowest.{lowest}

pub data Verdict : Type 0 where
  inside : Verdict
  outside_at : (variable : ℕ) → Verdict
  breaks : (row : ℕ) → Verdict

-- variable j of x lies between its bounds
unfoldable pub in_bounds : List ℤ → List ℤ → ℕ → Bool
in_bounds B x j = le_z (lower B j) (at x j) && le_z (at x j) (upper B j)

-- the row holds at x, by its kind (`meets-test`)
unfoldable pub meets : ℕ → Row → List ℤ → Bool
meets n r x = cond (is_equality r) (eq_z (dot n r.coefs x) r.rhs) (le_z (dot n r.coefs x) r.rhs)

unfoldable pub row_met : Model → List ℤ → ℕ → Bool
row_met M x i = meets M.n (row_at M.n M.rows i) x

-- by the box and the rows below k: "The rows are read once, upwards"
unfoldable pub verdict_by : ℕ → Model → List ℤ → Verdict
verdict_by k M x =
    cond (all M.n (in_bounds M.box x))
    (cond (all k (row_met M x)) inside (breaks (lowest k (row_met M x))))
    (outside_at (lowest M.n (in_bounds M.box x)))

-- by the box and every row: inside exactly at the integer points (`inside-point`)
unfoldable pub verdict : Model → List ℤ → Verdict
verdict M x = verdict_by M.m M x
