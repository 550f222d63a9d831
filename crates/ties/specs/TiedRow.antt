-- One row, and all rows, with j put as k (w = 0) or as 1 − k (w = 1).
use Rattle.std.specs.Prelude.{◌*◌, suc, zero, ℕ, eqb, ◌+ℤ◌, ◌-ℤ◌, pos, ℤ, set, Bool, ◌&&◌, cond, List}
use Rattle.std.specs.Int.Signed.{le_z}
use Rattle.integer.specs.Index.{all}
use Rattle.model.specs.Box.{at}
use Rattle.model.specs.Limits.{max_coef, max_rhs, min_coef, min_rhs}
use Rattle.model.specs.Model.{Model}
use Rattle.model.specs.Rows.{Row, Rows, row_of, splice}
use Rattle.model.specs.State.{State}

-- the coefficient of k: a_k + a_j, or a_k − a_j
unfoldable pub tied_coef : ℕ → ℤ → ℤ → ℤ
tied_coef w ak aj = cond (eqb w 0) (ak +ℤ aj) (ak -ℤ aj)

-- "puts that into every row, zeroes j's column"
unfoldable pub tied_coefs : ℕ → ℕ → ℕ → List ℤ → List ℤ
tied_coefs k j w A = set (set A k (tied_coef w (at A k) (at A j))) j (pos 0)

-- the right side: b, or b − a_j
unfoldable pub tied_rhs : ℕ → ℕ → List ℤ → ℤ → ℤ
tied_rhs j w A b = cond (eqb w 0) b (b -ℤ at A j)

-- the row, of either kind, which it keeps
abbrev pub tied_row : ℕ → ℕ → ℕ → Row → Row
tied_row k j w r = record { coefs = tied_coefs k j w r.coefs; rhs = tied_rhs j w r.coefs r.rhs; kind = r.kind }

-- no "coefficient or right side would leave its limits": in one row, and in all
unfoldable pub row_fits : ℕ → ℕ → ℕ → List ℤ → ℤ → Bool
row_fits k j w A b =
    (le_z min_coef (tied_coef w (at A k) (at A j)) && le_z (tied_coef w (at A k) (at A j)) max_coef)
    && (le_z min_rhs (tied_rhs j w A b) && le_z (tied_rhs j w A b) max_rhs)

unfoldable pub rows_fit : ℕ → ℕ → ℕ → Model → Bool
rows_fit k j w M = all M.m (λ i. row_fits k j w (row_of M.n M.rows.coefs i) (at M.rows.rhs i))

-- ---- the rows below i are put so, the others not yet: what a loop over the rows has made

unfoldable pub tie_coefs_to : ℕ → ℕ → ℕ → ℕ → ℕ → List ℤ → List ℤ
tie_coefs_to zero n k j w C = C
tie_coefs_to (suc i) n k j w C = splice (tie_coefs_to i n k j w C) (tied_coefs k j w (row_of n C i)) (i * n)

unfoldable pub tie_rhs_to : ℕ → ℕ → ℕ → ℕ → List ℤ → List ℤ → List ℤ
tie_rhs_to zero n j w C R = R
tie_rhs_to (suc i) n j w C R = set (tie_rhs_to i n j w C R) i (tied_rhs j w (row_of n C i) (at R i))

-- no kind changes
unfoldable pub tie_rows_to : ℕ → ℕ → ℕ → ℕ → ℕ → Rows → Rows
tie_rows_to i n k j w A = record { coefs = tie_coefs_to i n k j w A.coefs; rhs = tie_rhs_to i n j w A.coefs A.rhs; kinds = A.kinds }

unfoldable pub tie_to : ℕ → ℕ → ℕ → ℕ → State → State
tie_to i k j w s =
    let M = s.model in record { model = record { n = M.n; m = M.m; box = M.box; rows = tie_rows_to i M.n k j w M.rows }; table = s.table }
