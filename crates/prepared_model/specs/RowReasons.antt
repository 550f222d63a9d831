-- Which row moved a bound last: "Also told, in a lent list that may be empty: which variables' bounds moved, and for each the row that
-- moved it last" (D-61). Number i of the list is of number i of the box: 2j the lower bound of variable j, 2j + 1 the upper one.
use Rattle.std.specs.Prelude.{◌*◌, ℕ, ℤ, get_or, length, cond, List, ◌⊎◌, ◌≡◌}
use Rattle.integer.specs.Order.{eq_z}
use Rattle.model.specs.Box.{at}
use Rattle.row.specs.Outcome.{is_infeasible}
use Rattle.row.specs.Propagation.{PropagatedRow}
use Rattle.prepared_model.specs.Layout.{list_to}

-- the reason of number i, after row r left the box Q of B
unfoldable pub reason_at : ℕ → List ℤ → List ℤ → List ℕ → ℕ → ℕ
reason_at r B Q R i = cond (eq_z (at B i) (at Q i)) (get_or R i 0) r

-- row r moved the bounds in which B and Q differ
unfoldable pub blame : ℕ → List ℤ → List ℤ → List ℕ → List ℕ
blame r B Q R = list_to (length R) (reason_at r B Q R)

-- row r came to v in the box B. One that is infeasible moves nothing: "the box is void as 01 says"
unfoldable pub row_reasons : ℕ → List ℤ → PropagatedRow → List ℕ → List ℕ
row_reasons r B v R = cond (is_infeasible v.outcome) R (blame r B v.box R)

-- a lent list: empty, or a number for each bound of n variables
pub record Lent (n : ℕ) (R : List ℕ) : Type 0 where
  pub len : (length R ≡ 0) ⊎ (length R ≡ 2 * n)
