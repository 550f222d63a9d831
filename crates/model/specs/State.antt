-- The state that calls work on, and what a call can change of it.
use Rattle.std.specs.Prelude.{ℕ, ℤ, List}
use Rattle.model.specs.Model.{Model, model_of}
use Rattle.model.specs.Rows.{Row, Rows, set_row}

-- "The state is the model and the table."
pub record State : Type 0 where
  pub model : Model
  pub table : List ℕ

-- n, m, the rows and the lists that the buffers hold; a call that is lent no table has the empty list there, and its checks never look at it
unfoldable pub state_of : ℕ → ℕ → List ℤ → Rows → List ℕ → State
state_of n m B A t = record { model = model_of n m B A; table = t }

-- another box and another table
unfoldable pub with_box : State → List ℤ → List ℕ → State
with_box s B t = let M = s.model in record { model = record { n = M.n; m = M.m; box = B; rows = M.rows }; table = t }

-- row i becomes r
unfoldable pub with_row : State → ℕ → Row → State
with_row s i r =
    let M = s.model in
    record { model = record { n = M.n; m = M.m; box = M.box; rows = set_row M.n M.rows i r }; table = s.table }
