-- The model (01: "There are n variables, 1 to 128, and m rows, 0 to 120.").
use Rattle.std.specs.Prelude.{ℕ, ℤ, List}
use Rattle.model.specs.Rows.{Rows}

pub record Model : Type 0 where
  pub n : ℕ
  pub m : ℕ
  pub box : List ℤ
  pub rows : Rows

-- the model that lent buffers hold: the box B and the rows A
abbrev pub model_of : ℕ → ℕ → List ℤ → Rows → Model
model_of n m B A = record { n = n; m = m; box = B; rows = A }
