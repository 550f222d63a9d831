-- The checks of one field of a call, as the code makes them.
use Rattle.std.specs.Prelude.{ℕ, leb, ltb, ℤ, ◌&&◌, ◌||◌, List, [], ◌++◌, ◌∷◌}
use Rattle.model.specs.Box.{is_empty, is_free}
use Rattle.model.specs.Checks.{Check, must}
use Rattle.semantics.specs.CallChecks.{max_budget}

unfoldable pub row_checks : ℕ → ℕ → List Check
row_checks m row = must (ltb row m) 12 ∷ []

unfoldable pub variable_checks : ℕ → List ℤ → ℕ → List Check
variable_checks n B variable = must (ltb variable n) 13 ∷ must (is_empty n B || is_free B variable) 14 ∷ []

unfoldable pub budget_checks : ℕ → List Check
budget_checks budget = must (leb 1 budget && leb budget max_budget) 15 ∷ []

-- of a probe: its variable, then its budget
unfoldable pub probe_checks : ℕ → List ℤ → ℕ → ℕ → List Check
probe_checks n B variable budget = variable_checks n B variable ++ budget_checks budget

-- of a coefficient tightening: its row, then its variable
unfoldable pub tightening_checks : ℕ → ℕ → List ℤ → ℕ → ℕ → List Check
tightening_checks n m B row variable = row_checks m row ++ variable_checks n B variable
