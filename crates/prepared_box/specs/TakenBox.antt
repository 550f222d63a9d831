-- The box that a workspace knows becomes a lent one, variable by variable.
use Rattle.std.specs.Prelude.{◌<◌, ◌≤◌, ℕ, ℤ, length, List, ◌⊎◌, ◌≡◌}
use Rattle.model.specs.Box.{at}
use Rattle.model.specs.Limits.{max_variables}
use Rattle.prepared_model.specs.Layout.{box_in}
use Rattle.prepared_notes.specs.Heard.{Missed}
use Rattle.row_set.specs.Bits.{bit_at}

-- the numbers from place p on and below q are those of `new`, the others as they were
pub record Copied (p q : ℕ) (new before box : List ℤ) : Type 0 where
  pub len : length box ≡ length before
  pub within : (i : ℕ) → p ≤ i → i < q → at box i ≡ at new i
  pub without : (i : ℕ) → (i < p) ⊎ (q ≤ i) → at box i ≡ at before i

-- The box that W keeps, whose numbers say the bounds of 128 variables, becomes `new`: a row that is not in the set D' now was not in D
-- before, and hears nothing of the variables from p on and below q.
pub record NotedKept (W : List ℕ) (new : List ℤ) (D : List ℕ) (p q : ℕ) (D' : List ℕ) : Type 0 where
  pub set : length D' ≡ length D
  pub heard : (r : ℕ) → r < 128 → bit_at D' r ≡ 0 → (bit_at D r ≡ 0) × ((k : ℕ) → p ≤ k → k < q → Missed W r (box_in max_variables W) new k)
