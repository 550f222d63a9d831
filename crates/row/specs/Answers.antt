-- What the enums that the code returns stand for among 01's answers. Each is injective: no answer hides another (`answers-injective`).
use Rattle.std.specs.Prelude.{◌+◌, ◌<◌, ◌^◌, ℕ, ℤ, List, ◌≡◌}
use Rattle.row.specs.Outcome.{Outcome, changed, infeasible, unchanged}
use Rattle.row.specs.Propagation.{PropagatedRow}
use Rattle.row.specs.declared.propagation.RowPropagation.{RowPropagation}
use Rattle.row.specs.declared.propagation.RowPropagation.TheVariants as propagation
use Rattle.row.specs.declared.tightening.CoefficientTightening.{CoefficientTightening}
use Rattle.row.specs.declared.tightening.CoefficientTightening.TheVariants as tightening
use Rattle.row.specs.declared.redundancy.RowRemoval.{RowRemoval}
use Rattle.row.specs.declared.redundancy.RowRemoval.TheVariants as removal

-- visit: None, Narrowed with the number of bounds that moved, Same; and the box that is left
unfoldable pub propagated_row_of : RowPropagation → List ℤ → PropagatedRow
propagated_row_of propagation.Infeasible B = record { outcome = infeasible; moved = 0; box = B }
propagated_row_of (propagation.Tightened moved) B = record { outcome = changed; moved = moved; box = B }
propagated_row_of propagation.Unchanged B = record { outcome = unchanged; moved = 0; box = B }

-- the bounds that two forms of an = row moved, at most n each: together they fit in 32 bits
pub record BothForms (first second : RowPropagation) : Type 0 where
  pub few : (k i : ℕ) → first ≡ propagation.Tightened k → second ≡ propagation.Tightened i → k + i < 2 ^ 32

-- what the answers of the two forms come to, the first not infeasible
unfoldable pub both_forms : RowPropagation → RowPropagation → RowPropagation
both_forms propagation.Infeasible s = s
both_forms (propagation.Tightened k) propagation.Infeasible = propagation.Infeasible
both_forms (propagation.Tightened k) (propagation.Tightened i) = propagation.Tightened (k + i)
both_forms (propagation.Tightened k) propagation.Unchanged = propagation.Tightened k
both_forms propagation.Unchanged s = s

-- sharpen: None, Sharpened, Same
unfoldable pub tightening_outcome : CoefficientTightening → Outcome
tightening_outcome tightening.Infeasible = infeasible
tightening_outcome tightening.Tightened = changed
tightening_outcome tightening.Unchanged = unchanged

-- drop: None, Dropped, Same
unfoldable pub removal_outcome : RowRemoval → Outcome
removal_outcome removal.Infeasible = infeasible
removal_outcome removal.Removed = changed
removal_outcome removal.Unchanged = unchanged
