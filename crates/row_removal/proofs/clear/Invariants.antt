-- `row_removal::clear`: the invariant says that the numbers so far are 0 and the others the old ones (`clear_to`), and that
-- `changed` tells whether the list differs from the old one. Assumes nothing.
use mathlib.Core.Bool.{not}
use mathlib.Core.Path.{◌≡◌}
use Rattle.model.specs.Box.{same_list}
use Rattle.row_removal.proofs.ClearLoops.{clear_to}
use Rattle.row_removal.proofs.clear.Given as goal

abbrev pub invariant-loop-x : goal.invariant-loop-x
invariant-loop-x l =
    (l.xs ≡ clear_to l.x-index l.initial.xs) × (l.changed ≡ not (same_list l.initial.xs (clear_to l.x-index l.initial.xs)))
