-- `sweep::tighten_bounds_by`: the invariant says that the bounds of the variables so far are the implied ones (`write_to`), and
-- that `moved` tells how many of them differ (`moved_more`, `step-moved`). A variable not yet visited has its old bounds
-- (`write_to-late`). Assumes nothing.
use Prim.Native.Nat.{◌-◌, ◌≤◌}
use lib.ListN.{length}
use mathlib.Core.Path.{◌≡◌}
use Rattle.row.specs.Kinds.{signed}
use Rattle.row.proofs.RowLoops.{moved_to, tighten_to}
use Rattle.sweep.proofs.tighten_bounds_by.Given as goal

abbrev pub invariant-loop-j : goal.invariant-loop-j
invariant-loop-j l =
    (l.j ≤ length l.coefs)
    × (l.bounds ≡ tighten_to (signed l.sign l.coefs) l.b l.least l.initial.bounds l.j)
    × (l.moved ≡ moved_to (signed l.sign l.coefs) l.b l.least l.initial.bounds (length l.coefs) l.j)

abbrev pub decreases-loop-j : goal.decreases-loop-j
decreases-loop-j l = length l.coefs - l.j
