-- `row_bounds::tighten_bounds`: the invariant says that the bounds of the variables so far are the implied ones (`write_to`), and
-- that `moved` tells how many of them differ (`moved_more`). A variable not yet visited has its old bounds (`write_to-late`). Assumes nothing.
use lib.ListN.{length}
use mathlib.Core.Path.{◌≡◌}
use Rattle.row.specs.Kinds.{signed}
use Rattle.row.proofs.RowLoops.{moved_to, tighten_to}
use Rattle.row_bounds.proofs.tighten_bounds.Given as goal

abbrev pub invariant-loop-j : goal.invariant-loop-j
invariant-loop-j l =
    (l.bounds ≡ tighten_to (signed l.sign l.coefs) l.b l.least l.initial.bounds l.j)
    × (l.moved ≡ moved_to (signed l.sign l.coefs) l.b l.least l.initial.bounds (length l.coefs) l.j)
