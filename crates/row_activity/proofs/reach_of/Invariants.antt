-- `row_activity::reach_of`: the invariant says that the sum and the greatest width are those of the terms so far, each coefficient read
-- with its sign (`signed-bits`). A coefficient of 0 adds 0 to both. Assumes nothing.
use mathlib.Core.Path.{◌≡◌}
use Rattle.integer.specs.Index.{sum as total}
use Rattle.row.specs.Activity.{greatest}
use Rattle.row.specs.Kinds.{signed}
use Rattle.row.proofs.ReachLaws.{min_term_at, width_at}
use Rattle.row_activity.proofs.reach_of.Given as goal

abbrev pub invariant-loop-j : goal.invariant-loop-j
invariant-loop-j l =
    (l.least ≡ total l.j (min_term_at (signed l.sign l.coefs) l.bounds))
    × (l.widest ≡ greatest l.j (width_at (signed l.sign l.coefs) l.bounds))
