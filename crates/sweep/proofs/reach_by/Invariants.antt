-- `sweep::reach_by`: the invariant says that the sum and the greatest width are those of the terms so far, each coefficient read with
-- its sign (`signed-bits`), and a step passes only over terms that are 0. Assumes nothing.
use Prim.Native.Nat.{◌-◌, ◌≤◌}
use lib.ListN.{length}
use mathlib.Core.Path.{◌≡◌}
use Rattle.integer.specs.Index.{sum as total}
use Rattle.row.specs.Activity.{greatest}
use Rattle.row.specs.Kinds.{signed}
use Rattle.row.proofs.ReachLaws.{min_term_at, width_at}
use Rattle.sweep.proofs.reach_by.Given as goal

abbrev pub invariant-loop-j : goal.invariant-loop-j
invariant-loop-j l =
    (l.j ≤ length l.coefs)
    × (l.least ≡ total l.j (min_term_at (signed l.sign l.coefs) l.bounds))
    × (l.widest ≡ greatest l.j (width_at (signed l.sign l.coefs) l.bounds))

abbrev pub decreases-loop-j : goal.decreases-loop-j
decreases-loop-j l = length l.coefs - l.j
