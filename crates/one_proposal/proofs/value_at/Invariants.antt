-- `one_proposal::value_at`: the invariant says that the sum is that of the terms so far; a step passes over terms that are 0
-- (`step-dot`).
use Prim.Native.Nat.{◌-◌, ◌≤◌}
use lib.ListN.{length}
use mathlib.Core.Path.{◌≡◌}
use Rattle.integer.specs.Index.{sum as total}
use Rattle.one_proposal.proofs.ValueLaws.{term_at}
use Rattle.one_proposal.proofs.value_at.Given as goal

abbrev pub invariant-loop-j : goal.invariant-loop-j
invariant-loop-j l = (l.j ≤ length l.coefs) × (l.sum ≡ total l.j (term_at l.coefs l.x))

abbrev pub decreases-loop-j : goal.decreases-loop-j
decreases-loop-j l = length l.coefs - l.j
