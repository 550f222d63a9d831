-- `one_proposal::first_outside`: the variables so far are between their bounds, and the first that is not is the lowest
-- (`lowest-is`).
use lib.Dec.{T}
use Rattle.integer.specs.Index.{all}
use Rattle.proposals.specs.Verdict.{in_bounds}
use Rattle.one_proposal.proofs.first_outside.Given as goal

abbrev pub invariant-loop-j : goal.invariant-loop-j
invariant-loop-j l = T (all l.j (in_bounds l.bounds l.x))
