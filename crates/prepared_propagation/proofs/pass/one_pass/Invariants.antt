-- `pass::one_pass`: the invariant is `Passing`: the rows so far came to what `pass_to` says, where the workspace knows the box, and the
-- bounds moved are no more than the width that was lost in any case. Assumes nothing.
use Rattle.std.proofs.Common.{◌-◌}
use Rattle.prepared_propagation.proofs.PassLaws.{Passing}
use Rattle.prepared_propagation.proofs.pass.one_pass.Given as goal

abbrev pub invariant-loop-r : goal.invariant-loop-r
invariant-loop-r l =
    Passing l.n l.m l.ws l.initial.bounds l.initial.seen l.initial.dirty l.initial.reasons l.bounds l.seen l.dirty l.reasons l.moved l.r

abbrev pub decreases-loop-r : goal.decreases-loop-r
decreases-loop-r l = l.m - l.r
