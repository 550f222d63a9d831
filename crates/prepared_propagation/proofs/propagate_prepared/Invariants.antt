-- `prepared_propagation::propagate_prepared`: the invariant is `Passes`: the passes that are left from here, with the bounds moved so
-- far and the reasons told so far, give what the whole gives, where the workspace knows the box. Assumes nothing.
use Rattle.prepared_propagation.proofs.PassesLaws.{Passes}
use Rattle.prepared_propagation.proofs.propagate_prepared.Given as goal

abbrev pub invariant-loop-made : goal.invariant-loop-made
invariant-loop-made l =
    Passes l.n l.m l.ws l.budget l.initial.bounds l.initial.seen l.initial.dirty l.initial.reasons l.bounds l.seen l.dirty l.reasons l.made l.moved
