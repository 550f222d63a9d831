-- `prepared_box::note_block`: the invariant is `NotedKept` of the variables so far (`noted-up`). Assumes nothing.
use Rattle.prepared_box.specs.TakenBox.{NotedKept}
use Rattle.prepared_box.proofs.note_block.Given as goal

abbrev pub invariant-loop-j : goal.invariant-loop-j
invariant-loop-j l = NotedKept l.ws l.new l.initial.dirty l.from l.j l.dirty
