-- `prepared_box::take_all`: the invariant is `Copied` and `NotedKept` of the blocks so far, from the last on; a block is copied, and noted where a
-- bound differs. Assumes nothing.
use Prim.Native.Nat.{◌*◌, ◌≤◌}
use Rattle.prepared_box.specs.TakenBox.{Copied, NotedKept}
use Rattle.prepared_box.proofs.take_all.Given as goal

abbrev pub invariant-loop-end : goal.invariant-loop-end
invariant-loop-end l =
    (l.end ≤ l.n) × Copied (2 * l.end) (2 * l.n) l.new l.initial.seen l.seen × NotedKept l.ws l.new l.initial.dirty l.end l.n l.dirty

abbrev pub decreases-loop-end : goal.decreases-loop-end
decreases-loop-end l = l.end
