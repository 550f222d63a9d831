-- `prepared_notes::note`: the invariant is `Noted`; a variable that differs is noted (`noted-next`), any other is passed over (`noted-still`).
-- Assumes nothing.
use Rattle.std.proofs.Common.{◌-◌, length}
use Rattle.prepared_notes.proofs.HeardLaws.{Noted}
use Rattle.prepared_notes.proofs.note.Given as goal

abbrev pub invariant-loop-j : goal.invariant-loop-j
invariant-loop-j l = Noted l.words l.ws l.initial.old l.new l.initial.dirty l.old l.dirty l.j

abbrev pub decreases-loop-j : goal.decreases-loop-j
decreases-loop-j l = length l.words - l.j
