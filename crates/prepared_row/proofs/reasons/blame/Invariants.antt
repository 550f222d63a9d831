-- `reasons::blame`: the invariant is `Blamed`; both numbers of a variable that is read are written (`blamed-next`), those between two
-- such are as they were. Nothing is told to an empty list (`blame-none`). Assumes nothing.
use Rattle.std.proofs.Common.{◌-◌, length}
use Rattle.prepared_row.proofs.BlameLaws.{Blamed}
use Rattle.prepared_row.proofs.reasons.blame.Given as goal

abbrev pub invariant-loop-j : goal.invariant-loop-j
invariant-loop-j l = Blamed l.words l.r l.old l.new l.initial.reasons l.reasons l.j

abbrev pub decreases-loop-j : goal.decreases-loop-j
decreases-loop-j l = length l.words - l.j
