-- `remarking::remark`: the invariant is `Remarked`; a variable whose bounds did not move is left as it is, and a step passes only
-- over variables where the boxes agree. Assumes nothing.
use Prim.Native.Nat.{◌-◌}
use Rattle.remarking.proofs.RemarkLoops.{Remarked}
use Rattle.remarking.proofs.remark.Given as goal

abbrev pub invariant-loop-j : goal.invariant-loop-j
invariant-loop-j l = Remarked l.n l.m l.coefs l.kinds l.initial.signs l.initial.old l.new l.initial.marks l.signs l.old l.marks l.j

abbrev pub decreases-loop-j : goal.decreases-loop-j
decreases-loop-j l = l.n - l.j
