-- `prepared_box::note_block`: the invariant is `NotedKept` of the variables so far (`noted-up`). Assumes nothing.
use mathlib.Core.Path.{◌≡◌}
use native.Mathlib.Omega.{arith}
use Rattle.prepared_box.proofs.TakenLaws.{noted-none, noted-up}
use Rattle.prepared_box.proofs.note_block.Goals as goal

pub loop-j-init : goal.loop-j-init
loop-j-init c = noted-none _

pub loop-j-preserved : goal.loop-j-preserved
loop-j-preserved c = noted-up c.loop-j.invariant c.note_kept.ensures

pub returns : goal.returns
returns c = let e : c.loop-j.j ≡ c.args.to = omega arith in rw e at c.loop-j.invariant
