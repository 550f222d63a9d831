-- `reduction::buffers::largest_table`: the array is all 0.
use Rattle.std.proofs.Common.{refl}
use Rattle.reduction.specs.Output.{zeros}
use Rattle.reduction.proofs.buffers.largest_table.Goals as goal

pub returns : goal.returns
unfolding zeros
returns c = refl
