-- `prepared_box::read_set`: the numbers are those of the set that is kept. Assumes nothing.
use Rattle.prepared_model.specs.Layout.{dirty_of}
use Rattle.prepared_box.proofs.read_set.Goals as goal

pub returns : goal.returns
unfolding dirty_of
returns c = c.copy_from_slice.ensures.after
