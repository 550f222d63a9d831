-- `workspace::keep_set`: the four numbers of the set are put at 4. Assumes nothing.
use Rattle.prepared_model.specs.Layout.{dirty_of}
use Rattle.workspace.proofs.keep_set.Goals as goal

pub returns-clause-kept : goal.returns-clause-kept
unfolding dirty_of
returns-clause-kept c = rw c.requires.0 at c.put.ensures.numbers
