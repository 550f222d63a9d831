-- `workspace::bound` is bound_of: the remainder is below 65,536, so the cast and the difference lose nothing. Assumes nothing.
use Rattle.std.proofs.Common.{rules}
use Rattle.prepared_model.specs.Layout.{bound_of}
use Rattle.workspace.proofs.bound.Goals as goal

pub returns : goal.returns
unfolding bound_of
returns c = search rules
