-- `sparse_writing::nonzeros`: the invariant counts the numbers so far. Assumes nothing.
use Rattle.std.proofs.Common.{◌≡◌}
use Rattle.model.specs.Box.{at}
use Rattle.sparse_layout.specs.SparseBook.{nonzeros}
use Rattle.sparse_writing.proofs.nonzeros.Given as goal

abbrev pub invariant-loop-x : goal.invariant-loop-x
invariant-loop-x l = l.count ≡ nonzeros l.x-index (at l.xs)
