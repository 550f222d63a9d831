-- `sparse_reading::read_kinds`: the place is where the next row starts, and the kinds before it are read. Assumes nothing.
use Rattle.std.proofs.Common.{◌≡◌}
use Rattle.little_endian.specs.Pieces.{overwrite}
use Rattle.sparse_layout.specs.SparseBook.{row_start, sparse_kinds_of}
use Rattle.sparse_reading.proofs.read_kinds.Given as goal

abbrev pub invariant-loop-kind : goal.invariant-loop-kind
invariant-loop-kind l =
    (l.p ≡ row_start l.n l.book l.kind-index) × (l.kinds ≡ overwrite 0 (sparse_kinds_of l.n l.kind-index l.book) l.initial.kinds)
