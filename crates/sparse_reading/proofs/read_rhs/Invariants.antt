-- `sparse_reading::read_rhs`: the place is where the next row starts, and the right sides before it are read. Assumes nothing.
use Rattle.std.proofs.Common.{◌≡◌}
use Rattle.little_endian.specs.Pieces.{overwrite}
use Rattle.sparse_layout.specs.SparseBook.{row_start, sparse_rhs_of}
use Rattle.sparse_reading.proofs.read_rhs.Given as goal

abbrev pub invariant-loop-b : goal.invariant-loop-b
invariant-loop-b l =
    (l.p ≡ row_start l.n l.book l.b-index) × (l.rhs ≡ overwrite 0 (sparse_rhs_of l.n l.b-index l.book) l.initial.rhs)
