-- `sparse_reading::read_coefs`: the place is where row i starts, and the coefficients of the first i rows are read.
-- Assumes nothing.
use Rattle.std.proofs.Common.{◌≡◌}
use Rattle.little_endian.specs.Pieces.{overwrite}
use Rattle.sparse_layout.specs.SparseBook.{row_start, sparse_coefs_of}
use Rattle.sparse_reading.proofs.read_coefs.Given as goal

abbrev pub invariant-loop-i : goal.invariant-loop-i
invariant-loop-i l = (l.p ≡ row_start l.n l.book l.i) × (l.coefs ≡ overwrite 0 (sparse_coefs_of l.n l.i l.book) l.initial.coefs)
