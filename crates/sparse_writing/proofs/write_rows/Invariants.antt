-- `sparse_writing::write_rows`: the place is where row i goes, and the bytes of the first i rows are written.
-- Assumes nothing.
use Rattle.std.proofs.Common.{◌*◌, ◌+◌, ◌≡◌}
use Rattle.model.specs.Rows.{rows_of}
use Rattle.little_endian.specs.Pieces.{joined, overwrite}
use Rattle.sparse_layout.specs.SparseBook.{rows_length, sparse_row_bytes_at}
use Rattle.sparse_writing.proofs.write_rows.Given as goal

abbrev pub invariant-loop-i : goal.invariant-loop-i
invariant-loop-i l = record {
  ends : l.p ≡ 8 * l.n + rows_length l.n (rows_of l.coefs l.rhs l.kinds) l.i;
  are_written : l.book ≡ overwrite (8 * l.n) (joined l.i (sparse_row_bytes_at l.n (rows_of l.coefs l.rhs l.kinds))) l.initial.book;
}
