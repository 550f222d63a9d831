-- `sparse_reading::store_entries`: after e turns the row is what the first e entries say. Assumes nothing.
use Rattle.std.proofs.Common.{length, ◌≡◌}
use Rattle.little_endian.specs.Pieces.{list_of}
use Rattle.sparse_layout.specs.SparseBook.{dense_at}
use Rattle.sparse_reading.proofs.store_entries.Given as goal

abbrev pub invariant-loop-e : goal.invariant-loop-e
invariant-loop-e l = l.row ≡ list_of (length l.initial.row) (dense_at l.p l.book l.e)
