-- `sparse_writing::write_entries`: after j turns the entries of the first j columns are written. Assumes nothing.
use Rattle.std.proofs.Common.{◌+◌, length, ◌≡◌}
use Rattle.model.specs.Box.{at}
use Rattle.little_endian.specs.Pieces.{joined, overwrite}
use Rattle.sparse_layout.specs.SparseBook.{entry_bytes}
use Rattle.sparse_writing.proofs.write_entries.Given as goal

abbrev pub invariant-loop-j : goal.invariant-loop-j
invariant-loop-j l = record {
  ends : l.p ≡ l.place + length (joined l.j (entry_bytes (at l.row)));
  are_written : l.book ≡ overwrite l.place (joined l.j (entry_bytes (at l.row))) l.initial.book;
}
