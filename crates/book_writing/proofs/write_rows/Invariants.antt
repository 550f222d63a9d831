-- `book_writing::write_rows`: after i turns the bytes of the first i rows are written. Assumes nothing.
use Rattle.std.proofs.Common.{◌*◌, [], ◌≡◌}
use Rattle.model.specs.Rows.{rows_of}
use Rattle.book.specs.Book.{row_bytes_at}
use Rattle.little_endian.specs.Pieces.{joined, overwrite}
use Rattle.book_writing.proofs.write_rows.Given as goal

abbrev pub invariant-loop-i : goal.invariant-loop-i
invariant-loop-i l = l.book ≡ overwrite (8 * l.n) (joined l.i (row_bytes_at l.n (rows_of l.coefs l.rhs []))) l.initial.book
