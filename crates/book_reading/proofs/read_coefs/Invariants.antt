-- `book_reading::read_coefs`: after i turns the coefficients of the first i rows are overwritten by those read.
-- Assumes nothing.
use Rattle.std.proofs.Common.{◌+◌, ℕ, ℤ, List, ◌≡◌}
use Rattle.book.specs.Book.{row_place}
use Rattle.little_endian.specs.Bytes.{integers_at}
use Rattle.little_endian.specs.Pieces.{joined, overwrite}
use Rattle.book_reading.proofs.read_coefs.Given as goal

-- the coefficients of row i
abbrev pub piece : ℕ → List ℕ → ℕ → List ℤ
piece n bs i = integers_at (row_place n i + 4) 4 n bs

abbrev pub invariant-loop-i : goal.invariant-loop-i
invariant-loop-i l = l.coefs ≡ overwrite 0 (joined l.i (piece l.n l.book)) l.initial.coefs
