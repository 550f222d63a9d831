-- `book_reading::coefs_in_range`: so far every row has passed. Assumes nothing.
use Rattle.std.proofs.Common.{◌+◌, ℕ, Bool, true, List, ◌≡◌}
use Rattle.integer.specs.Index.{all}
use Rattle.model.specs.Checks.{in_range}
use Rattle.model.specs.Limits.{max_coef, min_coef}
use Rattle.book.specs.Book.{row_place}
use Rattle.little_endian.specs.Bytes.{integers_at}
use Rattle.book_reading.proofs.coefs_in_range.Given as goal

-- the test of row i
abbrev pub test : ℕ → List ℕ → ℕ → Bool
test n bs i = in_range min_coef max_coef (integers_at (row_place n i + 4) 4 n bs)

abbrev pub invariant-loop-i : goal.invariant-loop-i
invariant-loop-i l = all l.i (test l.n l.book) ≡ true
