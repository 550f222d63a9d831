-- What `convert` writes for an input, as bytes (02, C-18: "Converting goes both ways.").
use Rattle.std.specs.Prelude.{ℕ, eqb, leb, length, Bool, ◌&&◌, ◌||◌, cond, List}
use Rattle.model.specs.Checks.{first}
use Rattle.book.specs.Book.{book_length}
use Rattle.book.specs.BookChecks.{book_fault, head_checks}
use Rattle.report.specs.Report.{refused_line}
use Rattle.sparse_layout.specs.SparseBook.{decode_sparse}
use Rattle.sparse_layout.specs.SparseChecks.{sparse_fault}
use Rattle.sparse_layout.specs.SparseTrips.{to_first, to_sparse}
use Rattle.sparse_calls.specs.SparseCalls.{to_first_checks}

-- the length of the longest sparse book (`sparse_length-below`)
abbrev pub max_sparse : ℕ
max_sparse = 94_040

-- Which edition it is (D-53): bytes that the sparse edition accepts are sparse, and so are those that the first refuses by check 4, if they
-- are no longer than a sparse book can be; an accepted one never is (`accepted-is-sparse`). All others are of the first edition. With no
-- rows both editions are the same bytes.
unfoldable pub is_sparse : List ℕ → Bool
is_sparse bs = (eqb (sparse_fault bs) 0 || eqb (first (head_checks bs)) 4) && leb (length bs) max_sparse

-- a book, or `refused N` where a check fails
unfoldable pub book_unless : ℕ → List ℕ → List ℕ
book_unless fault book = cond (eqb fault 0) book (refused_line fault)

-- from the first edition: refused as it is read
unfoldable pub sparse_edition : List ℕ → List ℕ
sparse_edition bs = book_unless (book_fault bs) (to_sparse bs)

-- from the sparse one: refused as it is read, and "an = row is refused as 17"
unfoldable pub to_first_number : List ℕ → ℕ
to_first_number bs = let M = decode_sparse bs in first (to_first_checks bs (book_length M.n M.m))

unfoldable pub first_edition : List ℕ → List ℕ
first_edition bs = book_unless (to_first_number bs) (to_first bs)

unfoldable pub output : List ℕ → List ℕ
output bs = cond (is_sparse bs) (first_edition bs) (sparse_edition bs)
