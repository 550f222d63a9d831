-- The calls of the C interface on sparse books (02, C-18): what each returns and leaves. As in `Exports`, each is the open call of its
-- name behind one check more, of the answer's length, which is check 5 with the other lengths.
use Rattle.std.specs.Prelude.{ℕ, leb, ℤ, length, List, [], ◌∷◌}
use Rattle.book.specs.BookChecks.{head_checks}
use Rattle.model.specs.Checks.{must, size_checks}
use Rattle.model.specs.Model.{Model}
use Rattle.model.specs.Rows.{Rows}
use Rattle.book_replies.specs.SparseReplies.{length_reply}
use Rattle.replies.specs.Replies.{book_reply}
use Rattle.sparse_layout.specs.SparseChecks.{sparse_layout_checks}
use Rattle.sparse_calls.specs.SparseCalls.{sparse_length_call, sparse_read_call, sparse_trailer_call, to_sparse_length_call}
use Rattle.exports.specs.Exports.{BookExported, book_answered}

-- the answer's length after 1 and before 3
unfoldable pub sparse_trailer_export : List ℕ → List ℕ → BookExported
sparse_trailer_export A bytes = book_answered A (must (leb 16 (length bytes)) 1 ∷ []) (book_reply (sparse_trailer_call bytes))

-- after 1 to 4, 19 and 20
unfoldable pub sparse_read_export : List ℕ → List ℕ → List ℤ → Rows → BookExported
sparse_read_export A book B rows = book_answered A (sparse_layout_checks book) (book_reply (sparse_read_call book B rows))

-- after 3
unfoldable pub sparse_length_export : List ℕ → Model → BookExported
sparse_length_export A M = book_answered A (size_checks M.n M.m) (length_reply (sparse_length_call M))

-- after 1 to 4
unfoldable pub to_sparse_length_export : List ℕ → List ℕ → BookExported
to_sparse_length_export A book = book_answered A (head_checks book) (length_reply (to_sparse_length_call book))
