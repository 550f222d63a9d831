-- What the reading of the input means, as a statement (`InputLaws` has the proof).
use Rattle.std.specs.Prelude.{◌<◌, ℕ, T, length, List, ◌++◌, ◌≡◌}
use Rattle.model.specs.Checks.{first}
use Rattle.book.specs.Book.{decode}
use Rattle.book.specs.BookChecks.{head_checks}
use Rattle.allocation_input.specs.Input.{book_of, no_split, proposal_checks}

-- An input that is made of a book and of proposals that fit is read so, unless it has a shorter part that could be its book as well.
abbrev pub BookFound : Type 0
BookFound =
    (book behind : List ℕ) → first (head_checks book) ≡ 0 → first (proposal_checks (decode book).n (length book) (book ++ behind)) ≡ 0
    → ((p : ℕ) → p < length book → T (no_split (book ++ behind) p)) → book_of (book ++ behind) ≡ book
