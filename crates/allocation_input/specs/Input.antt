-- The input of `allocations`: a book, then the count of the proposals in 32 bits, then their numbers. Where the book ends, and the checks.
use Rattle.std.specs.Prelude.{◌*◌, ◌+◌, ℕ, eqb, leb, ℤ, drop, length, take, Bool, ◌&&◌, ◌||◌, cond, not, List, [], ◌++◌, ◌∷◌}
use Rattle.model.specs.Checks.{Check, first, must}
use Rattle.model.specs.Model.{Model}
use Rattle.book.specs.Book.{decode}
use Rattle.book.specs.BookChecks.{head_checks, model_number_checks}
use Rattle.little_endian.specs.Bytes.{integers_at, number_at}
use Rattle.proposals.specs.Proposals.{max_proposals}
use Rattle.semantics.specs.Lowest.{lowest}

-- the longest book, a count, and 64 proposals of 128 numbers
abbrev pub max_input : ℕ
max_input = 95_732

-- ---- behind the book

-- of a book that ends at place e: the count, 0 where its four bytes are not there
unfoldable pub count_at : ℕ → List ℕ → ℕ
count_at e bs = cond (leb (e + 4) (length bs)) (number_at 4 e bs) 0

-- and count · n numbers
unfoldable pub proposals_at : ℕ → ℕ → ℕ → List ℕ → List ℤ
proposals_at n count e bs = integers_at 0 4 (count * n) (drop (e + 4) bs)

-- 22. The count is not 1 to 64. 5. The input does not end with its proposals.
unfoldable pub proposal_checks : ℕ → ℕ → List ℕ → List Check
proposal_checks n e bs =
    must (leb 1 (count_at e bs) && leb (count_at e bs) max_proposals) 22 ∷ must (eqb (length bs) (e + 4 + 4 * (count_at e bs * n))) 5 ∷ []

-- ---- where the book ends

-- the first p bytes fail a check of 1 to 4
unfoldable pub no_book : List ℕ → ℕ → Bool
no_book bs p = not (eqb (first (head_checks (take p bs))) 0)

-- or what stands behind them fails 22 or 5
unfoldable pub no_split : List ℕ → ℕ → Bool
no_split bs p = no_book bs p || not (eqb (first (proposal_checks (decode (take p bs)).n p bs)) 0)

-- the first place at which neither does, and the first up to which 1 to 4 pass; past the input where there is none
unfoldable pub whole_end : List ℕ → ℕ
whole_end bs = lowest (length bs + 1) (no_split bs)

unfoldable pub first_end : List ℕ → ℕ
first_end bs = lowest (length bs + 1) (no_book bs)

-- A book's trailer is at its own end, so its end is looked for (D-59): at the first place that splits the input into a book and proposals,
-- and where there is none, at the first that ends a book.
unfoldable pub book_end : List ℕ → ℕ
book_end bs = cond (leb (whole_end bs) (length bs)) (whole_end bs) (first_end bs)

unfoldable pub book_of : List ℕ → List ℕ
book_of bs = take (book_end bs) bs

unfoldable pub model_of_input : List ℕ → Model
model_of_input bs = decode (book_of bs)

-- ---- the checks

-- In the order of 01 and 02: 2 where the input is longer than any, 1 to 4 of the book, "22, a count not 1 to 64, straight before check
-- 5; buffer lengths fall under check 5", 6, 7, 23, 8 and 9 of the book's numbers.
unfoldable pub input_checks : List ℕ → List Check
input_checks bs =
    must (leb (length bs) max_input) 2
    ∷ (head_checks (book_of bs) ++ (proposal_checks (model_of_input bs).n (book_end bs) bs ++ model_number_checks (model_of_input bs)))

unfoldable pub input_fault : List ℕ → ℕ
input_fault bs = first (input_checks bs)
