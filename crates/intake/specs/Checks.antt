-- Checks 1 to 4 of an input, by its last 16 bytes t and its length.
use Rattle.std.specs.Prelude.{◌<◌, ◌≤◌, ℕ, eqb, leb, length, List, ◌++◌, ◌∷◌, ◌≡◌}
use Rattle.model.specs.Checks.{Check, first, must}
use Rattle.model.specs.Limits.{max_rows, max_variables}
use Rattle.book.specs.Answers.{Answer, refused, sizes_are, unless}
use Rattle.book.specs.Book.{book_length, rows, trailer_of, variables}
use Rattle.book.specs.BookChecks.{given_length_checks, head_checks, layout_checks}
use Rattle.little_endian.specs.Bytes.{Bytes}

-- 1. The input has under 16 bytes. 5 where t is not as long as a trailer. Then 2, 3 and 4.
unfoldable pub input_checks : List ℕ → ℕ → List Check
input_checks t len = must (leb 16 len) 1 ∷ must (eqb (length t) 16) 5 ∷ given_length_checks t len ++ layout_checks t

unfoldable pub input_call : List ℕ → ℕ → Answer
input_call t len = unless (first (input_checks t len)) (sizes_are (variables t) (rows t))

-- the same of the whole input: what reading a book answers before it looks at a number
unfoldable pub head_call : List ℕ → Answer
head_call bs = unless (first (head_checks bs)) (sizes_are (variables (trailer_of bs)) (rows (trailer_of bs)))

abbrev pub max_book : ℕ
max_book = 62_960

-- an input that is accepted is as long as a book of n variables and m rows, and no book is longer than max_book
pub record SizedBook (n m len : ℕ) : Type 0 where
  pub some : 0 < n
  pub few : n ≤ max_variables
  pub few_rows : m ≤ max_rows
  pub given : len ≡ book_length n m
  pub short : len ≤ max_book

-- 2³²: a trailer gives a length in 32 bits
abbrev pub too_long : ℕ
too_long = 4_294_967_296

-- every input of len bytes or more is refused by 2, whatever its bytes
pub record TooLong (len : ℕ) : Type 0 where
  pub refusal : (bs : List ℕ) → Bytes bs → len ≤ length bs → head_call bs ≡ refused 2
