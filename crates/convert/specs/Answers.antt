-- What the answer of the conversion stands for, where the buffer holds `to`, and what a part of the program is handed.
use Rattle.std.specs.Prelude.{◌≤◌, ℕ, length, take, List, Result, Ok, Err}
use Rattle.model.specs.Limits.{max_rows, max_variables}
use Rattle.book.specs.Book.{rows, trailer_of, variables}
use Rattle.report.specs.Report.{refused_line}
use Rattle.model.specs.declared.refusal.Refusal.{Refusal}
use Rattle.model.specs.Refusals.{number_of}

-- refused by a check, or the length of the other edition's book, which stands at the start of the buffer
abbrev pub Answer : Type 0
Answer = Result ℕ Refusal

-- its bytes
unfoldable pub answer_bytes : Answer → List ℕ → List ℕ
answer_bytes (Err r) to = refused_line (number_of r)
answer_bytes (Ok len) to = take len to

-- a book lies within the buffer
abbrev pub Fits : Answer → List ℕ → Type 0
Fits (Err r) to = Unit
Fits (Ok len) to = len ≤ length to

-- bytes with a trailer that says n and m within their limits
pub record Framed (bs : List ℕ) : Type 0 where
  pub long : 16 ≤ length bs
  pub few : variables (trailer_of bs) ≤ max_variables
  pub few_rows : rows (trailer_of bs) ≤ max_rows
