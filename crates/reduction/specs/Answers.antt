-- What the answers of the program stand for, and what its parts hand on to each other.
use Rattle.std.specs.Prelude.{◌*◌, ℕ, length, List, ◌≡◌, Result, Ok, Err, Option, Some, None}
use Rattle.model.specs.Checks.{first}
use Rattle.model.specs.State.{State}
use Rattle.model.specs.Valid.{ValidState}
use Rattle.book.specs.Book.{decode}
use Rattle.book.specs.BookChecks.{head_checks}
use Rattle.report.specs.Report.{Printable, none_line, refused_line}
use Rattle.reduction.specs.Output.{left_text, zeros}
use Rattle.reduction.specs.declared.Form.{Form}
use Rattle.model.specs.declared.refusal.Refusal.{Refusal}
use Rattle.model.specs.Refusals.{number_of}

-- refused by a check, at None, or a model left after so many rounds
abbrev pub Answer : Type 0
Answer = Result (Option ℕ) Refusal

-- the text of an answer, where the buffers hold the model and the table that are left
unfoldable pub answer_text : Form → Answer → State → List ℕ
answer_text form (Err r) s = refused_line (number_of r)
answer_text form (Ok None) s = none_line
answer_text form (Ok (Some rounds)) s = left_text form rounds s

-- what an answer leaves in the buffers, where it is printed: a valid state
abbrev pub Leaves : Answer → State → Type 0
Leaves (Err r) s = Unit
Leaves (Ok None) s = Unit
Leaves (Ok (Some rounds)) s = ValidState s

-- the book passes checks 1 to 4 and says n and m
pub record Sized (n m : ℕ) (bs : List ℕ) : Type 0 where
  pub head : first (head_checks bs) ≡ 0
  pub variables : n ≡ (decode bs).n
  pub rows : m ≡ (decode bs).m

-- buffers as the book needs them, and a table all 0; s is what they hold
pub record Ready (bs : List ℕ) (s : State) : Type 0 where
  pub sized : Sized s.model.n s.model.m bs
  pub lengths : Printable s
  pub kinds : length s.model.rows.kinds ≡ s.model.m
  pub table : s.table ≡ zeros (4 * (s.model.n * s.model.n))
