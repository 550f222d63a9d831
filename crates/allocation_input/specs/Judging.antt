-- What the functions of the judging ask for, and what their answers stand for.
use Rattle.std.specs.Prelude.{◌*◌, ◌≤◌, ℕ, ℤ, length, take, List, ◌≡◌, Result, Ok, Err}
use Rattle.model.specs.Checks.{first}
use Rattle.model.specs.Model.{Model}
use Rattle.model.specs.Rows.{Rows}
use Rattle.book.specs.Book.{decode}
use Rattle.book.specs.BookChecks.{head_checks}
use Rattle.little_endian.specs.Bytes.{integers_at}
use Rattle.proposals.specs.Proposals.{max_proposals, numbers, proposal}
use Rattle.proposals.specs.Verdict.{verdict}
use Rattle.allocation_input.specs.Input.{book_end, input_fault, max_input, model_of_input, proposal_checks}
use Rattle.allocation_input.specs.Output.{input_count, input_verdict}
use Rattle.model.specs.declared.refusal.Refusal.{Refusal}
use Rattle.model.specs.Refusals.{number_of}

-- a book with a trailer, and the bytes of count proposals, with room for their verdicts
pub record Holdable (book behind : List ℕ) (count : ℕ) (Y : List ℕ) : Type 0 where
  pub head : first (head_checks book) ≡ 0
  pub some : 1 ≤ count
  pub few : count ≤ max_proposals
  pub bytes : length behind ≡ 4 * (count * (decode book).n)
  pub room : length Y ≡ 2 * count

-- buffers for the book's model and for the proposals
pub record Room (book : List ℕ) (count : ℕ) (B : List ℤ) (A : Rows) (P : List ℤ) : Type 0 where
  pub box : length B ≡ 2 * (decode book).n
  pub coefs : length A.coefs ≡ (decode book).m * (decode book).n
  pub rhs : length A.rhs ≡ (decode book).m
  pub kinds : length A.kinds ≡ (decode book).m
  pub numbers : length P ≡ count * (decode book).n

-- an input that passes 1 to 4, 22 and 5, with a book that ends at e
pub record Splits (bs : List ℕ) (e : ℕ) : Type 0 where
  pub short : length bs ≤ max_input
  pub end : e ≡ book_end bs
  pub within : e ≤ length bs
  pub behind : first (proposal_checks (model_of_input bs).n e bs) ≡ 0

-- the numbers that tell the verdicts of count proposals whose bytes are `behind`
unfoldable pub verdicts_of : Model → ℕ → List ℕ → List ℕ
verdicts_of M count behind = numbers count (λ c. verdict M (proposal M.n (integers_at 0 4 (count * M.n) behind) c))

-- the verdicts of an accepted input stand at the start of the buffer
pub record Judged (bs Y : List ℕ) (count : ℕ) : Type 0 where
  pub faultless : input_fault bs ≡ 0
  pub counted : count ≡ input_count bs
  pub few : count ≤ max_proposals
  pub told : take (2 * count) Y ≡ numbers count (input_verdict bs)

-- an input is refused by the first check that fails, or so many verdicts are told
abbrev pub Answers : Result ℕ Refusal → List ℕ → List ℕ → Type 0
Answers (Err r) bs Y = (number_of r ≡ input_fault bs) × (number_of r ≡ 0 → ⊥)
Answers (Ok count) bs Y = Judged bs Y count
