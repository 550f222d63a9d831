-- What is held of standard input once it is read.
use Rattle.std.specs.Prelude.{ℕ, List, ◌++◌, ◌≡◌, Result, Ok, Err}
use Rattle.std.specs.declared.io.Error.{Error}
use Rattle.little_endian.specs.Bytes.{Bytes}
use Rattle.book.specs.Answers.{refused}
use Rattle.intake.specs.Checks.{head_call}
use Rattle.intake.specs.Intake.{Held}
use Rattle.model.specs.declared.refusal.Refusal.{Refusal}
use Rattle.model.specs.declared.refusal.Refusal.TheVariants.{BookLength}

-- how reading ends: with the input's length, or refused whatever follows; an error of reading stands before both
abbrev pub Input : Type 0
Input = Result (Result ℕ Refusal) Error

-- the input ended after len bytes
abbrev pub ended_at : ℕ → Input
ended_at len = Ok (Ok len)

-- every input that starts with these bytes is refused by 2
pub record RefusedSoFar (bs : List ℕ) : Type 0 where
  pub refusal : (more : List ℕ) → Bytes (bs ++ more) → head_call (bs ++ more) ≡ refused 2

-- the buffers hold what is kept of some input: of the length that is answered, or of one that is refused whatever follows
abbrev pub InputHeld : Input → List ℕ → List ℕ → Type 0
InputHeld (Ok (Ok len)) start tail = (bs : List ℕ) × Held bs start tail len
InputHeld (Ok (Err refusal)) start tail = (refusal ≡ BookLength) × ((bs : List ℕ) × RefusedSoFar bs × ((len : ℕ) × Held bs start tail len))
InputHeld (Err error) start tail = Unit
