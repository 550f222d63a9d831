-- What the tables of worked books and of corners are made of.
use Rattle.std.specs.Prelude.{◌*◌, ℕ, ℤ, replicate, List, [], ◌∷◌, ◌≡◌}
use Rattle.model.specs.Rows.{row_with, rows_of}
use Rattle.model.specs.State.{State, state_of, with_box, with_row}
use Rattle.semantics.specs.Call.{Call, lengths_of}
use Rattle.semantics.specs.Perform.{Answer, Performed}

-- a line of a table: two things that are to be equal
pub data Line : Type 1 where
  is : {A : Type 0} (a b : A) → Line

-- every line of a table holds
abbrev pub AllHold : List Line → Type 0
AllHold [] = Unit {0}
AllHold (is a b ∷ ls) = (a ≡ b) × AllHold ls

-- a model with the kinds K and a table that is all 0
unfoldable pub fresh_kinds : ℕ → ℕ → List ℤ → List ℤ → List ℤ → List ℕ → State
fresh_kinds n m B C R K = state_of n m B (rows_of C R K) (replicate (4 * (n * n)) 0)

-- one whose rows are all ≤ (02, C-14: "First-edition books have kind 0 throughout.")
unfoldable pub fresh : ℕ → ℕ → List ℤ → List ℤ → List ℤ → State
fresh n m B C R = fresh_kinds n m B C R (replicate m 0)

-- a call on s that is lent buffers of the right lengths
unfoldable pub call_on : State → ℕ → ℕ → ℕ → ℕ → Call
call_on s kind row variable budget =
    record { kind = kind; row = row; variable = variable; budget = budget; n = s.model.n; m = s.model.m; lengths = lengths_of s }

-- calls of each kind; a field that the kind lacks has a value that would be refused: row 999, variable 999, budget 0
unfoldable pub propagate_row_call : State → ℕ → Call
propagate_row_call s r = call_on s 1 r 999 0

unfoldable pub propagate_call : State → ℕ → Call
propagate_call s budget = call_on s 2 999 999 budget

unfoldable pub probe_call : State → ℕ → ℕ → Call
probe_call s k budget = call_on s 3 999 k budget

unfoldable pub tighten_call : State → ℕ → ℕ → Call
tighten_call s r k = call_on s 4 r k 0

unfoldable pub remove_call : State → ℕ → Call
remove_call s r = call_on s 5 r 999 0

-- answers with the state as it was, with another box, with another row 0, which is a ≤ row
unfoldable pub kept : State → Answer → Performed
kept s a = record { answer = a; state = s }

unfoldable pub boxed : State → Answer → List ℤ → Performed
boxed s a B = record { answer = a; state = with_box s B s.table }

unfoldable pub rowed : State → Answer → List ℤ → ℤ → Performed
rowed s a A b = record { answer = a; state = with_row s 0 (row_with A b 0) }
