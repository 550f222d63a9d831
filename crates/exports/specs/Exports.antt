-- The calls of the C interface: what each returns, and every lent buffer afterwards. Each is the open call of its name behind one
-- check more, the length of the answer buffer A. "A wrong answer length is check 5, with the other lengths": so what comes before 5
-- still comes first, and nothing else is done. Words in quotation marks are D-28's (docs/DECISIONS.md).
use Rattle.std.specs.Prelude.{ℕ, eqb, leb, ℤ, length, cond, List, [], ◌∷◌}
use Rattle.book.specs.Answers.{read_call, trailer_call}
use Rattle.book.specs.BookChecks.{head_checks}
use Rattle.flat_record.specs.Classes.{run_classes}
use Rattle.model.specs.Checks.{Check, must, size_checks}
use Rattle.model.specs.Rows.{Rows}
use Rattle.plan.specs.Answers.{lengths_call, passes_call, width_call}
use Rattle.reducer.specs.OpenCalls.{rest}
use Rattle.rounds.specs.Rounds.{run_rounds}
use Rattle.semantics.specs.CallList.{run_list}
use Rattle.semantics.specs.Perform.{perform}
use Rattle.semantics.specs.Run.{run}
use Rattle.model.specs.State.{State}
use Rattle.semantics.specs.Call.{call_of}
use Rattle.replies.specs.Replies.{Reply, answer_length, book_reply, call_reply, list_reply, plan_reply, rest_reply, returned, rounds_reply, tie_reply, written, wrong_length}
use Rattle.ties.specs.TieCall.{perform_tie, tie_call_of}
use Rattle.ties.specs.Ties.{TiedState}

-- ---- calls on a model

-- what a call returns, and the answer and the state that it leaves
pub record Exported : Type 0 where
  pub returned : ℕ
  pub answer : List ℕ
  pub state : State

unfoldable pub exported : ℕ → List ℕ → State → Exported
exported number A s = record { returned = number; answer = A; state = s }

-- a call on the state s that replies q and leaves r; "on a model 3 comes first"
unfoldable pub answered : List ℕ → State → Reply → State → Exported
answered A s q r =
    cond (eqb (length A) answer_length) (exported (returned q) (written q A) r) (exported (wrong_length (size_checks s.model.n s.model.m)) A s)

-- one of the five calls: kind, row, variable, budget
unfoldable pub call_export : List ℕ → State → ℕ → ℕ → ℕ → ℕ → Exported
call_export A s kind row variable budget =
    let p = perform s (call_of s kind row variable budget) in answered A s (call_reply p.answer) p.state

unfoldable pub rest_export : List ℕ → State → Exported
rest_export A s = answered A s (rest_reply (rest s)) s

-- a flat list of numbers, four to a record
unfoldable pub list_export : List ℕ → State → List ℕ → Exported
list_export A s calls = let p = run_list s calls in answered A s (list_reply p.answer) p.state

-- the same with C lent for the classes of its records
unfoldable pub classes_export : List ℕ → State → List ℕ → List ℕ → Exported
classes_export A s calls C = let p = (run_classes s calls C).list in answered A s (list_reply p.answer) p.state

unfoldable pub rounds_export : List ℕ → State → ℕ → Exported
rounds_export A s limit = let p = run_rounds limit s in answered A s (rounds_reply p.answer) (run s p.calls)

-- a tie of k and j: the state without its tie list
unfoldable pub tie_export : List ℕ → TiedState → ℕ → ℕ → Exported
tie_export A s k j = let p = perform_tie s (tie_call_of s k j) in answered A s.state (tie_reply p.answer) p.state.state

-- ---- books and plans

-- what a call on a book, or one that tells size and passes beforehand, returns, and the answer that it leaves
pub record BookExported : Type 0 where
  pub returned : ℕ
  pub answer : List ℕ

unfoldable pub book_exported : ℕ → List ℕ → BookExported
book_exported number A = record { returned = number; answer = A }

-- `before` are the checks that come before the lengths
unfoldable pub book_answered : List ℕ → List Check → Reply → BookExported
book_answered A before q =
    cond (eqb (length A) answer_length) (book_exported (returned q) (written q A)) (book_exported (wrong_length before) A)

-- "in `astrolabe_book_trailer` it comes after 1 and before 3"
unfoldable pub trailer_export : List ℕ → List ℕ → BookExported
trailer_export A bytes = book_answered A (must (leb 16 (length bytes)) 1 ∷ []) (book_reply (trailer_call bytes))

-- "as in `astrolabe_book_trailer`"
unfoldable pub lengths_export : List ℕ → List ℕ → BookExported
lengths_export A bytes = book_answered A (must (leb 16 (length bytes)) 1 ∷ []) (plan_reply (lengths_call bytes))

-- "3, of n alone, comes first"
unfoldable pub width_export : List ℕ → ℕ → List ℤ → BookExported
width_export A n B = book_answered A (size_checks n 0) (plan_reply (width_call n B))

unfoldable pub passes_export : List ℕ → ℕ → List ℤ → List ℕ → BookExported
passes_export A n B calls = book_answered A (size_checks n 0) (plan_reply (passes_call n B calls))

-- "in `astrolabe_book_read` after 1 to 4"
unfoldable pub read_export : List ℕ → List ℕ → List ℤ → Rows → BookExported
read_export A book B rows = book_answered A (head_checks book) (book_reply (read_call book B rows))

-- a buffer that was `before` and that an accepted reading leaves as `after`
unfoldable pub lent_to : {X : Type 0} → List ℕ → List X → List X → List X
lent_to A before after = cond (eqb (length A) answer_length) after before

-- the tie list that a tie of k and j leaves
unfoldable pub ties_export : List ℕ → TiedState → ℕ → ℕ → List ℕ
ties_export A s k j = lent_to A s.ties (perform_tie s (tie_call_of s k j)).state.ties

-- the classes that a list leaves in C
unfoldable pub classes_left : List ℕ → State → List ℕ → List ℕ → List ℕ
classes_left A s calls C = lent_to A C (run_classes s calls C).classes
