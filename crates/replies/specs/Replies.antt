-- What a call of the C interface says: the number that it returns and the twelve places of its answer, for each answer of the calls
-- behind it. Words in quotation marks are D-28's (docs/DECISIONS.md).
use Rattle.std.specs.Prelude.{suc, zero, ℕ, Bool, cond, false, List, [], ◌++◌, ◌∷◌, Result, Ok, Err}
use Rattle.book.specs.Answers as books
use Rattle.model.specs.Checks.{Check, first, must}
use Rattle.model.specs.declared.refusal.Refusal.{Refusal}
use Rattle.plan.specs.Answers as plans
use Rattle.plan.specs.Lengths.{Lengths}
use Rattle.two_sides.specs.Results.{report_of}
use Rattle.reducer.specs.OpenCalls.{RestVerdict, refused_rest, tested}
use Rattle.rounds.specs.Rounds as rounds
use Rattle.row.specs.Outcome.{Outcome, changed, infeasible, unchanged}
use Rattle.semantics.specs.CallList.{ListAnswer, ran, refused_list}
use Rattle.semantics.specs.Perform.{Answer, probed, propagated, propagated_row, refused, removed, tightened}
use Rattle.semantics.specs.RestTest.{at_rest, by_row, by_variable}
use Rattle.semantics.specs.Probe as probe
use Rattle.semantics.specs.Propagate as propagate
use Rattle.ties.specs.TieCall as ties
use Rattle.replies.specs.declared.reply.Reply as code
use Rattle.replies.specs.declared.reply.Reply.TheVariants as codes

-- "The buffer must be exactly 12 long (else refused by 5, nothing written)"
abbrev pub answer_length : ℕ
answer_length = 12

-- the number of the failed check, or what the places of the answer hold
pub data Reply : Type 0 where
  refused_by : ℕ → Reply
  places : List ℕ → Reply

-- k places, the numbers xs first
abbrev pub padded : ℕ → List ℕ → List ℕ
padded zero xs = []
padded (suc k) [] = 0 ∷ padded k []
padded (suc k) (x ∷ xs) = x ∷ padded k xs

-- an answer of the numbers xs; "unused places are 0"
abbrev pub says : List ℕ → Reply
says xs = places (padded answer_length xs)

-- "Each function returns 0 where the call is accepted, else the number of the failed check"
unfoldable pub returned : Reply → ℕ
returned (refused_by number) = number
returned (places xs) = 0

-- "and writes its answer into the answer buffer"; "On a refusal no lent number changes, the answer's among them."
unfoldable pub written : Reply → List ℕ → List ℕ
written (refused_by number) A = A
written (places xs) A = xs

-- the reply to an answer whose errors have numbers: an error is refused by its own, whether a check has that number or not, and of any
-- other answer f says what is said. Of a refusal it is what f says too (`numbered-named`)
abbrev pub numbered_reply : {X E : Type 0} → (E → ℕ) → (Result X Refusal → Reply) → Result X E → Reply
numbered_reply number f (Err e) = refused_by (number e)
numbered_reply number f (Ok x) = f (Ok x)

-- ---- the five calls of a call list

-- "{0 None | 1 Narrowed | 2 Same, moved}", "{0 None | 1 Sharpened | 2 Same}", "{0 None | 1 Dropped | 2 Same}"
unfoldable pub outcome_case : Outcome → ℕ
outcome_case infeasible = 0
outcome_case changed = 1
outcome_case unchanged = 2

-- "{0 None | 1 Settled | 2 Spent, passes, moved}"
unfoldable pub ending_case : propagate.Ending → ℕ
ending_case propagate.infeasible = 0
ending_case propagate.converged = 1
ending_case propagate.budget_spent = 2

abbrev pub bit : Bool → ℕ
bit b = cond b 1 0

abbrev pub side_numbers : probe.Side → List ℕ
side_numbers s = s.passes ∷ bit s.spent ∷ s.moved ∷ []

-- "{0 None | 1 Fixed | 2 Both, v or new bytes, passes0, spent0, moved0, passes1, spent1, moved1}": "A probe's None has place 1 zero and
-- both sides' passes and moved bounds"
abbrev pub probe_reply : ℕ → ℕ → probe.Side → probe.Side → Reply
probe_reply a b s0 s1 = says (a ∷ b ∷ side_numbers s0 ++ side_numbers s1)

unfoldable pub probe_ended : probe.ProbeEnding → probe.Side → probe.Side → Reply
probe_ended probe.infeasible s0 s1 = probe_reply 0 0 s0 s1
probe_ended (probe.fixed v) s0 s1 = probe_reply 1 v s0 s1
probe_ended (probe.both_feasible added) s0 s1 = probe_reply 2 added s0 s1

unfoldable pub call_reply : Answer → Reply
call_reply (refused number) = refused_by number
call_reply (propagated_row o moved) = says (outcome_case o ∷ moved ∷ [])
call_reply (propagated e passes moved) = says (ending_case e ∷ passes ∷ moved ∷ [])
call_reply (probed e s0 s1) = probe_ended e s0 s1
call_reply (tightened o) = says (outcome_case o ∷ [])
call_reply (removed o) = says (outcome_case o ∷ [])

-- ---- the others

-- "{1 yes}" or, with what was found (02, C-13), "{0 no, 0 row | 1 variable, its number}"
unfoldable pub rest_reply : RestVerdict → Reply
rest_reply (refused_rest number) = refused_by number
rest_reply (tested at_rest) = says (1 ∷ [])
rest_reply (tested (by_row r)) = says (0 ∷ 0 ∷ r ∷ [])
rest_reply (tested (by_variable k)) = says (0 ∷ 1 ∷ k ∷ [])

-- "{refused, none, changed, unchanged}"
unfoldable pub list_reply : ListAnswer → Reply
list_reply (refused_list number) = refused_by number
list_reply (ran k) = says (k.refusals ∷ k.infeasibles ∷ k.changes ∷ k.unchanges ∷ [])

-- "{0 None | 1 nothing changed | 2 at the limit, rounds, 1 if a side was Spent in the last round}"
unfoldable pub rounds_case : rounds.RoundsEnding → ℕ
rounds_case rounds.infeasible = 0
rounds_case rounds.nothing_changed = 1
rounds_case rounds.at_limit = 2

unfoldable pub rounds_reply : rounds.RoundsAnswer → Reply
rounds_reply (rounds.refused_rounds number) = refused_by number
rounds_reply (rounds.ended e made spent) = says (rounds_case e ∷ made ∷ bit spent ∷ [])

-- "{1 Tied | 2 Same}"
unfoldable pub tie_reply : ties.TieAnswer → Reply
tie_reply (ties.refused number) = refused_by number
tie_reply ties.tied = says (1 ∷ [])
tie_reply ties.same = says (2 ∷ [])

-- "{n, m}"; a book that was written has no answer, and its number says all
unfoldable pub book_reply : books.Answer → Reply
book_reply (books.refused number) = refused_by number
book_reply (books.sizes_are n m) = says (n ∷ m ∷ [])
book_reply books.written = says []

-- "{n, m, bounds, coefs, rhs, kinds, table, ties, clique_coefs, clique_rhs, book}"
unfoldable pub lengths_reply : Lengths → Reply
lengths_reply l =
    says (l.n ∷ l.m ∷ l.bounds ∷ l.coefs ∷ l.rhs ∷ l.kinds ∷ l.table ∷ l.ties ∷ l.clique_coefs ∷ l.clique_rhs ∷ l.book ∷ [])

-- those; "{width, budget}"; "{width, budget, passes}"
unfoldable pub plan_reply : plans.Answer → Reply
plan_reply (plans.refused number) = refused_by number
plan_reply (plans.lengths_are l) = lengths_reply l
plan_reply (plans.width_is width budget) = says (width ∷ budget ∷ [])
plan_reply (plans.passes_are width budget passes) = says (width ∷ budget ∷ passes ∷ [])

-- ---- behind the enum that the code hands on: the first four numbers, or a probe's

unfoldable pub reply_of : code.Reply → Reply
reply_of (codes.Refused number) = refused_by number
reply_of (codes.Numbers a b c d) = says (a ∷ b ∷ c ∷ d ∷ [])
reply_of (codes.Probed a b s0 s1) = probe_reply a b (report_of s0) (report_of s1)

-- ---- "A wrong answer length is check 5, with the other lengths"

-- the number that a wrong answer length is refused by: of the checks that come before 5 the first that fails, else 5
unfoldable pub wrong_length : List Check → ℕ
wrong_length before = first (before ++ (must false 5 ∷ []))
