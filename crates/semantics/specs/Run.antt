-- Runs over a list of calls, read off `perform`; and those of a call list (01's run sheet) with its four counts, off `perform_listed`.
use Rattle.std.specs.Prelude.{◌+◌, ℕ, eqb, Bool, ◌&&◌, cond, false, true, List, [], ◌∷◌}
use Rattle.model.specs.Box.{same_list}
use Rattle.model.specs.State.{State}
use Rattle.row.specs.Outcome.{is_infeasible}
use Rattle.semantics.specs.Call.{Call}
use Rattle.semantics.specs.Perform.{Answer, Performed, perform, perform_listed, probed, propagated, propagated_row, refused, removed, tightened}
use Rattle.semantics.specs.Probe.{ProbeEnding, both_feasible, fixed, infeasible}
use Rattle.semantics.specs.Propagate.{is_none}

-- the state that a call leaves: "A refused call .. leaves the state as it was"
unfoldable pub step : State → Call → State
step s c = (perform s c).state

-- "Each call in a list is given the state that the call before it left"
unfoldable pub run : State → List Call → State
run s [] = s
run s (c ∷ cs) = run (step s c) cs

-- the same of the calls that a list makes
unfoldable pub step_listed : State → Call → State
step_listed s c = (perform_listed s c).state

-- "The run goes on after a refused call."
unfoldable pub run_listed : State → List Call → State
run_listed s [] = s
run_listed s (c ∷ cs) = run_listed (step_listed s c) cs

-- ---- how a call counts

-- "refused, None, changed (a bound, row or table byte), unchanged"; a refused call with its number
pub data CallClass : Type 0 where
  refused_call : ℕ → CallClass
  infeasible_call changed_call unchanged_call : CallClass

unfoldable pub probe_infeasible : ProbeEnding → Bool
probe_infeasible infeasible = true
probe_infeasible (fixed v) = false
probe_infeasible (both_feasible c) = false

-- the answer is None
unfoldable pub answers_none : Answer → Bool
answers_none (refused number) = false
answers_none (propagated_row o moved) = is_infeasible o
answers_none (propagated e passes moved) = is_none e
answers_none (probed e s0 s1) = probe_infeasible e
answers_none (tightened o) = is_infeasible o
answers_none (removed o) = is_infeasible o

unfoldable pub is_refused : Answer → Bool
is_refused (refused number) = true
is_refused (propagated_row o moved) = false
is_refused (propagated e passes moved) = false
is_refused (probed e s0 s1) = false
is_refused (tightened o) = false
is_refused (removed o) = false

-- the number of the check that refused the call
unfoldable pub refusal_of : Answer → ℕ
refusal_of (refused number) = number
refusal_of (propagated_row o moved) = 0
refusal_of (propagated e passes moved) = 0
refusal_of (probed e s0 s1) = 0
refusal_of (tightened o) = 0
refusal_of (removed o) = 0

unfoldable pub same_bytes : List ℕ → List ℕ → Bool
same_bytes [] [] = true
same_bytes [] (y ∷ ys) = false
same_bytes (x ∷ xs) [] = false
same_bytes (x ∷ xs) (y ∷ ys) = eqb x y && same_bytes xs ys

-- every bound, row number, kind and table byte is as it was
unfoldable pub same_state : State → State → Bool
same_state s r =
    let M = s.model in
    let N = r.model in
    same_list M.box N.box
    && same_list M.rows.coefs N.rows.coefs && same_list M.rows.rhs N.rows.rhs && same_bytes M.rows.kinds N.rows.kinds
    && same_bytes s.table r.table

-- what was performed on s, p. "A call that answers None counts there only, also where it voids the box."
abbrev pub class_from : State → Performed → CallClass
class_from s p =
    cond (is_refused p.answer) (refused_call (refusal_of p.answer))
    (cond (answers_none p.answer) infeasible_call (cond (same_state s p.state) unchanged_call changed_call))

unfoldable pub class_of : State → Call → CallClass
class_of s c = class_from s (perform s c)

-- of a call that a list makes: a retired kind is "counted as refused" (02, C-16)
unfoldable pub class_listed : State → Call → CallClass
class_listed s c = class_from s (perform_listed s c)

pub record Counts : Type 0 where
  pub refusals : ℕ
  pub infeasibles : ℕ
  pub changes : ℕ
  pub unchanges : ℕ

unfoldable pub no_counts : Counts
no_counts = record { refusals = 0; infeasibles = 0; changes = 0; unchanges = 0 }

unfoldable pub count_call : CallClass → Counts → Counts
count_call (refused_call number) k = record { refusals = k.refusals + 1; infeasibles = k.infeasibles; changes = k.changes; unchanges = k.unchanges }
count_call infeasible_call k = record { refusals = k.refusals; infeasibles = k.infeasibles + 1; changes = k.changes; unchanges = k.unchanges }
count_call changed_call k = record { refusals = k.refusals; infeasibles = k.infeasibles; changes = k.changes + 1; unchanges = k.unchanges }
count_call unchanged_call k = record { refusals = k.refusals; infeasibles = k.infeasibles; changes = k.changes; unchanges = k.unchanges + 1 }

-- the counts after the calls of a list from s, where k were counted before
unfoldable pub tally : Counts → State → List Call → Counts
tally k s [] = k
tally k s (c ∷ cs) = tally (count_call (class_listed s c) k) (step_listed s c) cs
