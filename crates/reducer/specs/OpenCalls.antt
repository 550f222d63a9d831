-- What an open call is, in the semantics: 01's answers behind the enums that the code returns, and what an answer means. Each reading of an enum is injective (`open-answers-injective`).
use Rattle.std.specs.Prelude.{◌≤◌, ℕ, T, eqb, ℤ, cond, List, [], ◌↔◌, ◌≢◌, ◌≡◌, Result, Ok, Err}
use Rattle.model.specs.declared.refusal.Refusal.{Refusal}
use Rattle.model.specs.Refusals.{number_of}
use Rattle.model.specs.Box.{empty_box}
use Rattle.row.specs.Outcome.{changed, infeasible, unchanged}
use Rattle.semantics.specs.Call.{Call}
use Rattle.semantics.specs.CallChecks.{max_budget}
use Rattle.semantics.specs.Perform.{Answer, Performed, probed, propagated, propagated_row, refused, removed, tightened}
use Rattle.semantics.specs.Probe as semantic
use Rattle.semantics.specs.Propagate as ended
use Rattle.semantics.specs.RestTest.{Rest, at_rest, by_row, by_variable, rest_fault, rest_of}
use Rattle.semantics.specs.Run.{answers_none}
use Rattle.call_laws.specs.Convergence.{MovedByRow, MovedByVariable}
use Rattle.call_laws.specs.Points.{FractionalPointOf, PointOf}
use Rattle.demands.specs.Demand2.{EndsAs, EndsGreatest, SideEnds, SideGreatest}
use Rattle.demands.specs.Passes.{enough_budget}
use Rattle.model.specs.State.{State}
use Rattle.two_sides.specs.Results.{probing_of, report_of}
use Rattle.two_sides.specs.declared.Probing.{Probing}
use Rattle.two_sides.specs.declared.Probing.TheVariants as probes
use Rattle.row.specs.declared.propagation.RowPropagation.{RowPropagation}
use Rattle.row.specs.declared.propagation.RowPropagation.TheVariants as row
use Rattle.row.specs.declared.redundancy.RowRemoval.{RowRemoval}
use Rattle.row.specs.declared.redundancy.RowRemoval.TheVariants as removes
use Rattle.row.specs.declared.tightening.CoefficientTightening.{CoefficientTightening}
use Rattle.row.specs.declared.tightening.CoefficientTightening.TheVariants as tightens
use Rattle.propagation.specs.declared.Propagation.{Propagation}
use Rattle.propagation.specs.declared.Propagation.TheVariants as rows
use Rattle.rest.specs.declared.Rest as rest_search
use Rattle.rest.specs.declared.Rest.TheVariants as rests

unfoldable pub performed : Answer → State → Performed
performed a s = record { answer = a; state = s }

-- ---- 01's answers

-- visit: refused N, None, Narrowed with the number of bounds moved, Same
unfoldable pub row_answer : Result RowPropagation Refusal → Answer
row_answer (Err r) = refused (number_of r)
row_answer (Ok row.Infeasible) = propagated_row infeasible 0
row_answer (Ok (row.Tightened moved)) = propagated_row changed moved
row_answer (Ok row.Unchanged) = propagated_row unchanged 0

-- settle: refused N, None, Settled, Spent with the passes and the bounds moved
unfoldable pub propagate_answer : Result Propagation Refusal → Answer
propagate_answer (Err r) = refused (number_of r)
propagate_answer (Ok (rows.Infeasible passes moved)) = propagated ended.infeasible passes moved
propagate_answer (Ok (rows.Converged passes moved)) = propagated ended.converged passes moved
propagate_answer (Ok (rows.BudgetSpent passes moved)) = propagated ended.budget_spent passes moved

-- probe: refused N, None, Fixed v, Both with the new bytes, and both sides' passes, Spent and bounds moved
unfoldable pub probe_answer : Result Probing Refusal → Answer
probe_answer (Err r) = refused (number_of r)
probe_answer (Ok (probes.Infeasible s0 s1)) = probed semantic.infeasible (report_of s0) (report_of s1)
probe_answer (Ok (probes.Fixed v s0 s1)) = probed (semantic.fixed v) (report_of s0) (report_of s1)
probe_answer (Ok (probes.BothFeasible added s0 s1)) = probed (semantic.both_feasible added) (report_of s0) (report_of s1)

-- of a probe that was accepted, what its probing says
abbrev pub probing_answer : Probing → Answer
probing_answer p = let w = probing_of p [] [] in probed w.ending w.side0 w.side1

-- sharpen: refused N, None, Sharpened, Same
unfoldable pub tighten_answer : Result CoefficientTightening Refusal → Answer
tighten_answer (Err r) = refused (number_of r)
tighten_answer (Ok tightens.Infeasible) = tightened infeasible
tighten_answer (Ok tightens.Tightened) = tightened changed
tighten_answer (Ok tightens.Unchanged) = tightened unchanged

-- drop: refused N, None, Dropped, Same
unfoldable pub remove_answer : Result RowRemoval Refusal → Answer
remove_answer (Err r) = refused (number_of r)
remove_answer (Ok removes.Infeasible) = removed infeasible
remove_answer (Ok removes.Removed) = removed changed
remove_answer (Ok removes.Unchanged) = removed unchanged

-- the rest call: refused N, yes, no by a row, no by a variable
pub data RestVerdict : Type 0 where
  refused_rest : ℕ → RestVerdict
  tested : Rest → RestVerdict

unfoldable pub rest_verdict : Result rest_search.Rest Refusal → RestVerdict
rest_verdict (Err r) = refused_rest (number_of r)
rest_verdict (Ok rests.AtRest) = tested at_rest
rest_verdict (Ok (rests.ByRow r)) = tested (by_row r)
rest_verdict (Ok (rests.ByVariable k)) = tested (by_variable k)

-- "The rest call says yes exactly when the box is at rest."; 02 (C-13): "a no now carries what it found"
unfoldable pub rest : State → RestVerdict
rest s =
    cond (eqb (rest_fault s) 0)
    (tested (rest_of s.model.n s.model.m s.model.rows s.model.box))
    (refused_rest (rest_fault s))

-- what the verdict v says of the state s: a no is never wrong, and what it carries is the lowest
pub record NoMeans (s : State) (v : RestVerdict) : Type 0 where
  -- "the lowest row whose visit changes the box"
  pub row : (r : ℕ) → (v ≡ tested (by_row r)) ↔ ((rest_fault s ≡ 0) × MovedByRow s r)
  -- "or, if none does, the lowest free 0-1 variable whose two sides fail 01's test"
  pub variable : (k : ℕ) → (v ≡ tested (by_variable k)) ↔ ((rest_fault s ≡ 0) × MovedByVariable s k)
  -- and a probe of it that is carried to its end changes the box
  pub probe : (k : ℕ) → v ≡ tested (by_variable k)
      → let M = s.model in (semantic.probe k max_budget M.n M.m M.rows M.box s.table).box ≢ M.box

-- ---- what an answer means, of the state s before and r after, refused or not

-- "After it the integer points are exactly those before it, and no fractional point is added. `None` means that no integer point
-- exists."
pub record Means (s r : State) (a : Answer) : Type 0 where
  pub points : (x : List ℤ) → PointOf r x ↔ PointOf s x
  pub fractional : (x : List ℤ) (d : ℕ) → FractionalPointOf r x d → FractionalPointOf s x d
  pub no_point : T (answers_none a) → (x : List ℤ) → PointOf s x → ⊥

-- of the call c: "every accepted call ends within its pass budget"; 02 (C-15): Settled exactly when the box is quiet, Spent exactly when
-- the budget's passes are made and some visit would still move a bound or answer None; a probe's sides likewise
pub record Ends (c : Call) (s r : State) (a : Answer) : Type 0 where
  pub passes : (e : ended.Ending) (p k : ℕ) → a ≡ propagated e p k → (1 ≤ p) × (p ≤ c.budget)
  pub ending : (e : ended.Ending) (p k : ℕ) → a ≡ propagated e p k
      → let M = s.model in EndsAs c.budget M.n M.m M.rows r.model.box e p
  pub side_endings : (e : semantic.ProbeEnding) (s0 s1 : semantic.Side) → a ≡ probed e s0 s1 → s.model.box ≢ empty_box s.model.n
      → SideEnds s c 0 s0 × SideEnds s c 1 s1
  -- 02 (C-24): "A settle whose budget is at least the total width plus 1 is never Spent. It ends in the largest quiet box inside the one
  -- given, or None exactly when there is no quiet box inside."; a probe's sides likewise
  pub greatest : (e : ended.Ending) (p k : ℕ) → a ≡ propagated e p k → enough_budget s.model.n s.model.box ≤ c.budget
      → let M = s.model in EndsGreatest M.n M.m M.rows M.box r.model.box e
  pub sides_greatest : (e : semantic.ProbeEnding) (s0 s1 : semantic.Side) → a ≡ probed e s0 s1 → s.model.box ≢ empty_box s.model.n
      → SideGreatest s c 0 s0 × SideGreatest s c 1 s1
  pub sides : (e : semantic.ProbeEnding) (s0 s1 : semantic.Side) → a ≡ probed e s0 s1 → s.model.box ≢ empty_box s.model.n
      → ((1 ≤ s0.passes) × (s0.passes ≤ c.budget)) × ((1 ≤ s1.passes) × (s1.passes ≤ c.budget))
