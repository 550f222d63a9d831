-- A corollary for the solver's author (02, C-24: "The solver's author wants to build on more than agreement."): two solvers that propagate
-- in any order with enough budget, and probe until nothing moves, end in the same box.
use Rattle.std.specs.Prelude.{◌<◌, ◌≤◌, ℕ, T, List, ◌≡◌}
use Rattle.model.specs.Box.{is_free}
use Rattle.model.specs.State.{State}
use Rattle.model.specs.Valid.{ValidState}
use Rattle.semantics.specs.Call.{Call}
use Rattle.semantics.specs.Probe.{probe}
use Rattle.semantics.specs.Propagate.{propagate}
use Rattle.semantics.specs.Run.{run}
use Rattle.call_laws.specs.Points.{AtRest}
use Rattle.demands.specs.Passes.{enough_budget}
use Rattle.demands.specs.TwoRuns.{HandedIn, Narrows}

-- a solver has nothing left to do on s: a settle, and a probe of each free variable, each with at least "the total width plus 1" passes,
-- leave the box
pub record NothingLeft (s : State) : Type 0 where
  pub propagates : (budget : ℕ) × (enough_budget s.model.n s.model.box ≤ budget)
      × (let M = s.model in (propagate budget M.n M.m M.rows M.box).box ≡ M.box)
  pub probes : (k : ℕ) → k < s.model.n → T (is_free s.model.box k) → (budget : ℕ) × (enough_budget s.model.n s.model.box ≤ budget)
      × (let M = s.model in (probe k budget M.n M.m M.rows M.box s.table).box ≡ M.box)

-- then it is at rest (`nothing-left-rests`)
unfoldable pub NothingLeftRests : Type 0
NothingLeftRests = (s : State) → ValidState s → NothingLeft s → AtRest s

-- of the model handed in, s; the direct calls before the parting, before; and two solvers, which make any visits, settles and probes, in any
-- order and with any budgets, until nothing moves (`solvers-agree`)
unfoldable pub SolversAgree : Type 0
SolversAgree =
    (s : State) (before one two : List Call) → HandedIn s → Narrows (run s before) one → Narrows (run s before) two
    → NothingLeft (run (run s before) one) → NothingLeft (run (run s before) two)
    → (run (run s before) one).model.box ≡ (run (run s before) two).model.box
