-- Demand 3 (01, "Two runs"): two runs from one state that both end at rest end in the same box, and no run loses or adds an
-- integer point or records an implication that fails at one.
use Rattle.std.specs.Prelude.{◌*◌, T, ℤ, replicate, true, List, [], ◌∷◌, ◌↔◌, ◌≡◌}
use Rattle.model.specs.Checks.{model_fault, none, table}
use Rattle.model.specs.Model.{Model}
use Rattle.model.specs.State.{State}
use Rattle.semantics.specs.Call.{Call, kind_of, narrows}
use Rattle.semantics.specs.CallChecks.{call_fault}
use Rattle.semantics.specs.Run.{run, step}
use Rattle.call_laws.specs.Points.{AtRest, PointOf, TableHolds}

-- "the model handed in, before the first list, is any that passes the checks, its box void or not, with a table all 0"
pub record HandedIn (s : State) : Type 0 where
  pub accepted : model_fault s.model (table s.table) true ≡ 0
  -- of its box nothing more is asked
  pub zeros : s.table ≡ replicate (4 * (s.model.n * s.model.n)) 0

-- every model that passes the checks is handed in with a table all 0, its box empty or not (proved as `handed-in`)
unfoldable pub EveryModelHandedIn : Type 0
EveryModelHandedIn =
    (M : Model) → model_fault M none true ≡ 0 → HandedIn (record { model = M; table = replicate (4 * (M.n * M.n)) 0 })

-- "after it an accepted call is a visit, a settle or a probe": of the calls that the run from s makes
unfoldable pub Narrows : State → List Call → Type 0
Narrows s [] = Unit {0}
Narrows s (c ∷ cs) = (call_fault s c ≡ 0 → T (narrows (kind_of c.kind))) × Narrows (step s c) cs

-- Of the model handed in, s; the calls before the parting, before; and those of the two runs after it, one and two.
-- "If the first run ends at rest .., the two end boxes are equal in every bound exactly when the second ends at rest too. At the
-- end of each run, at rest or not, the integer points are exactly those of the model handed in, and each recorded implication
-- holds at all of them."
pub record TwoRuns (s : State) (before one two : List Call) : Type 0 where
  pub same_end : AtRest (run (run s before) one)
      → (((run (run s before) one).model.box ≡ (run (run s before) two).model.box) ↔ AtRest (run (run s before) two))
  pub points1 : (x : List ℤ) → PointOf (run (run s before) one) x ↔ PointOf s x
  pub points2 : (x : List ℤ) → PointOf (run (run s before) two) x ↔ PointOf s x
  pub implied1 : (x : List ℤ) → PointOf s x → TableHolds s.model.n (run (run s before) one).table x
  pub implied2 : (x : List ℤ) → PointOf s x → TableHolds s.model.n (run (run s before) two).table x

-- "All this is a single claim about the three lists together" (proved as `demand-3`). "Two runs that end at rest still agree with =
-- rows in the model." (02, C-14)
unfoldable pub Demand3 : Type 0
Demand3 =
    (s : State) (before one two : List Call) → HandedIn s → Narrows (run s before) one → Narrows (run s before) two → TwoRuns s before one two
