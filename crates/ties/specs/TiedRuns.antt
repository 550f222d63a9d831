-- Demand 3 with ties: "Ties are made before two runs part, among the calls of the first list; the tie list then belongs to the
-- state, each run gets its copy, and the integer points compared, of the model handed in and at the end of each run, read the list
-- as it stands there."
use Rattle.std.specs.Prelude.{ℕ, T, ℤ, List, [], ◌∷◌, ◌↔◌, ◌≡◌}
use Rattle.semantics.specs.Call.{kind_of, narrows}
use Rattle.semantics.specs.CallChecks.{call_fault}
use Rattle.call_laws.specs.Points.{AtRest, TableHolds}
use Rattle.ties.specs.TieCall.{tie_fault}
use Rattle.ties.specs.TiedRun.{HandedInTied, TiedCall, listed, other, run_tied, step_tied, ties}
use Rattle.ties.specs.Ties.{TiedPoint, TiedState}

-- "after it an accepted call is a visit, a settle or a probe": no tie is accepted there. Of a call list nothing is asked: it accepts
-- no other call (C-16).
unfoldable pub NarrowsTied : TiedState → List TiedCall → Type 0
NarrowsTied s [] = Unit {0}
NarrowsTied s (other c ∷ cs) = (call_fault s.state c ≡ 0 → T (narrows (kind_of c.kind))) × NarrowsTied (step_tied s (other c)) cs
NarrowsTied s (listed xs ∷ cs) = NarrowsTied (step_tied s (listed xs)) cs
NarrowsTied s (ties c ∷ cs) = (tie_fault s c ≡ 0 → ⊥) × NarrowsTied (step_tied s (ties c)) cs

-- of the ends e and f of the two runs from the model handed in, s
pub record TwoTiedRuns (s e f : TiedState) : Type 0 where
  pub same_end : AtRest e.state → ((e.state.model.box ≡ f.state.model.box) ↔ AtRest f.state)
  pub points1 : (x : List ℤ) → TiedPoint e x ↔ TiedPoint s x
  pub points2 : (x : List ℤ) → TiedPoint f x ↔ TiedPoint s x
  pub implied1 : (x : List ℤ) → TiedPoint s x → TableHolds s.state.model.n e.state.table x
  pub implied2 : (x : List ℤ) → TiedPoint s x → TableHolds s.state.model.n f.state.table x

-- (proved as `demand-3-tied`)
unfoldable pub Demand3Tied : Type 0
Demand3Tied =
    (s : TiedState) (before one two : List TiedCall) → HandedInTied s → NarrowsTied (run_tied s before) one → NarrowsTied (run_tied s before) two
    → TwoTiedRuns s (run_tied (run_tied s before) one) (run_tied (run_tied s before) two)

-- over call lists: any calls and ties, refused ones too, and then any two lists (proved as `demand-3-tied-lists`)
unfoldable pub Demand3TiedLists : Type 0
Demand3TiedLists =
    (s : TiedState) (before : List TiedCall) (one two : List ℕ) → HandedInTied s
    → TwoTiedRuns s (step_tied (run_tied s before) (listed one)) (step_tied (run_tied s before) (listed two))
