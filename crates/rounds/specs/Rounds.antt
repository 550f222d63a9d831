-- The rounds of `reduce` (01, "Book"): what a round is stands in `Round` beside it; "It ends after a round that changed nothing,
-- after 8 rounds, or at None."
use Rattle.std.specs.Prelude.{◌*◌, suc, zero, ℕ, eqb, ℤ, replicate, Bool, cond, false, true, List, [], ◌++◌, ◌↔◌, ◌≡◌}
use Rattle.model.specs.Box.{is_empty}
use Rattle.model.specs.Checks.{model_fault, table}
use Rattle.semantics.specs.Run.{run}
use Rattle.semantics.specs.Call.{Call}
use Rattle.call_laws.specs.Points.{FractionalPointOf, PointOf, TableHolds}
use Rattle.demands.specs.Unmoved.{any_spent}
use Rattle.model.specs.State.{State}
use Rattle.rounds.specs.Round.{any_change, round}

-- how they end: at None, after a round that changed nothing, at the limit
pub data RoundsEnding : Type 0 where
  infeasible nothing_changed at_limit : RoundsEnding

-- the ending, the number of rounds made, whether a side of a probe in the last of them was Spent (02, C-24: "without a Spent side in a
-- probe of that round"), and all the calls that they made
pub record Rounds : Type 0 where
  pub ending : RoundsEnding
  pub rounds : ℕ
  pub spent : Bool
  pub calls : List Call

-- the calls cs, and then those of r
unfoldable pub after : List Call → Rounds → Rounds
after cs r = record { ending = r.ending; rounds = r.rounds; spent = r.spent; calls = cs ++ r.calls }

-- `left` rounds may still be made, `made` are made, and `last` says of the last of these whether a side in it was Spent. The number of
-- rounds includes the last, unchanged round, and the round in which None came (D-13): that one, broken off, is then the last.
unfoldable pub rounds_from : (left : ℕ) → ℕ → Bool → State → Rounds
rounds_from zero made last s = record { ending = at_limit; rounds = made; spent = last; calls = [] }
rounds_from (suc left) made last s =
    let cs = round s in
    let r = run s cs in
    let spent : Bool = any_spent s cs in
    let more : Rounds = after cs (rounds_from left (suc made) spent r) in
    cond (is_empty r.model.n r.model.box) (record { ending = infeasible; rounds = suc made; spent = spent; calls = cs })
    (cond (any_change s cs) more (record { ending = nothing_changed; rounds = suc made; spent = spent; calls = cs }))

-- ---- the call

-- refused by the checks of the model and 10, or the rounds with the given limit: how they end, how many were made, and whether a side of
-- a probe in the last of them was Spent; without a round there is none
pub data RoundsAnswer : Type 0 where
  refused_rounds : ℕ → RoundsAnswer
  ended : RoundsEnding → ℕ → Bool → RoundsAnswer

pub record RoundsRun : Type 0 where
  pub answer : RoundsAnswer
  pub calls : List Call

unfoldable pub rounds_fault : State → ℕ
rounds_fault s = model_fault s.model (table s.table) true

unfoldable pub run_rounds : ℕ → State → RoundsRun
run_rounds limit s =
    let r = rounds_from limit 0 false s in
    cond (eqb (rounds_fault s) 0) (record { answer = ended r.ending r.rounds r.spent; calls = r.calls })
    (record { answer = refused_rounds (rounds_fault s); calls = [] })

-- demands 2 and 3 of the whole, from s to r with the answer a: the integer points are those of the model handed in, and no
-- fractional point is added; None means that no integer point exists
pub record SamePoints (s r : State) (a : RoundsAnswer) : Type 0 where
  pub points : (x : List ℤ) → PointOf r x ↔ PointOf s x
  pub fractional : (x : List ℤ) (d : ℕ) → FractionalPointOf r x d → FractionalPointOf s x d
  pub no_point : (rounds : ℕ) (spent : Bool) → a ≡ ended infeasible rounds spent → (x : List ℤ) → PointOf s x → ⊥
  -- each recorded implication holds at all of them, where those recorded before do; all do where the table was all 0
  pub holds : (x : List ℤ) → PointOf s x → TableHolds s.model.n s.table x → TableHolds s.model.n r.table x
  pub implied : s.table ≡ replicate (4 * (s.model.n * s.model.n)) 0 → (x : List ℤ) → PointOf s x → TableHolds s.model.n r.table x
