-- Rounds whose last one changed nothing, without a Spent side in it, end at rest: that of the last round, by induction over the rounds.
use Prim.Native.Nat.{suc, zero, ℕ}
use lib.Dec.{eqb, eqb→eq}
use mathlib.Core.Bool.{Bool, cond, false, true}
use mathlib.Core.Path.{◌≡◌, refl, subst, sym}
use Rattle.integer.proofs.Tests.{cond_ind}
use Rattle.model.specs.Box.{is_empty}
use Rattle.model.specs.State.{State}
use Rattle.model.specs.Valid.{ValidState}
use Rattle.semantics.specs.Run.{run}
use Rattle.call_laws.specs.Points.{AtRest}
use Rattle.call_laws.proofs.Accepted.{accepted-valid}
use Rattle.call_laws.proofs.Preserved.{run-preserves}
use Rattle.demands.specs.Unmoved.{any_spent}
use Rattle.rounds.specs.RoundRest.{RoundRests}
use Rattle.rounds.specs.Round.{any_change, round}
use Rattle.rounds.proofs.RoundRestLaws.{round-rests}
use Rattle.rounds.proofs.RoundLaws.{run-append}
use Rattle.rounds.specs.Rest.{EndsAtRest}
use Rattle.rounds.specs.Rounds.{Rounds, RoundsAnswer, RoundsEnding, RoundsRun, after, at_limit, ended, infeasible, nothing_changed, refused_rounds, rounds_fault, rounds_from, run_rounds}

abbrev IsUnchanged : RoundsEnding → Type 0
IsUnchanged infeasible = ⊥
IsUnchanged nothing_changed = Unit {0}
IsUnchanged at_limit = ⊥

-- one round, and what comes of it
module _ (left made : ℕ) (s : State) where
  abbrev left_by : State
  left_by = run s (round s)

  abbrev more : Rounds
  more = after (round s) (rounds_from left (suc made) (any_spent s (round s)) left_by)

  abbrev one : RoundsEnding → Rounds
  one e = record { ending = e; rounds = suc made; spent = any_spent s (round s); calls = round s }

  by : (a b : Bool) → (IsUnchanged more.ending → more.spent ≡ false → AtRest (run s more.calls))
      → (a ≡ false → b ≡ false → any_spent s (round s) ≡ false → AtRest left_by)
      → let r = cond a (one infeasible) (cond b more (one nothing_changed)) in
      IsUnchanged r.ending → r.spent ≡ false → AtRest (run s r.calls)
  by true b f g z e = absurd z
  by false true f g u e = f u e
  by false false f g u e = g refl refl e

rounds-from-rest : (left made : ℕ) (last : Bool) (s : State) → ValidState s → let r = rounds_from left made last s in
    IsUnchanged r.ending → r.spent ≡ false → AtRest (run s r.calls)
unfolding rounds_from after RoundRests
rounds-from-rest zero made last s v = λ z e. absurd z
rounds-from-rest (suc left) made last s v =
    let cs = round s in
    let r = run s cs in
    let later = rounds_from left (suc made) (any_spent s cs) r in
    by left made s (is_empty r.model.n r.model.box) (any_change s cs)
    (λ u e. subst AtRest (sym (run-append s cs later.calls))
    (rounds-from-rest left (suc made) (any_spent s cs) r ((run-preserves s cs).valid v) u e))
    (λ full same unspent. (round-rests s v full same unspent).1)

-- ---- the call

-- a round that changed nothing was the last, without a Spent side
abbrev Rested : RoundsAnswer → Type 0
Rested (refused_rounds number) = ⊥
Rested (ended e k b) = IsUnchanged e × (b ≡ false)

pub rounds-rest : (limit : ℕ) (s : State) → EndsAtRest (run s (run_rounds limit s).calls) (run_rounds limit s).answer
unfolding run_rounds rounds_fault
rounds-rest limit s = record { rest = λ k e. at_rest (subst Rested (sym e) (tt, refl)) }
  where
    at_rest : Rested (run_rounds limit s).answer → AtRest (run s (run_rounds limit s).calls)
    at_rest = cond_ind (eqb (rounds_fault s) 0) _ _ (λ (r : RoundsRun). Rested r.answer → AtRest (run s r.calls))
        (λ t w. rounds-from-rest limit 0 false s (accepted-valid s (eqb→eq (rounds_fault s) 0 t)) w.0 w.1)
        (λ _ z. absurd z)
