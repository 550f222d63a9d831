-- Rounds without a limit (02, C-20: "It now goes on until a round changes nothing, or None").
use Rattle.std.specs.Prelude.{◌+◌, ◌<◌, ◌≤◌, suc, ℕ, Bool, cond, true, ◌≢◌, ◌≡◌}
use Rattle.model.specs.Box.{is_empty}
use Rattle.semantics.specs.Run.{run}
use Rattle.demands.specs.Measure.{max_measure, measure}
use Rattle.demands.specs.Unmoved.{any_spent}
use Rattle.model.specs.State.{State}
use Rattle.rounds.specs.Round.{any_change, round}
use Rattle.rounds.specs.Rounds.{Rounds, RoundsAnswer, RoundsRun, after, at_limit, ended, infeasible, nothing_changed, rounds_from, run_rounds}

-- rounds with a limit that is never reached (`rounds-end`), where `made` are made, and `last` says whether a side was Spent in the last
unfoldable pub rounds_on : ℕ → Bool → State → Rounds
rounds_on made last s = rounds_from (measure s + 1) made last s

-- "It now goes on until a round changes nothing, or None": 02's sentence as an equation, with no limit in it (`rounds-go-on`)
unfoldable pub RoundsGoOn : Type 0
RoundsGoOn =
    (made : ℕ) (last : Bool) (s : State) → let cs = round s in let r = run s cs in let spent = any_spent s cs in
    rounds_on made last s ≡ cond (is_empty r.model.n r.model.box) (record { ending = infeasible; rounds = suc made; spent = spent; calls = cs })
    (cond (any_change s cs) (after cs (rounds_on (suc made) spent r)) (record { ending = nothing_changed; rounds = suc made; spent = spent; calls = cs }))

-- the call of it
unfoldable pub all_rounds : State → RoundsRun
all_rounds s = run_rounds (measure s + 1) s

-- "Each round that changes something lowers .." (`round-lowers`)
unfoldable pub RoundsLower : Type 0
RoundsLower = (s : State) → any_change s (round s) ≡ true → measure (run s (round s)) < measure s

-- of rounds from s with `left` still allowed, more than the measure
pub record EndsWithin (left made : ℕ) (last : Bool) (s : State) : Type 0 where
  pub ends : (rounds_from left made last s).ending ≢ at_limit
  pub few : (rounds_from left made last s).rounds ≤ made + measure s + 1
  -- a higher limit changes nothing, neither the answer nor any call
  pub same : (more : ℕ) → measure s < more → rounds_from more made last s ≡ rounds_from left made last s

-- proved as `rounds-end`
unfoldable pub RoundsEnd : Type 0
RoundsEnd = (left made : ℕ) (last : Bool) (s : State) → measure s < left → EndsWithin left made last s

-- a limit above the largest measure is no limit, whatever the arguments (`no-limit`, `never-at-limit`)
unfoldable pub NoLimit : Type 0
NoLimit = (limit : ℕ) (s : State) → max_measure < limit → run_rounds limit s ≡ all_rounds s

unfoldable pub NeverAtLimit : Type 0
NeverAtLimit = (limit : ℕ) (s : State) → max_measure < limit → (rounds : ℕ) (spent : Bool) → (run_rounds limit s).answer ≢ ended at_limit rounds spent

-- of rounds with a limit that answered a, in the contract of the call
pub record NotReached (limit : ℕ) (a : RoundsAnswer) : Type 0 where
  pub ends : max_measure < limit → (rounds : ℕ) (spent : Bool) → a ≢ ended at_limit rounds spent

-- the limit of 64 bits that stands for none, 2⁶⁴ − 1
abbrev pub no_limit : ℕ
no_limit = 18_446_744_073_709_551_615

-- it is none, and is never reached (`without-limit`)
unfoldable pub WithoutLimit : Type 0
WithoutLimit = (s : State) → (run_rounds no_limit s ≡ all_rounds s) × ((rounds : ℕ) (spent : Bool) → (run_rounds no_limit s).answer ≢ ended at_limit rounds spent)
