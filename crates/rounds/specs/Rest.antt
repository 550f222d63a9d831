-- Rounds that end at rest (02, C-24: "The same is wanted of `reduce`: a book whose last round changed nothing, without None and without
-- a Spent side in a probe of that round, ends at rest."). With a Spent side it need not: x + z ≤ y, y ≤ x over 0..2100 with z free 0-1
-- (D-50).
use Rattle.std.specs.Prelude.{ℕ, false, ◌≡◌}
use Rattle.model.specs.State.{State}
use Rattle.call_laws.specs.Points.{AtRest}
use Rattle.rounds.specs.Rounds.{RoundsAnswer, ended, nothing_changed}

-- of rounds that left r and answered a
pub record EndsAtRest (r : State) (a : RoundsAnswer) : Type 0 where
  pub rest : (rounds : ℕ) → a ≡ ended nothing_changed rounds false → AtRest r
