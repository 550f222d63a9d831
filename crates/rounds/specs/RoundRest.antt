-- A round that changes nothing (02, C-24: "a book whose last round changed nothing, without None and without a Spent side in a probe of
-- that round, ends at rest").
use Rattle.std.specs.Prelude.{false, ◌≡◌}
use Rattle.model.specs.Box.{is_empty}
use Rattle.model.specs.State.{State}
use Rattle.model.specs.Valid.{ValidState}
use Rattle.semantics.specs.Run.{run}
use Rattle.call_laws.specs.Points.{AtRest}
use Rattle.demands.specs.Unmoved.{any_spent}
use Rattle.rounds.specs.Round.{any_change, round}

-- it leaves the state as it was, and that is at rest (`round-rests`)
unfoldable pub RoundRests : Type 0
RoundRests =
    (s : State) → ValidState s → let r = run s (round s) in
    is_empty r.model.n r.model.box ≡ false → any_change s (round s) ≡ false → any_spent s (round s) ≡ false → (r ≡ s) × AtRest r
