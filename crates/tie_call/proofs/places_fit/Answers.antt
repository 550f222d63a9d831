-- `tie_call::places_fit`: the flag is `all` of the tests made so far. Assumes nothing.
use lib.ListN.{length}
use mathlib.Core.Path.{◌≡◌, refl}
use native.Mathlib.Omega.{arith}
use Rattle.integer.specs.Index.{all}
use Rattle.model.proofs.CheckLaws.{flag-next}
use Rattle.ties.specs.TieCall.{places_fit}
use Rattle.tie_call.proofs.places_fit.Goals as goal

pub loop-place-init : goal.loop-place-init
unfolding all
loop-place-init c = refl

pub loop-place-preserved : goal.loop-place-preserved
loop-place-preserved c = flag-next _ c.loop-place.place-index c.loop-place.invariant

pub returns : goal.returns
unfolding places_fit
returns c =
    let end : c.loop-place.place-index ≡ length c.args.ties.now = omega arith in
    rw end at c.loop-place.invariant
