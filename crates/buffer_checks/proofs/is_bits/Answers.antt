-- `buffer_checks::is_bits`: the flag is `all` of the tests made so far. Assumes nothing.
use lib.ListN.{length}
use mathlib.Core.Path.{◌≡◌, refl}
use native.Mathlib.Omega.{arith}
use Rattle.integer.specs.Index.{all}
use Rattle.model.specs.Checks.{bits}
use Rattle.model.proofs.CheckLaws.{flag-next}
use Rattle.buffer_checks.proofs.is_bits.Goals as goal

pub loop-t-init : goal.loop-t-init
unfolding all
loop-t-init c = refl

pub loop-t-preserved : goal.loop-t-preserved
loop-t-preserved c = flag-next _ c.loop-t.t-index c.loop-t.invariant

pub returns : goal.returns
unfolding bits
returns c =
    let end : c.loop-t.t-index ≡ length c.args.table.now = omega arith in
    rw end at c.loop-t.invariant
