-- `buffer_checks::in_range`: the flag is `all` of the tests made so far. Assumes nothing.
use borrow.Author.Rules.{rules}
use lib.ListN.{length}
use mathlib.Core.Path.{◌≡◌, refl}
use mir.Facts.{to_z-of_z}
use mir.Syntax.{w32}
use mir.Val.{SFits}
use native.Mathlib.Omega.{arith}
use Rattle.integer.specs.Index.{all}
use Rattle.model.specs.Box.{at}
use Rattle.model.specs.Checks.{in_range}
use Rattle.model.proofs.CheckLaws.{flag-next}
use Rattle.buffer_checks.proofs.in_range.Goals as goal

pub loop-x-init : goal.loop-x-init
unfolding all
loop-x-init c = refl

pub loop-x-preserved : goal.loop-x-preserved
loop-x-preserved c =
    let i = c.loop-x.x-index in
    let fx : SFits w32 (at c.args.xs.now i) = search rules in
    let inv = rw (to_z-of_z c.ranges.low, to_z-of_z c.ranges.high) at c.loop-x.invariant in
    rw (to_z-of_z fx, to_z-of_z c.ranges.low, to_z-of_z c.ranges.high) (flag-next _ i inv)

pub returns : goal.returns
unfolding in_range
returns c =
    let end : c.loop-x.x-index ≡ length c.args.xs.now = omega arith in
    rw (end, to_z-of_z c.ranges.low, to_z-of_z c.ranges.high) at c.loop-x.invariant
