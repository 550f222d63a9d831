-- `buffer_checks::is_ordered`: the flag is `all` of the tests made so far. Assumes nothing.
use Prim.Native.Nat.{◌/◌}
use borrow.Author.Rules.{rules}
use lib.ListN.{length}
use mathlib.Core.Path.{◌≡◌, refl}
use mir.Facts.{to_z-of_z}
use mir.Syntax.{w32}
use mir.Val.{SFits}
use native.Mathlib.Omega.{arith}
use Rattle.integer.specs.Index.{all}
use Rattle.model.specs.Box.{lower, upper}
use Rattle.model.specs.Checks.{ordered}
use Rattle.model.proofs.CheckLaws.{flag-next}
use Rattle.buffer_checks.proofs.is_ordered.Goals as goal

pub loop-j-init : goal.loop-j-init
unfolding all
loop-j-init c = refl

pub loop-j-preserved : goal.loop-j-preserved
loop-j-preserved c =
    let B = c.args.bounds.now in
    let j = c.loop-j.j in
    let fl : SFits w32 (lower B j) = search rules in
    let fu : SFits w32 (upper B j) = search rules in
    rw (to_z-of_z fl, to_z-of_z fu) (flag-next _ j c.loop-j.invariant)

pub returns : goal.returns
unfolding ordered
returns c =
    let end : c.loop-j.j ≡ length c.args.bounds.now / 2 = omega arith in
    rw end at c.loop-j.invariant
