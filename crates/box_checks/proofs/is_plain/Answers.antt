-- `box_checks::is_plain`: the flag is `all` of the tests made so far. Assumes nothing.
use Rattle.std.proofs.Common.{rules}
use mathlib.Core.Path.{◌∙◌, refl}
use mir.Facts.{to_z-of_z}
use mir.Syntax.{w32}
use mir.Val.{SFits}
use Rattle.integer.specs.Index.{all}
use Rattle.model.specs.Box.{lower, upper}
use Rattle.model.proofs.CheckLaws.{flag-next}
use Rattle.box_checks.proofs.is_plain.Goals as goal

pub loop-j-init : goal.loop-j-init
unfolding all
loop-j-init c = refl

pub loop-j-preserved : goal.loop-j-preserved
loop-j-preserved c =
    let B = c.args.bounds.now in
    let j = c.loop-j.j in
    let fl : SFits w32 (lower B j) = search rules in
    let fu : SFits w32 (upper B j) = search rules in
    let most = to_z-of_z {w = w32} (record { sfits = c.highest-most.type_inv }) ∙ (simp to_z-of_z at c.highest-most.ensures) in
    rw (to_z-of_z fl, to_z-of_z fu, most) (flag-next _ j c.loop-j.invariant)
