-- `boxes::hull`: the loop writes the lesser of the lower and the greater of the upper bounds of one variable after the
-- other (`write_to`). Assumes nothing.
use borrow.Author.Rules.{rules}
use mathlib.Core.Path.{◌∙◌, ◌≡◌, ap₂, refl, sym}
use mir.Facts.{to_z-of_z}
use mir.Syntax.{w32}
use mir.Val.{SFits}
use native.Mathlib.Omega.{arith}
use Rattle.integer.specs.Order.{max_z, min_z}
use Rattle.integer.proofs.Reading.{read}
use Rattle.model.specs.Box.{hull, lower, upper, with_bounds}
use Rattle.model.proofs.BoxLoops.{write_to, write_to-all, write_to-more}
use Rattle.boxes.proofs.hull.Invariants.{highs, lows}
use Rattle.boxes.proofs.hull.Goals as goal

pub loop-j-init : goal.loop-j-init
unfolding write_to
loop-j-init c = refl

pub loop-j-preserved : goal.loop-j-preserved
unfolding with_bounds
loop-j-preserved c =
    let a = c.args in
    let j = c.loop-j.j in
    let l0 : SFits w32 (lower a.zero.now j) = search rules in
    let l1 : SFits w32 (lower a.one.now j) = search rules in
    let u0 : SFits w32 (upper a.zero.now j) = search rules in
    let u1 : SFits w32 (upper a.one.now j) = search rules in
    let low = read w32 (record { sfits = c.lesser.type_inv }) (c.lesser.ensures ∙ ap₂ min_z (to_z-of_z l0) (to_z-of_z l1)) in
    let high = read w32 (record { sfits = c.greater.type_inv }) (c.greater.ensures ∙ ap₂ max_z (to_z-of_z u0) (to_z-of_z u1)) in
    rw (low, high, c.loop-j.invariant) (sym (write_to-more (lows a.zero.now a.one.now) (highs a.zero.now a.one.now) a.bounds.now j))

pub returns : goal.returns
unfolding hull
returns c n h =
    let a = c.args in
    let end : c.loop-j.j ≡ n = omega arith in
    c.loop-j.invariant ∙ rw end (write_to-all (lows a.zero.now a.one.now) (highs a.zero.now a.one.now) a.bounds.now n h)
