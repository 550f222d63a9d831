-- `buffer_checks::is_empty_box`: the loop passes the variables with l = 1 and u = 0, and by `is_empty-bounds` these are the empty box.
-- Assumes nothing.
use borrow.Author.Count.{below_more, below_none}
use borrow.Author.Tests.{eqb-false, eqb-true}
use borrow.Author.Rules.{rules}
use lib.IntN.{pos}
use mathlib.Core.Path.{◌∙◌, ◌≡◌, ap, sym}
use mir.Facts.{to_z-of_z}
use mir.Syntax.{w32}
use mir.Val.{SFits, of_z, to_z}
use native.Mathlib.Omega.{arith}
use Rattle.integer.proofs.Tests.{test-false, test-true, told-false, told-true}
use Rattle.model.specs.Box.{lower, upper}
use Rattle.model.proofs.BoxLaws.{is_empty-bounds}
use Rattle.buffer_checks.proofs.is_empty_box.Goals as goal

pub returns-then-not-is_product : goal.returns-then-not-is_product
returns-then-not-is_product c =
    let a = c.args in
    let ne = eqb-false _ _ (told-false _ c.is_product.ensures (search rules)) in
    sym (test-false _ (is_empty-bounds a.n a.bounds.now) (λ h. ne h.0))

pub loop-j-init : goal.loop-j-init
loop-j-init c = (eqb-true _ _ (told-true _ c.is_product.ensures (search rules)), below_none _)

pub returns-then-bounds-j-ne1 : goal.returns-then-bounds-j-ne1
returns-then-bounds-j-ne1 c =
    let a = c.args in
    let j = c.loop-j.j in
    sym (test-false _ (is_empty-bounds a.n a.bounds.now) (λ h. c.if-bounds-j-ne1.true (ap (of_z w32) (h.1 j (omega arith)).0)))

pub returns-then-bounds-j-ne0 : goal.returns-then-bounds-j-ne0
returns-then-bounds-j-ne0 c =
    let a = c.args in
    let j = c.loop-j.j in
    sym (test-false _ (is_empty-bounds a.n a.bounds.now) (λ h. c.if-bounds-j-ne0.true (ap (of_z w32) (h.1 j (omega arith)).1)))

pub loop-j-preserved : goal.loop-j-preserved
loop-j-preserved c =
    let B = c.args.bounds.now in
    let j = c.loop-j.j in
    let fl : SFits w32 (lower B j) = search rules in
    let fu : SFits w32 (upper B j) = search rules in
    let l : lower B j ≡ pos 1 = sym (to_z-of_z fl) ∙ ap (to_z w32) c.if-bounds-j-ne1.false in
    let u : upper B j ≡ pos 0 = sym (to_z-of_z fu) ∙ ap (to_z w32) c.if-bounds-j-ne0.false in
    (c.loop-j.invariant.0, below_more _ _ c.loop-j.invariant.1 (l, u))

pub returns : goal.returns
returns c =
    let a = c.args in
    let inv = c.loop-j.invariant in
    sym (test-true _ (is_empty-bounds a.n a.bounds.now) (inv.0, λ j h. inv.1 j (omega arith)))
