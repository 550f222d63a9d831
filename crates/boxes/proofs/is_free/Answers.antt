-- `boxes::is_free` is is_free: a test of the bits of two bounds is the test of the bounds. Assumes nothing.
use borrow.Author.Rules.{rules}
use lib.IntN.{pos}
use mathlib.Core.Path.{refl}
use mir.Facts.{sfits_lit}
use mir.Syntax.{w32}
use mir.Val.{SFits}
use Rattle.model.specs.Box.{is_free, lower, upper}
use Rattle.model.proofs.BitTests.{eq-bits, other-bits, same_bits}
use Rattle.boxes.proofs.is_free.Goals as goal

pub returns-then-bounds-k-ne0 : goal.returns-then-bounds-k-ne0
unfolding is_free
returns-then-bounds-k-ne0 c =
    let a = c.args in
    rw (other-bits w32 (lower a.bounds.now a.k) (pos 0) c.if-bounds-k-ne0.true) refl

pub returns : goal.returns
unfolding is_free
returns c =
    let a = c.args in
    let l : SFits w32 (lower a.bounds.now a.k) = search rules in
    let u : SFits w32 (upper a.bounds.now a.k) = search rules in
    rw (same_bits w32 l (sfits_lit {z = pos 0} tt) c.if-bounds-k-ne0.false) (eq-bits w32 u (sfits_lit {z = pos 1} tt))
