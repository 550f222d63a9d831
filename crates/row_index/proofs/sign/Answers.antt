-- `row_index::sign` is sign_of. Assumes nothing.
use lib.IntN.{pos}
use lib.Signed.{lt_z}
use mathlib.Core.Bool.{false, true}
use mathlib.Core.Path.{◌≡◌}
use mir.Facts.{to_z-of_z}
use mir.Syntax.{w32}
use mir.Val.{SFits}
use Rattle.row_index.specs.Index.{sign_of}
use Rattle.row_index.proofs.sign.Goals.{Start}
use Rattle.row_index.proofs.sign.Goals as goal

abbrev a-fits : (s : Start) → SFits w32 s.args.a
a-fits s = s.ranges.a

ruleset decode = (to_z-of_z, a-fits)

pub returns-then-a-gt0 : goal.returns-then-a-gt0
unfolding sign_of
returns-then-a-gt0 c =
    let t : lt_z (pos 0) c.args.a ≡ true = simp decode at c.if-a-gt0.true in
    rw t

pub returns-then-a-lt0 : goal.returns-then-a-lt0
unfolding sign_of
returns-then-a-lt0 c =
    let t : lt_z (pos 0) c.args.a ≡ false = simp decode at c.if-a-gt0.false in
    let u : lt_z c.args.a (pos 0) ≡ true = simp decode at c.if-a-lt0.true in
    rw (t, u)

pub returns : goal.returns
unfolding sign_of
returns c =
    let t : lt_z (pos 0) c.args.a ≡ false = simp decode at c.if-a-gt0.false in
    let u : lt_z c.args.a (pos 0) ≡ false = simp decode at c.if-a-lt0.false in
    rw (t, u)
