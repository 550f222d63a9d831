-- `two_sides::survivor`: a branch returns its part, and `is_empty` tells which. Assumes nothing.
use lib.Seq.{length-take-le}
use mathlib.Core.Path.{◌∙◌, refl, sym}
use Rattle.two_sides.proofs.survivor.Statement.{statement}
use Rattle.two_sides.proofs.survivor.Tie as tie

slice-aggregate-is-empty : tie.Need-slice_bounds-is_empty-end
slice-aggregate-is-empty c = sym (length-take-le _ _ c.requires.1)

is-empty-requires : tie.Need-is_empty-requires
is-empty-requires c κs = rw (length-take-le c.args.len c.args.zero.now c.requires.1) c.requires.0

slice-aggregate-result : tie.Need-slice_bounds-result-end
slice-aggregate-result c = sym (length-take-le _ _ c.requires.2)

returns : tie.Need-returns-then-is_empty
returns c n h v = rw (sym (c.is_empty.ensures n h v) ∙ c.if-is_empty.true) refl

slice-aggregate-result-2 : tie.Need-slice_bounds-result-end-2
slice-aggregate-result-2 c = sym (length-take-le _ _ c.requires.1)

returns-2 : tie.Need-returns
returns-2 c n h v = rw (sym (c.is_empty.ensures n h v) ∙ c.if-is_empty.false) refl

pub survivor_spec : {M : Type 1} → statement M
survivor_spec =
    tie.close
    (tie.spec
    slice-aggregate-is-empty
    is-empty-requires
    slice-aggregate-result
    returns
    slice-aggregate-result-2
    returns-2)
