-- `integer::ceil_div` is ceil_div: the mirror of `floor_div`. Assumes nothing.
use lib.IntN.{◌+ℤ◌, ◌-ℤ◌, pos}
use lib.Signed.{◌<ℤ◌, ◌≤ℤ◌, quot_z}
use mir.Facts.{to_z-of_z}
use mir.Syntax.{w64}
use mir.Val.{SFits}
use Rattle.integer.proofs.DivisionLaws.{of_z-pos, quot-ceil, quot-ceil-pos, quot_fits, quot-parts}
use Rattle.integer.proofs.Parts.{add_parts, fit-in, fits, le-false, le-true, one-part-zero, sub_parts, zarith}
use Rattle.integer.proofs.ceil_div.Statement.{statement}
use Rattle.integer.proofs.ceil_div.Tie as tie

div-result : tie.Need-nonzero_div-result
div-result c =
    let fp = c.before.ranges.p in
    let fg = c.before.ranges.g in
    (of_z-pos w64 c.before.requires, simp to_z-of_z (quot_fits _ c.before.requires fp))

positive : (c : tie.Else-is_at_most_zero) → pos 0 <ℤ c.before.args.p
positive c =
    let fp = c.before.ranges.p in
    le-false c.before.args.p (pos 0) (simp to_z-of_z at c.if-is_at_most_zero.false)

previous-fits : (c : tie.Else-is_at_most_zero) → SFits w64 (c.before.args.p -ℤ pos 1)
previous-fits c =
    let p = c.before.args.p in
    fits w64 _ (omega (zarith, positive c, sub_parts p (pos 1), c.before.ranges.p))

last_fits : (c : tie.Else-is_at_most_zero) → SFits w64 (quot_z (c.before.args.p -ℤ pos 1) c.before.args.g +ℤ pos 1)
last_fits c =
    let p = c.before.args.p in
    let q = quot_z (p -ℤ pos 1) c.before.args.g in
    fits w64 _ (omega (zarith, positive c, sub_parts p (pos 1), fit-in c.before.ranges.p, quot-parts (p -ℤ pos 1) c.before.requires, add_parts q (pos 1), one-part-zero (p -ℤ pos 1)))

sub-result : tie.Need-overflow_sub-result
sub-result c =
    let fp = c.before.ranges.p in
    simp to_z-of_z (previous-fits c)

div-result-2 : tie.Need-nonzero_div-result-else-is_at_most_zero
div-result-2 c =
    let fp = c.before.ranges.p in
    let fg = c.before.ranges.g in
    let fn = previous-fits c in
    (of_z-pos w64 c.before.requires, simp to_z-of_z (quot_fits _ c.before.requires fn))

add-result : tie.Need-overflow_add-result
add-result c =
    let fp = c.before.ranges.p in
    let fg = c.before.ranges.g in
    let fn = previous-fits c in
    let fq = quot_fits _ c.before.requires fn in
    simp to_z-of_z (last_fits c)

returns : tie.Need-returns-then-is_at_most_zero
returns c =
    let fp = c.before.ranges.p in
    let fg = c.before.ranges.g in
    let fq = quot_fits _ c.before.requires fp in
    let h : c.before.args.p ≤ℤ pos 0 = le-true c.before.args.p (pos 0) (simp to_z-of_z at c.if-is_at_most_zero.true) in
    simp to_z-of_z (quot-ceil h c.before.requires)

returns-2 : tie.Need-returns-else-is_at_most_zero
returns-2 c =
    let fp = c.before.ranges.p in
    let fg = c.before.ranges.g in
    let fn = previous-fits c in
    let fq = quot_fits _ c.before.requires fn in
    let fl = last_fits c in
    simp to_z-of_z (quot-ceil-pos (positive c) c.before.requires)

pub ceil_div_spec : {M : Type 1} → statement M
ceil_div_spec =
    tie.close (tie.spec div-result sub-result div-result-2 add-result returns returns-2)
