-- `integer::floor_div` is floor_div: the machine's quotient where p is at least 0, else one less than that of p + 1 (`quot-floor`,
-- `quot-floor-neg`). Assumes nothing.
use lib.IntN.{pos, ◌+ℤ◌, ◌-ℤ◌}
use lib.Signed.{◌≤ℤ◌, ◌<ℤ◌, quot_z}
use mir.Syntax.{w64}
use mir.Val.{SFits}
use mir.Facts.{to_z-of_z}
use Rattle.integer.proofs.Parts.{le-true, le-false, zarith, one-part-zero, add_parts, sub_parts, fits}
use Rattle.integer.proofs.DivisionLaws.{quot_fits, quot-parts, of_z-pos, quot-floor, quot-floor-neg}
use Rattle.integer.proofs.floor_div.Statement.{statement}
use Rattle.integer.proofs.floor_div.Tie as tie

div-result : tie.Need-nonzero_div-result
div-result c =
    let fp = c.before.ranges.p in
    let fg = c.before.ranges.g in
    (of_z-pos w64 c.before.requires, simp to_z-of_z (quot_fits _ c.before.requires fp))

negative : (c : tie.Else-is_natural) → c.before.args.p <ℤ pos 0
negative c =
    let fp = c.before.ranges.p in
    le-false (pos 0) c.before.args.p (simp to_z-of_z at c.if-is_natural.false)

next_fits : (c : tie.Else-is_natural) → SFits w64 (c.before.args.p +ℤ pos 1)
next_fits c =
    let p = c.before.args.p in
    fits w64 _ (omega (zarith, negative c, add_parts p (pos 1), c.before.ranges.p))

last_fits : (c : tie.Else-is_natural) → SFits w64 (quot_z (c.before.args.p +ℤ pos 1) c.before.args.g -ℤ pos 1)
last_fits c =
    let p = c.before.args.p in
    let q = quot_z (p +ℤ pos 1) c.before.args.g in
    fits w64 _ (omega (zarith, negative c, add_parts p (pos 1), c.before.ranges.p, quot-parts (p +ℤ pos 1) c.before.requires, sub_parts q (pos 1), one-part-zero (p +ℤ pos 1)))

add-result : tie.Need-overflow_add-result
add-result c =
    let fp = c.before.ranges.p in
    simp to_z-of_z (next_fits c)

div-result-2 : tie.Need-nonzero_div-result-else-is_natural
div-result-2 c =
    let fp = c.before.ranges.p in
    let fg = c.before.ranges.g in
    let fn = next_fits c in
    (of_z-pos w64 c.before.requires, simp to_z-of_z (quot_fits _ c.before.requires fn))

sub-result : tie.Need-overflow_sub-result
sub-result c =
    let fp = c.before.ranges.p in
    let fg = c.before.ranges.g in
    let fn = next_fits c in
    let fq = quot_fits _ c.before.requires fn in
    simp to_z-of_z (last_fits c)

returns : tie.Need-returns-then-is_natural
returns c =
    let fp = c.before.ranges.p in
    let fg = c.before.ranges.g in
    let fq = quot_fits _ c.before.requires fp in
    let h : pos 0 ≤ℤ c.before.args.p = le-true (pos 0) c.before.args.p (simp to_z-of_z at c.if-is_natural.true) in
    simp to_z-of_z (quot-floor h c.before.requires)

returns-2 : tie.Need-returns-else-is_natural
returns-2 c =
    let fp = c.before.ranges.p in
    let fg = c.before.ranges.g in
    let fn = next_fits c in
    let fq = quot_fits _ c.before.requires fn in
    let fl = last_fits c in
    simp to_z-of_z (quot-floor-neg (negative c) c.before.requires)

pub floor_div_spec : {M : Type 1} → statement M
floor_div_spec =
    tie.close (tie.spec div-result add-result div-result-2 sub-result returns returns-2)
