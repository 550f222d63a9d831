-- `row_activity::term` is min_term: the code is the definition, and its products fit an i64, being at most 10^6 · 32,768.
-- Assumes nothing.
use lib.IntN.{◌*ℤ◌, pos}
use lib.Signed.{lt_z}
use mathlib.Core.Bool.{false, true}
use mathlib.Core.Path.{◌≡◌}
use mir.Facts.{sfits_widen, to_z-of_z}
use mir.Syntax.{w64}
use mir.Val.{SFits}
use Rattle.integer.proofs.RangeLaws.{within-fits, within-mul}
use Rattle.row.specs.Activity.{min_term}
use Rattle.row_activity.proofs.term.Goals as goal

pub overflow_cast-result : goal.overflow_cast-result
overflow_cast-result c = let f = c.ranges.a in simp to_z-of_z (sfits_widen tt f)

pub overflow_cast-result-then-a-gt0 : goal.overflow_cast-result-then-a-gt0
overflow_cast-result-then-a-gt0 c = let f = c.ranges.low in simp to_z-of_z (sfits_widen tt f)

pub overflow_cast-result-else-a-gt0 : goal.overflow_cast-result-else-a-gt0
overflow_cast-result-else-a-gt0 c = let f = c.ranges.a in simp to_z-of_z (sfits_widen tt f)

pub overflow_cast-result-else-a-gt0-2 : goal.overflow_cast-result-else-a-gt0-2
overflow_cast-result-else-a-gt0-2 c = let f = c.ranges.high in simp to_z-of_z (sfits_widen tt f)

pub returns-then-a-gt0 : goal.returns-then-a-gt0
unfolding min_term
returns-then-a-gt0 c =
    let fa = c.ranges.a in
    let fl = c.ranges.low in
    let wa : SFits w64 c.args.a = sfits_widen tt fa in
    let wl : SFits w64 c.args.low = sfits_widen tt fl in
    let wp : SFits w64 (c.args.a *ℤ c.args.low) = within-fits w64 tt (within-mul c.requires.within c.requires.within_2) in
    let t : lt_z (pos 0) c.args.a ≡ true = simp to_z-of_z at c.if-a-gt0.true in
    simp (t, to_z-of_z)

pub returns-else-a-gt0 : goal.returns-else-a-gt0
unfolding min_term
returns-else-a-gt0 c =
    let fa = c.ranges.a in
    let fu = c.ranges.high in
    let wa : SFits w64 c.args.a = sfits_widen tt fa in
    let wu : SFits w64 c.args.high = sfits_widen tt fu in
    let wp : SFits w64 (c.args.a *ℤ c.args.high) = within-fits w64 tt (within-mul c.requires.within c.requires.within_3) in
    let t : lt_z (pos 0) c.args.a ≡ false = simp to_z-of_z at c.if-a-gt0.false in
    simp (t, to_z-of_z)
