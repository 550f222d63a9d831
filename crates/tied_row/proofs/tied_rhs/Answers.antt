-- `tied_row::tied_rhs`: b, or b − a_j, which fits 32 bits. Assumes nothing.
use lib.Dec.{eqb}
use lib.IntN.{◌-ℤ◌}
use mathlib.Core.Path.{◌≡◌, ap₂}
use mir.Facts.{to_z-of_z}
use mir.Syntax.{w32}
use mir.Val.{of_z, to_z}
use Rattle.integer.proofs.RangeLaws.{within-fits, within-sub}
use Rattle.integer.proofs.Reading.{read}
use Rattle.integer.proofs.Tests.{eqb-test, test-false}
use Rattle.tied_row.proofs.tied_rhs.Goals as goal

pub returns-then-w-eq0 : goal.returns-then-w-eq0
returns-then-w-eq0 c = rw c.if-w-eq0.true (to_z-of_z {w = w32} c.ranges.b)

pub overflow_sub-result : goal.overflow_sub-result
overflow_sub-result c =
    let fb = c.ranges.b in
    let fa = c.ranges.aj in
    simp to_z-of_z (within-fits w32 tt (within-sub c.requires.1 c.requires.0))

pub returns : goal.returns
returns c =
    let w = c.args.w in
    let e : to_z w32 (of_z w32 c.args.b) -ℤ to_z w32 (of_z w32 c.args.aj) ≡ c.args.b -ℤ c.args.aj =
    ap₂ ◌-ℤ◌ (to_z-of_z {w = w32} c.ranges.b) (to_z-of_z {w = w32} c.ranges.aj) in
    rw (test-false (eqb w 0) (eqb-test w 0) c.if-w-eq0.false)
    (read w32 (rw e (within-fits w32 tt (within-sub c.requires.1 c.requires.0))) e)
