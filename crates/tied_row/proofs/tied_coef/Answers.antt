-- `tied_row::tied_coef` is tied_coef: the sum and the difference of two coefficients within their limits fit 32 bits.
-- Assumes nothing.
use lib.Dec.{eqb}
use lib.IntN.{◌+ℤ◌, ◌-ℤ◌, ℤ}
use mathlib.Core.Path.{◌≡◌, ap₂}
use mir.Facts.{to_z-of_z}
use mir.Syntax.{w32}
use mir.Val.{SFits, of_z, to_z}
use Rattle.integer.proofs.RangeLaws.{within-add, within-fits, within-sub}
use Rattle.integer.proofs.Reading.{read}
use Rattle.integer.proofs.Tests.{eqb-test, test-false}
use Rattle.ties.specs.TiedRow.{tied_coef}
use Rattle.tied_row.proofs.tied_coef.Goals as goal

-- the two numbers as the machine has them
module _ {x y : ℤ} (f : SFits w32 x) (g : SFits w32 y) where
  sum_is : to_z w32 (of_z w32 x) +ℤ to_z w32 (of_z w32 y) ≡ x +ℤ y
  sum_is = ap₂ ◌+ℤ◌ (to_z-of_z {w = w32} f) (to_z-of_z {w = w32} g)

  less-is : to_z w32 (of_z w32 x) -ℤ to_z w32 (of_z w32 y) ≡ x -ℤ y
  less-is = ap₂ ◌-ℤ◌ (to_z-of_z {w = w32} f) (to_z-of_z {w = w32} g)

pub overflow_add-result : goal.overflow_add-result
overflow_add-result c = rw (sum_is c.ranges.ak c.ranges.aj) (within-fits w32 tt (within-add c.requires.0 c.requires.1))

pub returns-then-w-eq0 : goal.returns-then-w-eq0
unfolding tied_coef
returns-then-w-eq0 c =
    let e = sum_is c.ranges.ak c.ranges.aj in
    rw c.if-w-eq0.true (read w32 (rw e (within-fits w32 tt (within-add c.requires.0 c.requires.1))) e)

pub overflow_sub-result : goal.overflow_sub-result
overflow_sub-result c = rw (less-is c.ranges.ak c.ranges.aj) (within-fits w32 tt (within-sub c.requires.0 c.requires.1))

pub returns : goal.returns
unfolding tied_coef
returns c =
    let w = c.args.w in
    let e = less-is c.ranges.ak c.ranges.aj in
    rw (test-false (eqb w 0) (eqb-test w 0) c.if-w-eq0.false)
    (read w32 (rw e (within-fits w32 tt (within-sub c.requires.0 c.requires.1))) e)
