-- `box_checks::highest`: 28,671 and 4,096 are 32,767. Assumes nothing.
use lib.IntN.{◌+ℤ◌, pos, ℤ}
use lib.Signed.{◌<ℤ◌, ◌≤ℤ◌, le_z}
use mathlib.Core.Path.{◌≡◌}
use mir.Facts.{to_z-of_z}
use mir.Syntax.{w32}
use mir.Val.{SFits}
use Rattle.integer.specs.Order.{min_z}
use Rattle.integer.proofs.Parts.{add_parts, le_z-no, zarith, zify}
use Rattle.integer.proofs.RangeLaws.{within!, within-fits}
use Rattle.integer.proofs.Tests.{false→T, le_test, true→T}
use Rattle.model.specs.Limits.{max_bound, max_width}
use Rattle.box_checks.proofs.highest.Goals as goal

-- a sum with a low number fits
sum_fits : (l : ℤ) → SFits w32 l → l ≤ℤ pos 28_671 → SFits w32 (l +ℤ pos 4_096)
sum_fits l f h = within-fits w32 {m = 2_147_483_647} tt (within! 2_147_483_647 (l +ℤ pos 4_096) (omega (zarith, add_parts l (pos 4_096))))

least-low : (l : ℤ) → l ≤ℤ pos 28_671 → (l +ℤ pos 4_096) ≡ min_z (l +ℤ max_width) max_bound
least-low l h = simp zify (omega zarith)

least-high : (l : ℤ) → pos 28_671 <ℤ l → pos 32_767 ≡ min_z (l +ℤ max_width) max_bound
least-high l h = simp zify (omega zarith)

pub returns-then-low-le28671 : goal.returns-then-low-le28671
returns-then-low-le28671 c =
    let l = c.args.low in
    let f = c.ranges.low in
    let low = (le_test l (pos 28_671)).0 (true→T (le_z l (pos 28_671)) (rw (to_z-of_z f) at c.if-low-le28671.true)) in
    rw (to_z-of_z f, to_z-of_z (sum_fits l f low)) (least-low l low)

pub returns : goal.returns
returns c =
    let l = c.args.low in
    least-high l (le_z-no (false→T (le_z l (pos 28_671)) (rw (to_z-of_z c.ranges.low) at c.if-low-le28671.false)))
