-- `row_tightening::may_tighten` is may_tighten: |a| is a where a is above 0, and else −a. Assumes nothing.
use lib.IntN.{◌+ℤ◌, ◌-ℤ◌, pos}
use lib.Signed.{◌<ℤ◌, ◌≤ℤ◌, lt_z}
use mathlib.Core.Path.{◌∙◌, ap₂, refl}
use mir.Facts.{to_z-of_z}
use mir.Syntax.{w32, w64}
use Rattle.integer.proofs.Parts.{lt-is, lt-isn't}
use Rattle.integer.proofs.RangeLaws.{within-add, within-fits, within-sub}
use Rattle.integer.proofs.Reading.{gt-read, le_read, read, read_wide, wide_fits}
use Rattle.row_tightening.proofs.TighteningCases.{less-abs-neg, less-abs-pos}
use Rattle.row_tightening.proofs.may_tighten.Goals as goal

pub overflow_cast-rhs : goal.overflow_cast-rhs
overflow_cast-rhs c = wide_fits c.ranges.b

pub returns-then-rhs-most : goal.returns-then-rhs-most
returns-then-rhs-most c =
    let a = c.args.a in
    let b = c.args.b in
    let L = c.args.most in
    let wide_is = read_wide c.ranges.a in
    let rhs-is = read_wide c.ranges.b in
    let most-is = to_z-of_z {w = w64} c.ranges.most in
    let h = le_read most-is rhs-is c.if-rhs-most.true in
    rw (lt-isn't h) refl

pub overflow_cast-result : goal.overflow_cast-result
overflow_cast-result c = wide_fits c.ranges.a

pub overflow_add-result : goal.overflow_add-result
overflow_add-result c =
    let a = c.args.a in
    let b = c.args.b in
    let L = c.args.most in
    let wide_is = read_wide c.ranges.a in
    let rhs-is = read_wide c.ranges.b in
    let most-is = to_z-of_z {w = w64} c.ranges.most in
    rw (ap₂ ◌+ℤ◌ most-is wide_is) (within-fits w64 tt (within-add c.requires.within_2 c.requires.within))

pub returns-then-a-le0 : goal.returns-then-a-le0
returns-then-a-le0 c =
    let a = c.args.a in
    let b = c.args.b in
    let L = c.args.most in
    let wide_is = read_wide c.ranges.a in
    let rhs-is = read_wide c.ranges.b in
    let most-is = to_z-of_z {w = w64} c.ranges.most in
    let breakable : b <ℤ L = gt-read most-is rhs-is c.if-rhs-most.false in
    let e = ap₂ ◌+ℤ◌ most-is wide_is in
    let p : a ≤ℤ pos 0 = le_read (to_z-of_z {w = w32} c.ranges.a) refl c.if-a-le0.true in
    ap₂ lt_z (read w64 (rw e (within-fits w64 tt (within-add c.requires.within_2 c.requires.within))) e) rhs-is
    ∙ rw (lt-is breakable, less-abs-neg L p) refl

pub overflow_cast-result-2 : goal.overflow_cast-result-2
overflow_cast-result-2 c = wide_fits c.ranges.a

pub overflow_sub-result : goal.overflow_sub-result
overflow_sub-result c =
    let a = c.args.a in
    let b = c.args.b in
    let L = c.args.most in
    let wide_is = read_wide c.ranges.a in
    let rhs-is = read_wide c.ranges.b in
    let most-is = to_z-of_z {w = w64} c.ranges.most in
    rw (ap₂ ◌-ℤ◌ most-is wide_is) (within-fits w64 tt (within-sub c.requires.within_2 c.requires.within))

pub returns : goal.returns
returns c =
    let a = c.args.a in
    let b = c.args.b in
    let L = c.args.most in
    let wide_is = read_wide c.ranges.a in
    let rhs-is = read_wide c.ranges.b in
    let most-is = to_z-of_z {w = w64} c.ranges.most in
    let breakable : b <ℤ L = gt-read most-is rhs-is c.if-rhs-most.false in
    let e = ap₂ ◌-ℤ◌ most-is wide_is in
    let p : pos 0 <ℤ a = gt-read (to_z-of_z {w = w32} c.ranges.a) refl c.if-a-le0.false in
    ap₂ lt_z (read w64 (rw e (within-fits w64 tt (within-sub c.requires.within_2 c.requires.within))) e) rhs-is
    ∙ rw (lt-is breakable, less-abs-pos L p) refl
