-- `little_endian::integers::are_in_range`: the flag is `all` of the tests made so far. Assumes nothing.
use Rattle.std.proofs.Common.{◌≡◌, length, refl, arith}
use mir.Facts.{to_z-of_z}
use mir.Syntax.{w32}
use mir.Val.{SFits}
use Rattle.integer.specs.Index.{all}
use Rattle.model.specs.Checks.{in_range}
use Rattle.model.proofs.CheckLaws.{flag-next}
use Rattle.little_endian.specs.Bytes.{integers_at}
use Rattle.little_endian.proofs.ByteLaws.{at-integers_at, length-integers_at}
use Rattle.little_endian.proofs.integers.are_in_range.Invariants.{test}
use Rattle.little_endian.proofs.integers.are_in_range.Goals as goal

pub loop-k-init : goal.loop-k-init
unfolding all
loop-k-init c = refl

pub read_i32-requires : goal.read_i32-requires
read_i32-requires c = c.requires c.loop-k.k c.loop-k-test.true

-- the test of the code is test k
pub loop-k-preserved : goal.loop-k-preserved
loop-k-preserved c =
    let a = c.args in
    let k = c.loop-k.k in
    let fl = c.ranges.low in
    let fh = c.ranges.high in
    let l = to_z-of_z c.ranges.low in
    let h = to_z-of_z c.ranges.high in
    let fx : SFits w32 c.read_i32.result = record { sfits = c.read_i32.type_inv } in
    let e = at-integers_at a.at a.step a.count a.bytes.now k c.loop-k-test.true in
    let tested : c.is_between-ok.result ≡ test (integers_at a.at a.step a.count a.bytes.now) a.low a.high k
    = rw (e, ← c.read_i32.ensures) (simp to_z-of_z at c.is_between-ok.ensures) in
    rw (l, h, tested) (flag-next _ k (rw (l, h) at c.loop-k.invariant))

pub returns : goal.returns
unfolding in_range
returns c =
    let a = c.args in
    let end : c.loop-k.k ≡ length (integers_at a.at a.step a.count a.bytes.now) =
    omega (arith, length-integers_at a.at a.step a.count a.bytes.now) in
    rw (end, to_z-of_z c.ranges.low, to_z-of_z c.ranges.high) at c.loop-k.invariant
