-- `pack::pack_row`: the words from coefficient j on say the rest of the row, whether its first zeros are skipped or not (`row_more`,
-- `row_zero`). Assumes nothing.
use Prim.Native.Nat.{◌*◌, ◌+◌, ◌-◌, ◌<◌, ◌≤◌}
use lib.Arith.{digits_mod}
use lib.IntN.{pos}
use lib.ListN.{length}
use lib.Seq.{drop-length}
use mathlib.Core.Path.{◌≡◌}
use mir.Facts.{sfits_lit, to_z-of_z}
use mir.Syntax.{w32}
use native.Mathlib.Omega.{arith}
use Rattle.integer.proofs.Parts.{zarith}
use Rattle.integer.proofs.RangeLaws.{within-fits}
use Rattle.integer.proofs.Reading.{eq-read}
use Rattle.packed_row.specs.Words.{coefs_from}
use Rattle.prepared_model.proofs.KeptLaws.{same-inside, same_none, same-wider}
use Rattle.row.proofs.ActivityLaws.{within-coef}
use Rattle.pack.proofs.PackLaws.{coef-packed, coef-small, row_more, row_zero}
use Rattle.pack.proofs.pack_row.Goals as goal

pub loop-j-init : goal.loop-j-init
unfolding coefs_from
loop-j-init c =
    let C = c.args.coefs.now in
    let none : length C - length C ≡ 0 = omega arith in
    (omega arith, same-wider (omega arith) (same_none c.args.place c.args.ws.now), rw (none, drop-length C), rw (none, drop-length C))

pub raised-requires : goal.raised-requires
raised-requires c =
    let b = c.requires.1 (c.loop-j.j - 1) in
    let f = within-fits w32 tt (within-coef b) in
    simp to_z-of_z (omega (zarith, b), omega (zarith, b), omega zarith)

pub overflow_mul-ws : goal.overflow_mul-ws
overflow_mul-ws c =
    let b = c.requires.1 (c.loop-j.j - 1) in
    let f = within-fits w32 tt (within-coef b) in
    let small = coef-small c.raised.result 0 _ b (simp to_z-of_z at c.raised.ensures) in
    omega arith

pub overflow_add-ws : goal.overflow_add-ws
overflow_add-ws c =
    let b = c.requires.1 (c.loop-j.j - 1) in
    let f = within-fits w32 tt (within-coef b) in
    let small = coef-small c.raised.result 0 _ b (simp to_z-of_z at c.raised.ensures) in
    omega (arith, c.requires.0)

pub loop-j-preserved-then-a-ne0 : goal.loop-j-preserved-then-a-ne0
loop-j-preserved-then-a-ne0 c =
    let C = c.args.coefs.now in
    let place = c.args.place in
    let j = c.loop-j.j in
    let zeros = c.loop-j.zeros in
    let x = c.raised.result in
    let b = c.requires.1 (j - 1) in
    let f = within-fits w32 tt (within-coef b) in
    let w = x * 128 + zeros in
    let t : 0 < j = omega arith in
    let few : zeros < 128 = omega (arith, c.requires.0) in
    let said = row_more c.loop-j.ws C place j w zeros t (omega arith) (omega (arith, c.requires, c.loop-j.invariant.1.len)) c.loop-j.invariant.2
    (coef-packed x zeros _ b (simp to_z-of_z at c.raised.ensures) few) (digits_mod x few) in
    (omega arith, same-inside c.loop-j.invariant.1 (place + (j - 1)) w (omega arith) (omega arith), said, said)

pub loop-j-preserved : goal.loop-j-preserved
loop-j-preserved c =
    let C = c.args.coefs.now in
    let place = c.args.place in
    let j = c.loop-j.j in
    let zeros = c.loop-j.zeros in
    let x = c.raised.result in
    let b = c.requires.1 (j - 1) in
    let f = within-fits w32 tt (within-coef b) in
    let w = x * 128 + zeros in
    let t : 0 < j = omega arith in
    let few : zeros < 128 = omega (arith, c.requires.0) in
    let room : place + length C ≤ length c.loop-j.ws = omega (arith, c.requires, c.loop-j.invariant.1.len) in (
      omega arith,
      same-inside c.loop-j.invariant.1 (place + (j - 1)) w (omega arith) (omega arith),
      row_zero c.loop-j.ws C place j w zeros t (omega arith) room c.loop-j.invariant.2 (eq-read w32 f (sfits_lit {z = pos 0} tt) c.if-a-ne0.false),
      row_more c.loop-j.ws C place j w zeros t (omega arith) room c.loop-j.invariant.2
          (coef-packed x zeros _ b (simp to_z-of_z at c.raised.ensures) few) (digits_mod x few),
    )

pub returns : goal.returns
returns c =
    let C = c.args.coefs.now in
    let none : c.loop-j.j ≡ 0 = omega arith in
    let all : length C - c.loop-j.j ≡ length C = omega arith in
    let start : c.args.place + c.loop-j.j ≡ c.args.place = omega arith in
    record { row = rw (all, start, none) at c.loop-j.invariant.3; others = c.loop-j.invariant.1 }
