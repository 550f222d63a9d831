-- `little_endian::read_i32`: the machine's signed number of 32 bits is ours. Assumes nothing.
use Rattle.std.proofs.Common.{◌≡◌, ◌∙◌, ap, sym, to_z-of_z, Fits, SFits, to_z, w32}
use Rattle.std.proofs.Math.Facts.{sfits_to_z}
use Rattle.little_endian.specs.Bytes.{integer_at, signed_of}
use Rattle.little_endian.proofs.ByteLaws.{signed-machine}
use Rattle.little_endian.proofs.read_i32.Goals as goal

pub returns : goal.returns
unfolding integer_at
returns c =
    let n = c.read_u32.result in
    let fits : Fits w32 n = record { fits = c.read_u32.type_inv } in
    let fz : SFits w32 (to_z w32 n) = sfits_to_z fits in
    let e : c.cast_signed.result ≡ to_z w32 n = c.cast_signed.ensures in
    rw (e, to_z-of_z fz) (sym (signed-machine n fits) ∙ ap signed_of c.read_u32.ensures)
