-- `little_endian::write_i32`: the machine's 32 bits of a signed number are ours. Assumes nothing.
use Rattle.std.proofs.Common.{◌∙◌, ◌≡◌, ℕ, sym, ap, of_z, to_z-of_z, w32}
use Rattle.little_endian.specs.Bytes.{bits_of, bytes_of, integer_bytes}
use Rattle.little_endian.specs.Pieces.{overwrite}
use Rattle.little_endian.proofs.ByteLaws.{bits-machine}
use Rattle.little_endian.proofs.write_i32.Goals as goal

pub returns : goal.returns
unfolding integer_bytes
returns c =
    let a = c.args in
    let bits : c.cast_unsigned.result ≡ bits_of a.x = c.cast_unsigned.ensures ∙ ap (of_z w32) (to_z-of_z c.ranges.x) ∙ sym (bits-machine a.x) in
    c.write_u32.ensures ∙ ap (λ (n : ℕ). overwrite a.at (bytes_of 4 n) a.bytes.now) bits
