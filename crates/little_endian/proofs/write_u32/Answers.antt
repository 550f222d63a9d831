-- `little_endian::write_u32`: the bytes that std writes are ours, in the place of a part. Assumes nothing.
use Rattle.std.proofs.Common.{◌≡◌, ◌∙◌, arith, ◌-◌, ◌+◌}
use Rattle.little_endian.specs.Bytes.{bytes_of}
use Rattle.little_endian.proofs.ByteLaws.{le_bytes-four, length-bytes_of}
use Rattle.little_endian.proofs.PieceLaws.{overwrite-part}
use Rattle.little_endian.proofs.write_u32.Goals as goal

pub returns : goal.returns
returns c =
    let at = c.args.at in
    let w : at + 4 - at ≡ 4 = omega arith in
    let written : c.copy_from_slice.new.self ≡ bytes_of 4 c.args.x = c.copy_from_slice.ensures.after ∙ c.to_le_bytes.ensures ∙ le_bytes-four c.args.x in
    rw (w, written) (overwrite-part at 4 (bytes_of 4 c.args.x) c.args.bytes.now (length-bytes_of 4 c.args.x))
