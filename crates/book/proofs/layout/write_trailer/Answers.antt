-- `book::layout::write_trailer`: the five numbers one after the other fill the 16 bytes (`trailer-written`).
-- Assumes nothing.
use Prim.Native.Nat.{◌*◌}
use mathlib.Core.Path.{◌∙◌, ap}
use Rattle.little_endian.specs.Bytes.{bytes_of}
use Rattle.little_endian.specs.Pieces.{overwrite}
use Rattle.book.proofs.EncodeLaws.{trailer-written}
use Rattle.book.proofs.layout.write_trailer.Goals as goal

pub returns : goal.returns
returns c =
    let n = c.args.n in
    let m = c.args.m in
    let t = c.args.trailer.now in
    let four = ap (overwrite 4 (bytes_of 4 (8 * n))) c.write_u32.ensures in
    let eight = ap (overwrite 8 (bytes_of 2 n)) (c.write_u32-2.ensures ∙ four) in
    let ten = ap (overwrite 10 (bytes_of 2 m)) (c.write_u16.ensures ∙ eight) in
    c.write_u32-3.ensures
    ∙ ap (overwrite 12 (bytes_of 4 c.args.len)) (c.write_u16-2.ensures ∙ ten)
    ∙ trailer-written n m c.args.len t c.requires.0
