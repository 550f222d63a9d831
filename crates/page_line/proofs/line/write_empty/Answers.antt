-- `page_line::line::write_empty`: where the line begins, 80 spaces and the line feed.
use Rattle.page_line.proofs.MadeLaws.{empty-made, spaces-length}
use Rattle.pages.proofs.WritingLaws.{heading-ends}
use Rattle.text.proofs.TextLaws.{wrote-length}
use native.Mathlib.Omega.{arith}
use Rattle.page_line.proofs.line.write_empty.Goals as goal

pub write_spaces-end-requires : goal.write_spaces-end-requires
write_spaces-end-requires c =
    let w = c.begin_line-at.ensures in
    omega (arith, w.end, wrote-length w, heading-ends c.args.line (omega arith), c.requires.1)

pub write_byte-requires : goal.write_byte-requires
write_byte-requires c =
    let w = c.begin_line-at.ensures in
    let v = c.write_spaces-end.ensures in
    omega (arith, w.end, wrote-length w, v.end, wrote-length v, spaces-length 80, heading-ends c.args.line (omega arith), c.requires.1)

pub returns : goal.returns
returns c =
    empty-made c.args.line (omega arith) c.begin_line-at.ensures c.write_spaces-end.ensures c.write_byte.ensures
