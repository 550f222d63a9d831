-- `page_line::line::write_further`: where the line begins, 23 spaces and the next literals.
use Rattle.page_line.proofs.MadeLaws.{further-made, spaces-length}
use Rattle.pages.proofs.WritingLaws.{heading-ends}
use Rattle.pages.specs.Writing.{ones_from}
use Rattle.text.proofs.TextLaws.{wrote-length}
use native.Mathlib.Omega.{arith}
use Rattle.page_line.proofs.line.write_further.Goals as goal

pub write_spaces-literals-requires : goal.write_spaces-literals-requires
write_spaces-literals-requires c =
    let w = c.begin_line-at.ensures in
    omega (arith, w.end, wrote-length w, heading-ends c.args.line (omega arith))

pub write_literals-requires-clause-at_in_bounds : goal.write_literals-requires-clause-at_in_bounds
write_literals-requires-clause-at_in_bounds c =
    let w = c.begin_line-at.ensures in
    let v = c.write_spaces-literals.ensures in
    omega (arith, w.end, wrote-length w, v.end, wrote-length v, spaces-length 23, heading-ends c.args.line (omega arith))

pub returns-clause-text : goal.returns-clause-text
returns-clause-text c =
    further-made c.args.line (ones_from c.args.part.now c.args.q) (omega arith) c.begin_line-at.ensures c.write_spaces-literals.ensures c.write_literals.ensures.text
