-- `page_line::line::next_one`: the bytes that it passes over are not 1, so the ones that are left stay the same.
use Rattle.pages.proofs.WritingLaws.{ones-not}
use mathlib.Core.Path.{◌∙◌, sym}
use native.Mathlib.Omega.{arith}
use Rattle.page_line.proofs.line.next_one.Goals as goal

pub loop-i-preserved : goal.loop-i-preserved
loop-i-preserved c =
    sym (ones-not c.args.part.now c.loop-i.i (omega arith) c.if-part-i-eq1.false) ∙ c.loop-i.invariant
