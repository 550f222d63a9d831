-- `page_line::line::write_slot`: the first literal that is left, or none is.
use Rattle.page_line.proofs.MadeLaws.{slot-here, slot-past}
use Prim.Native.Nat.{◌<◌}
use lib.ListN.{length}
use native.Mathlib.Omega.{arith}
use Rattle.page_line.proofs.line.write_slot.Goals as goal

pub returns-then-next-part : goal.returns-then-next-part
returns-then-next-part c =
    let n = c.next_one-next in
    let p = slot-past c.args.part.now c.args.q n.result n.ensures.same (omega (arith, c.if-next-part.true)) c.write_spaces.ensures in
    record { text = p.0; within = n.ensures.within; left = p.1 }

pub returns : goal.returns
returns c =
    let n = c.next_one-next in
    let less : n.result < length c.args.part.now = omega (arith, n.ensures.within, c.if-next-part.false) in
    let p = slot-here c.args.part.now c.args.q n.result n.ensures.same less (n.ensures.one less) (omega arith) c.write_literal.ensures in
    record { text = p.0; within = omega arith; left = p.1 }
