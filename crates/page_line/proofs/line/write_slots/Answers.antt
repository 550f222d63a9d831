-- `page_line::line::write_slots`: after j turns j literals are written, and those from the j-th on are left.
use Rattle.page_line.proofs.MadeLaws.{as-end, slots-step}
use Rattle.pages.specs.Page.{slots}
use Rattle.text.proofs.TextLaws.{wrote_none}
use mathlib.Core.Path.{refl}
use native.Mathlib.Omega.{arith}
use Rattle.page_line.proofs.line.write_slots.Goals as goal

pub loop-j-init : goal.loop-j-init
unfolding slots
loop-j-init c = (omega arith, refl, as-end (omega arith) (wrote_none _ _ (omega arith)))

pub loop-j-preserved : goal.loop-j-preserved
loop-j-preserved c =
    let l = c.loop-j in
    let w = c.write_slot-next in
    let p = slots-step c.args.part.now c.args.q l.next w.result l.j l.invariant.1 l.invariant.2 w.ensures.text w.ensures.left in
    (w.ensures.within, p.0, p.1)
