-- `page_call::sheet::fill_page`: the empty lines up to `next` are written.
use Prim.Native.Nat.{◌-◌}
use Rattle.page_call.proofs.SheetLaws.{empty-step}
use Rattle.pages.specs.Writing.{filled, sheet, start}
use Rattle.text.proofs.TextLaws.{wrote-length, wrote_none}
use mathlib.Core.Path.{◌≡◌}
use native.Mathlib.Omega.{arith}
use Rattle.page_call.proofs.sheet.fill_page.Goals as goal

pub loop-next-init : goal.loop-next-init
unfolding sheet start filled
loop-next-init c =
    let line = c.args.line in
    let e : line - line ≡ 0 = omega arith in
    rw e (wrote_none _ _ (omega arith))

pub write_empty-requires : goal.write_empty-requires
unfolding start filled
write_empty-requires c = (omega arith, omega (arith, wrote-length c.loop-next.invariant))

pub loop-next-preserved : goal.loop-next-preserved
loop-next-preserved c =
    let l = c.loop-next in
    empty-step c.args.line l.next l.auto.next l.invariant c.write_empty.ensures

pub returns : goal.returns
unfolding filled
returns c =
    let l = c.loop-next in
    let e : l.next ≡ filled c.args.line = omega arith in
    rw e at l.invariant
