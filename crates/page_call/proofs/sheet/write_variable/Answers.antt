-- `page_call::sheet::write_variable`: the first line and i further ones are written, and the literals behind theirs are left.
use Prim.Native.Nat.{◌+◌}
use Rattle.page_line.proofs.MadeLaws.{as-end}
use Rattle.page_call.proofs.SheetLaws.{further-step, left-next, start-mono, variable-written}
use Rattle.pages.specs.Page.{further_count, further_lines}
use Rattle.pages.specs.Writing.{ones_from, sheet, start}
use Rattle.text.proofs.TextLaws.{wrote-length, wrote_none}
use lib.ListN.{length}
use mathlib.Core.Path.{◌≡◌, ap}
use mir.Facts.{to_z-of_z}
use native.Mathlib.Omega.{arith}
use Rattle.page_call.proofs.sheet.write_variable.Goals as goal

pub write_first-q-requires-clause-line_bound : goal.write_first-q-requires-clause-line_bound
write_first-q-requires-clause-line_bound c =
    let f = further_count (length (ones_from c.args.part.now 0)) in
    let m = start-mono (c.args.line + 1) (c.args.line + 1 + f) (omega arith) in
    (omega arith, omega (arith, m))

pub loop-i-init : goal.loop-i-init
unfolding sheet further_lines
loop-i-init c =
    let w = c.write_first-q.ensures in
    let line = c.args.line in
    let e : line + 1 ≡ line + 1 + 0 = omega arith in
    (w.within, w.left, as-end (ap start e) (wrote_none _ _ (omega (arith, w.text.fits, wrote-length w.text))))

pub write_further-q-requires-clause-line_bound : goal.write_further-q-requires-clause-line_bound
write_further-q-requires-clause-line_bound c =
    let l = c.loop-i in
    let f = c.further_lines-further in
    let w = c.write_first-q.ensures in
    let m = start-mono (c.args.line + 1 + l.i + 1) (c.args.line + 1 + further_count (length (ones_from c.args.part.now 0))) (omega (arith, f.ensures)) in
    (omega (arith, f.ensures), omega (arith, m, wrote-length w.text, wrote-length l.invariant.2))

pub loop-i-preserved : goal.loop-i-preserved
loop-i-preserved c =
    let l = c.loop-i in
    let a = c.args in
    let qs = ones_from a.part.now 0 in
    let w = c.write_further-q in
    (w.ensures.within, left-next qs (ones_from a.part.now l.q) (ones_from a.part.now w.result) l.i l.invariant.1 w.ensures.left, further-step (a.line + 1) qs (ones_from a.part.now l.q) l.i l.invariant.1 l.invariant.2 w.ensures.text)

pub returns-clause-text : goal.returns-clause-text
returns-clause-text c =
    let l = c.loop-i in
    let f = c.further_lines-further in
    let a = c.args in
    let e : l.i ≡ further_count (length (ones_from a.part.now 0)) = omega (arith, f.ensures) in
    let d : a.line + 1 + l.i ≡ a.line + 1 + f.result = omega arith in
    let w = rw (to_z-of_z c.ranges.l, to_z-of_z c.ranges.u) at c.write_first-q.ensures.text in
    as-end (ap start d) (variable-written a.line a.k a.l a.u (ones_from a.part.now 0) l.i e w l.invariant.2)
