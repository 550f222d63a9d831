-- `page_line::line::begin_line`: a page begins with every 59th content line, and then its number stands before it.
use Prim.Native.Nat.{◌+◌, ◌/◌}
use Rattle.page_line.proofs.MadeLaws.{as-text, heading-new, heading-none, right-ends, small-columns, small_signed}
use Rattle.pages.specs.Writing.{start}
use Rattle.text.proofs.TextLaws.{◌⨾◌, wrote-length, wrote_none}
use lib.IntN.{pos}
use native.Mathlib.Omega.{arith}
use Rattle.page_line.proofs.line.begin_line.Goals as goal

pub returns-then-line-ne0 : goal.returns-then-line-ne0
unfolding start
returns-then-line-ne0 c = rw (heading-none c.args.line c.if-line-ne0.true) (wrote_none _ _ (omega arith))

pub write_spaces-number-requires : goal.write_spaces-number-requires
unfolding start
write_spaces-number-requires c = omega (arith, c.if-line-ne0.false, c.requires.line_in_bounds)

pub write_right-end-requires-clause-z_len_bound : goal.write_right-end-requires-clause-z_len_bound
write_right-end-requires-clause-z_len_bound c =
    let n = c.args.line / 59 + 1 in
    rw (small_signed n (omega arith)) (omega (arith, small-columns n (omega arith)))

pub write_right-end-requires-clause-columns_in_bounds : goal.write_right-end-requires-clause-columns_in_bounds
unfolding start
write_right-end-requires-clause-columns_in_bounds c =
    let w = c.write_spaces-number.ensures in
    omega (arith, w.end, wrote-length w, c.if-line-ne0.false, c.requires.line_in_bounds)

pub write_byte-requires : goal.write_byte-requires
unfolding start
write_byte-requires c =
    let n = c.args.line / 59 + 1 in
    let w = c.write_spaces-number.ensures in
    let v = rw (small_signed n (omega arith)) at c.write_right-end.ensures in
    omega (arith, w.end, wrote-length w, right-ends 6 (pos n) (omega (arith, small-columns n (omega arith))) v, wrote-length v, c.if-line-ne0.false, c.requires.line_in_bounds)

pub returns : goal.returns
unfolding start
returns c =
    let n = c.args.line / 59 + 1 in
    as-text (heading-new c.args.line c.if-line-ne0.false) (c.write_spaces-number.ensures ⨾ (rw (small_signed n (omega arith)) at c.write_right-end.ensures) ⨾ c.write_byte.ensures)
