-- `page_line::line::write_first`: where the line begins, its fields and its first literals.
use Prim.Native.Nat.{◌<◌}
use Rattle.page_line.proofs.MadeLaws.{fields-length, first_made}
use Rattle.pages.proofs.WritingLaws.{heading-ends}
use Rattle.pages.specs.Writing.{ones_from}
use Rattle.text.proofs.TextLaws.{wrote-length}
use lib.IntN.{nat_abs}
use mir.Facts.{to_z-of_z}
use native.Mathlib.Omega.{arith}
use Rattle.page_line.proofs.line.write_first.Goals as goal
use Rattle.page_line.proofs.line.write_first.Goals.{Start}

l-small : (s : Start) → nat_abs s.args.l < 1_000_000
l-small s = omega (arith, s.requires.k_lt_max_variables.1.abs)

u-small : (s : Start) → nat_abs s.args.u < 1_000_000
u-small s = omega (arith, s.requires.k_lt_max_variables.2.abs)

pub write_fields-literals-requires-clause-at_in_bounds : goal.write_fields-literals-requires-clause-at_in_bounds
write_fields-literals-requires-clause-at_in_bounds c =
    let w = c.begin_line-at.ensures in
    omega (arith, w.end, wrote-length w, heading-ends c.args.line (omega arith))

pub write_literals-requires-clause-at_in_bounds : goal.write_literals-requires-clause-at_in_bounds
write_literals-requires-clause-at_in_bounds c =
    let w = c.begin_line-at.ensures in
    let v = rw (to_z-of_z c.ranges.l, to_z-of_z c.ranges.u) at c.write_fields-literals.ensures in
    omega (arith, w.end, wrote-length w, v.end, wrote-length v, fields-length c.args.k c.args.l c.args.u c.requires.k_lt_max_variables.0 (l-small (goal.at.write_literals-requires-clause-at_in_bounds c).Start) (u-small (goal.at.write_literals-requires-clause-at_in_bounds c).Start), heading-ends c.args.line (omega arith))

pub returns-clause-text : goal.returns-clause-text
returns-clause-text c =
    let v = rw (to_z-of_z c.ranges.l, to_z-of_z c.ranges.u) at c.write_fields-literals.ensures in
    first_made c.args.line c.args.k c.args.l c.args.u (ones_from c.args.part.now 0) (omega arith) c.requires.k_lt_max_variables.0 (l-small (goal.at.returns-clause-text c).Start) (u-small (goal.at.returns-clause-text c).Start) c.begin_line-at.ensures v c.write_literals.ensures.text
