-- `text::number::write_integer`: a space, the sign below 0, and the digits of |z|.
use Rattle.std.proofs.Common.{arith, pos}
use Rattle.std.proofs.Math.Facts.{to_z-of_z}
use Rattle.integer.proofs.Parts.{lt-false, lt-true}
use Rattle.text.specs.Fields.{field}
use Rattle.text.proofs.DecimalLaws.{decimal-length, signed-negative, signed-natural}
use Rattle.text.proofs.TextLaws.{◌⨾◌}
use Rattle.text.proofs.number.write_integer.Goals as goal

pub write_digits-requires : goal.write_digits-requires
write_digits-requires c = omega (arith, decimal-length 9 c.unsigned_abs.result (omega arith))

pub returns-then-z-lt0-clause-text : goal.returns-then-z-lt0-clause-text
unfolding field
returns-then-z-lt0-clause-text c =
    let w = c.write_byte-start.ensures ⨾ c.write_byte-first.ensures ⨾ c.write_digits.ensures in
    let f = c.ranges.z in
    let h = lt-true c.args.z (pos 0) (simp to_z-of_z at c.if-z-lt0.true) in
    rw (signed-negative c.args.z h, ← (simp to_z-of_z at c.unsigned_abs.ensures.value)) w

pub returns-then-z-lt0-clause-room : goal.returns-then-z-lt0-clause-room
returns-then-z-lt0-clause-room c = omega (arith, decimal-length 9 c.unsigned_abs.result (omega arith))

pub write_digits-requires-2 : goal.write_digits-requires-2
write_digits-requires-2 c = omega (arith, decimal-length 9 c.unsigned_abs-2.result (omega arith))

pub returns-clause-text : goal.returns-clause-text
unfolding field
returns-clause-text c =
    let w = c.write_byte-start.ensures ⨾ c.write_digits-2.ensures in
    let f = c.ranges.z in
    let h = lt-false c.args.z (pos 0) (simp to_z-of_z at c.if-z-lt0.false) in
    rw (signed-natural c.args.z h, ← (simp to_z-of_z at c.unsigned_abs-2.ensures.value)) w

pub returns-clause-room : goal.returns-clause-room
returns-clause-room c = omega (arith, decimal-length 9 c.unsigned_abs-2.result (omega arith))
