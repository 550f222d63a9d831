-- `text::number::write_long`: a space and the digits, of which a number of 64 bits has at most 20.
use Rattle.std.proofs.Common.{arith}
use Rattle.text.specs.Decimal.{signed}
use Rattle.text.specs.Fields.{field}
use Rattle.text.proofs.DecimalLaws.{decimal-length}
use Rattle.text.proofs.TextLaws.{◌⨾◌}
use Rattle.text.proofs.number.write_long.Goals as goal

pub write_digits-requires : goal.write_digits-requires
write_digits-requires c = omega (arith, decimal-length 19 c.args.x (omega arith))

pub returns-clause-text : goal.returns-clause-text
unfolding field signed
returns-clause-text c = c.write_byte-start.ensures ⨾ c.write_digits.ensures

pub returns-clause-room : goal.returns-clause-room
returns-clause-room c = omega (arith, decimal-length 19 c.args.x (omega arith))
