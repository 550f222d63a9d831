-- `text::number::write_natural`: a space and the digits, of which a number of 32 bits has at most 10.
use Rattle.std.proofs.Common.{arith}
use Rattle.text.specs.Decimal.{signed}
use Rattle.text.specs.Fields.{field}
use Rattle.text.proofs.DecimalLaws.{decimal-length}
use Rattle.text.proofs.TextLaws.{◌⨾◌}
use Rattle.text.proofs.number.write_natural.Goals as goal

pub write_digits-requires : goal.write_digits-requires
write_digits-requires c = omega (arith, decimal-length 9 c.args.x (omega arith))

pub returns-clause-text : goal.returns-clause-text
unfolding field signed
returns-clause-text c = c.write_byte-start.ensures ⨾ c.write_digits.ensures

pub returns-clause-room : goal.returns-clause-room
returns-clause-room c = omega (arith, decimal-length 9 c.args.x (omega arith))
