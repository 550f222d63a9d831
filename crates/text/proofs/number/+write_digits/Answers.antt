-- `text::number::write_digits` writes what `decimal` says, digit by digit (`decimal-small`, `decimal-more`).
use Rattle.std.proofs.Common.{◌+◌, ◌/◌, ◌≡◌, ◌≤◌, ℕ, ap, arith, length, length-append}
use Rattle.text.specs.Decimal.{decimal}
use Rattle.text.proofs.DecimalLaws.{decimal-more, decimal-small}
use Rattle.text.proofs.TextLaws.{◌⨾◌}
use Rattle.text.proofs.number.+write_digits.Goals as goal

one_more : (x : ℕ) → 10 ≤ x → length (decimal x) ≡ length (decimal (x / 10)) + 1
one_more x h = rw (decimal-more x h, length-append)

pub write_byte-requires : goal.write_byte-requires
write_byte-requires t c = omega (arith, ap length (decimal-small c.args.x (omega arith)))

pub returns-then-x-lt10 : goal.returns-then-x-lt10
returns-then-x-lt10 t c = rw (decimal-small c.args.x (omega arith)) c.write_byte.ensures

pub write_digits-last-requires : goal.write_digits-last-requires
write_digits-last-requires t c = omega (arith, one_more c.args.x (omega arith))

pub write_byte-requires-2 : goal.write_byte-requires-2
write_byte-requires-2 t c = omega (arith, one_more c.args.x (omega arith))

pub returns : goal.returns
returns t c =
    rw (decimal-more c.args.x (omega arith)) (c.write_digits-last.ensures ⨾ c.write_byte-2.ensures)
