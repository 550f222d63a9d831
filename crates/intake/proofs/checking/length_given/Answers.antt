-- `intake::checking::length_given`: four bytes, the lowest first.
use native.Mathlib.Omega.{arith}
use Rattle.little_endian.proofs.ByteLaws.{number_at-add, number_at-byte}
use Rattle.intake.proofs.checking.length_given.Goals as goal

pub returns : goal.returns
returns c =
    let t = c.args.tail.now in
    omega (
      arith,
      number_at-add 1 3 12 t (omega arith),
      number_at-add 1 2 13 t (omega arith),
      number_at-add 1 1 14 t (omega arith),
      number_at-byte 12 t (omega arith),
      number_at-byte 13 t (omega arith),
      number_at-byte 14 t (omega arith),
      number_at-byte 15 t (omega arith),
    )
