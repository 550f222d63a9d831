-- `intake::input::shift_in`: after i turns the first i bytes are those of the shifted bytes; a byte that is read lies behind them.
use Rattle.std.proofs.Common.{◌≡◌, length}
use lib.Seq.{paste}
use Rattle.intake.specs.Intake.{shifted}
use Rattle.intake.proofs.input.shift_in.Given as goal

abbrev pub invariant-loop-i : goal.invariant-loop-i
invariant-loop-i l = (length l.tail ≡ length l.initial.tail) × (l.tail ≡ paste l.initial.tail 0 (shifted l.initial.tail l.piece) l.i)
