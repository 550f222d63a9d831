-- The bytes of the answer are those of `output`, and lie within the buffer.
use Rattle.std.proofs.Common.{ap, length, arith}
use Rattle.std.proofs.lemmas.Result.{IfOk-equal}
use Rattle.convert.specs.Answers.{answer_bytes}
use Rattle.convert.proofs.answer.Goals as goal

pub returns-in-Err : goal.returns-in-Err
unfolding answer_bytes
returns-in-Err g c = λ bs h. IfOk-equal c.refused.result _ _ _ (rw c.number.ensures at c.refused.ensures) (ap length (c.in-Err.ensures.bytes bs h))

pub returns-in-Ok : goal.returns-in-Ok
unfolding answer_bytes
returns-in-Ok g c = λ bs h.
    IfOk-equal c.print.result _ _ _ c.print.ensures (omega (arith, c.requires.printed_value, ap length (c.in-Ok.ensures.bytes bs h)))
