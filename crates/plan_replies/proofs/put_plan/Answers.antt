-- `plan_replies::put_plan`: the number of a refusal, or 0 and the lengths.
use Rattle.std.proofs.Common.{refl}
use Rattle.plan.specs.Answers.{lengths_answer}
use Rattle.replies.specs.Replies.{lengths_reply, plan_reply, returned, written}
use Rattle.plan_replies.proofs.put_plan.Goals as goal

pub returns-in-Err : goal.returns-in-Err
unfolding plan_reply lengths_answer returned written
returns-in-Err g c = rw (c.in-Err.is, c.number.ensures) (record { number = refl; answer = refl })

pub returns-in-Ok : goal.returns-in-Ok
unfolding plan_reply lengths_reply lengths_answer returned written
returns-in-Ok g c = rw c.in-Ok.is (record { number = refl; answer = c.put_lengths.ensures })
