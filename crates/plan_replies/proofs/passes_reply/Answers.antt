-- `plan_replies::passes_reply`: each case has its numbers.
use Rattle.plan.specs.Answers.{passes_answer}
use Rattle.replies.specs.Replies.{plan_reply, reply_of}
use Rattle.plan_replies.proofs.passes_reply.Goals as goal

pub returns-in-Err : goal.returns-in-Err
unfolding plan_reply passes_answer reply_of
returns-in-Err g c = rw (c.in-Err.is, c.number.ensures)

pub returns-in-Ok : goal.returns-in-Ok
unfolding plan_reply passes_answer reply_of
returns-in-Ok g c = rw c.in-Ok.is
