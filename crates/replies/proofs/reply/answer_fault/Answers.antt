-- `replies::reply::answer_fault`: the checks of the sizes, and then 5, which no answer of a wrong length passes.
use Rattle.std.proofs.Common.{refl}
use Rattle.model.specs.Checks.{size_checks}
use Rattle.model.proofs.CheckLaws.{accepts, fails, refuses}
use Rattle.replies.specs.Replies.{wrong_length}
use Rattle.replies.proofs.reply.answer_fault.Goals as goal

pub returns-in-Err : goal.returns-in-Err
unfolding wrong_length
returns-in-Err c = rw c.number.ensures (refuses (size_checks c.args.n c.args.m) _ _ c.in-Err.ensures)

pub returns-in-Ok : goal.returns-in-Ok
unfolding wrong_length size_checks
returns-in-Ok c = rw c.number-in-Ok.ensures (accepts (size_checks c.args.n c.args.m) _ tt c.in-Ok.ensures (fails _ 5 _ refl))
