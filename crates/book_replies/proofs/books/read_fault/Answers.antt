-- `book_replies::books::read_fault`: the checks before the lengths, else 5. Assumes nothing.
use Rattle.std.proofs.Common.{◌∙◌, false, refl}
use Rattle.model.proofs.CheckLaws.{accepts, fails, refuses}
use Rattle.replies.specs.Replies.{wrong_length}
use Rattle.book.specs.BookChecks.{head_checks}
use Rattle.book.proofs.AcceptLaws.{head-numbered}
use Rattle.book_replies.proofs.books.read_fault.Goals as goal

pub returns-in-Err : goal.returns-in-Err
unfolding wrong_length
returns-in-Err c = c.number.ensures ∙ refuses (head_checks _) _ _ c.in-Err.ensures

pub returns-in-Ok : goal.returns-in-Ok
unfolding wrong_length
returns-in-Ok c = c.number-in-Ok.ensures ∙ accepts (head_checks _) _ (head-numbered _) c.in-Ok.ensures (fails false 5 _ refl)
