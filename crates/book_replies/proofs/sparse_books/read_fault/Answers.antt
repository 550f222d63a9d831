-- `book_replies::sparse_books::read_fault`: the checks before the lengths, else 5. Assumes nothing.
use Rattle.std.proofs.Common.{◌∙◌, false, refl}
use Rattle.model.proofs.CheckLaws.{accepts, fails, refuses}
use Rattle.replies.specs.Replies.{wrong_length}
use Rattle.sparse_layout.specs.SparseChecks.{sparse_layout_checks}
use Rattle.sparse_layout.proofs.SparseAcceptLaws.{sparse-layout-numbered}
use Rattle.book_replies.proofs.sparse_books.read_fault.Goals as goal

pub returns-in-Err : goal.returns-in-Err
unfolding wrong_length
returns-in-Err c = c.number.ensures ∙ refuses (sparse_layout_checks _) _ _ c.in-Err.ensures

pub returns-in-Ok : goal.returns-in-Ok
unfolding wrong_length
returns-in-Ok c = c.number-in-Ok.ensures ∙ accepts (sparse_layout_checks _) _ (sparse-layout-numbered _) c.in-Ok.ensures (fails false 5 _ refl)
