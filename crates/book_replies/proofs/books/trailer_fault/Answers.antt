-- `book_replies::books::trailer_fault`: 1 is the only check of a trailer that comes before the lengths. Assumes nothing.
use Rattle.std.proofs.Common.{◌∙◌, false, refl}
use borrow.Author.Tests.{le-leb, lt-leb}
use Rattle.model.proofs.CheckLaws.{fails, past}
use Rattle.replies.specs.Replies.{wrong_length}
use Rattle.book_replies.proofs.books.trailer_fault.Goals as goal

pub returns-then-bytes-lt-TRAILER : goal.returns-then-bytes-lt-TRAILER
unfolding wrong_length
returns-then-bytes-lt-TRAILER c = c.number.ensures ∙ fails _ 1 _ (lt-leb _ _ c.if-bytes-lt-TRAILER.true)

pub returns : goal.returns
unfolding wrong_length
returns c = c.number-2.ensures ∙ past _ 1 _ (le-leb _ _ c.if-bytes-lt-TRAILER.false) (fails false 5 _ refl)
