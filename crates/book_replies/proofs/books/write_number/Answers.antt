-- `book_replies::books::write_number`: each case has its number. Assumes nothing.
use Rattle.book.specs.Answers.{write_answer}
use Rattle.replies.specs.Replies.{book_reply, returned}
use Rattle.book_replies.proofs.books.write_number.Goals as goal

pub returns-in-Err : goal.returns-in-Err
unfolding returned book_reply write_answer
returns-in-Err g c = rw c.in-Err.is c.number.ensures

pub returns-in-Ok : goal.returns-in-Ok
unfolding returned book_reply write_answer
returns-in-Ok g c = rw c.in-Ok.is
