-- `book_replies::sparse_books::length_reply`: each case has its numbers. Assumes nothing.
use Rattle.std.proofs.Common.{ap}
use Rattle.replies.specs.Replies.{refused_by, reply_of}
use Rattle.sparse_calls.specs.SparseCalls.{length_answer}
use Rattle.book_replies.specs.SparseReplies.{length_reply}
use Rattle.book_replies.proofs.sparse_books.length_reply.Goals as goal

pub returns-in-Err : goal.returns-in-Err
unfolding length_reply length_answer reply_of
returns-in-Err g c = rw c.in-Err.is (ap refused_by c.number.ensures)

pub returns-in-Ok : goal.returns-in-Ok
unfolding length_reply length_answer reply_of
returns-in-Ok g c = rw c.in-Ok.is
