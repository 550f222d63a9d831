-- `book_exports::trailer_said`: a wrong answer length after 1, or the answer of the open call, written. Assumes nothing.
use Rattle.std.proofs.Common.{◌∙◌, ap}
use Rattle.replies.specs.Replies.{book_reply}
use Rattle.exports.specs.Exports.{trailer_export}
use Rattle.call_replies.proofs.NamedLaws.{sizes-named}
use Rattle.exports.proofs.BookLaws.{book-refused, book-replied}
use Rattle.book_exports.proofs.trailer_said.Goals as goal

pub returns-then-answer-ne-ANSWER : goal.returns-then-answer-ne-ANSWER
unfolding trailer_export
returns-then-answer-ne-ANSWER c = book-refused c.args.answer.now _ _ c.if-answer-ne-ANSWER.true c.trailer_fault.ensures

pub returns : goal.returns
unfolding trailer_export
returns c =
    book-replied c.args.answer.now _ c.if-answer-ne-ANSWER.false (c.put.ensures.number, c.put.ensures.answer) (c.sizes_reply.ensures ∙ sizes-named c.trailer.result ∙ ap book_reply c.trailer.ensures)
