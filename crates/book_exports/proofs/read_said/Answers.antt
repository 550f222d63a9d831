-- `book_exports::read_said`: a wrong answer length after 1 to 4, or the answer of the open call, written. Assumes nothing.
use Rattle.std.proofs.Common.{◌∙◌, ap}
use Rattle.exports.specs.Exports.{read_export}
use Rattle.replies.specs.Replies.{book_reply}
use Rattle.call_replies.proofs.NamedLaws.{sizes-named}
use Rattle.exports.proofs.BookLaws.{book-refused, book-replied, lent-after, lent-stays}
use Rattle.book_exports.proofs.read_said.Goals as goal

pub returns-then-answer-ne-ANSWER : goal.returns-then-answer-ne-ANSWER
unfolding read_export
returns-then-answer-ne-ANSWER c =
    let a = c.args in
    let wrong = c.if-answer-ne-ANSWER.true in
    record {
      answered = book-refused a.answer.now _ _ wrong c.read_fault.ensures;
      bounds_read = lent-stays a.answer.now a.bounds.now _ wrong;
      coefs_read = lent-stays a.answer.now a.coefs.now _ wrong;
      rhs_read = lent-stays a.answer.now a.rhs.now _ wrong;
      kinds_read = lent-stays a.answer.now a.kinds.now _ wrong;
    }

pub returns : goal.returns
unfolding read_export
returns c =
    let a = c.args in
    let right = c.if-answer-ne-ANSWER.false in
    let e = c.read.ensures in
    record {
      answered = book-replied a.answer.now _ right (c.put.ensures.number, c.put.ensures.answer) (c.sizes_reply.ensures ∙ sizes-named c.read.result ∙ ap book_reply e.answer);
      bounds_read = lent-after a.answer.now a.bounds.now right e.bounds_read;
      coefs_read = lent-after a.answer.now a.coefs.now right e.coefs_read;
      rhs_read = lent-after a.answer.now a.rhs.now right e.rhs_read;
      kinds_read = lent-after a.answer.now a.kinds.now right e.kinds_read;
    }
