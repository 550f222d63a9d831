-- `book_exports::write_said`: the number of the open call, and its book. Assumes nothing.
use Rattle.std.proofs.Common.{◌∙◌, ap}
use Rattle.book.specs.Answers.{Answer}
use Rattle.replies.specs.Replies.{book_reply, returned}
use Rattle.book_replies.proofs.NamedLaws.{write-named}
use Rattle.book_exports.proofs.write_said.Goals as goal

pub returns-clause-number : goal.returns-clause-number
returns-clause-number c = c.write_number.ensures ∙ ap returned (write-named c.write.result) ∙ ap (λ (a : Answer). returned (book_reply a)) c.write.ensures.answer
