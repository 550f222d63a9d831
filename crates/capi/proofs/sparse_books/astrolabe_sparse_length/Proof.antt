-- `capi::sparse_books::astrolabe_sparse_length`: a wrong answer length after 3, or the answer of the open call, written.
-- Assumes nothing.
use mathlib.Core.Path.{◌∙◌, ap}
use Rattle.book_replies.specs.SparseReplies.{length_reply}
use Rattle.exports.specs.SparseExports.{sparse_length_export}
use Rattle.book_replies.proofs.NamedLaws.{length-named}
use Rattle.exports.proofs.BookLaws.{book-refused, book-replied}
use borrow.Author.Rules.{rules}
use Rattle.capi.proofs.sparse_books.astrolabe_sparse_length.Statement.{statement}
use Rattle.capi.proofs.sparse_books.astrolabe_sparse_length.Tie as tie

answer-fault-requires : tie.Need-answer_fault-requires
answer-fault-requires c κs = search rules

returns : tie.Need-returns-then-answer-ne-ANSWER
unfolding sparse_length_export
returns c = let s = c.before.before.before.before in book-refused s.args.answer.now _ _ c.if-answer-ne-ANSWER.true c.answer_fault.ensures

length-requires : tie.Need-length-requires
length-requires c κs = search rules

length-reply-requires : tie.Need-length_reply-requires
length-reply-requires c κs = search rules

put-requires : tie.Need-put-requires
put-requires c κs = search rules

same_length : tie.Need-shape_of-answer
same_length c = search rules

returns-2 : tie.Need-returns
unfolding sparse_length_export
returns-2 c =
    let s = c.before.before.before.before.before.before.before.before.before in
    book-replied s.args.answer.now _ c.if-answer-ne-ANSWER.false c.put.ensures (c.length_reply.ensures ∙ length-named c.length.result ∙ ap length_reply c.length.ensures)

pub astrolabe_sparse_length_spec : {M : Type 1} → statement M
astrolabe_sparse_length_spec =
    tie.close
    (tie.spec
    answer-fault-requires
    returns
    length-requires
    length-reply-requires
    put-requires
    same_length
    returns-2)
