-- `capi::sparse_books::astrolabe_sparse_trailer`: a wrong answer length after 1, or the answer of the open call, written. Assumes nothing.
use borrow.Author.Rules.{rules}
use borrow.Author.Tests.{le-leb, lt-leb}
use mathlib.Core.Bool.{false}
use mathlib.Core.Path.{◌∙◌, ap, refl}
use Rattle.model.proofs.CheckLaws.{fails, past}
use Rattle.replies.specs.Replies.{book_reply, wrong_length}
use Rattle.exports.specs.SparseExports.{sparse_trailer_export}
use Rattle.call_replies.proofs.NamedLaws.{sizes-named}
use Rattle.exports.proofs.BookLaws.{book-refused, book-replied}
use Rattle.capi.proofs.sparse_books.astrolabe_sparse_trailer.Statement.{statement}
use Rattle.capi.proofs.sparse_books.astrolabe_sparse_trailer.Tie as tie

returns : tie.Need-returns-then-bytes-lt-TRAILER
unfolding sparse_trailer_export wrong_length
returns c = let s = c.before.before.before.before in book-refused s.args.answer.now _ _ c.if-answer-ne-ANSWER.true (fails _ 1 _ (lt-leb _ _ c.if-bytes-lt-TRAILER.true))

returns-2 : tie.Need-returns-then-answer-ne-ANSWER
unfolding sparse_trailer_export wrong_length
returns-2 c = let s = c.before.before.before.before in book-refused s.args.answer.now _ _ c.if-answer-ne-ANSWER.true (past _ 1 _ (le-leb _ _ c.if-bytes-lt-TRAILER.false) (fails false 5 _ refl))

trailer-requires : tie.Need-trailer-requires
trailer-requires c κs = search rules

sizes-reply-requires : tie.Need-sizes_reply-requires
sizes-reply-requires c κs = search rules

put-requires : tie.Need-put-requires
put-requires c κs = search rules

same_length : tie.Need-shape_of-answer
same_length c = search rules

returns-3 : tie.Need-returns
unfolding sparse_trailer_export
returns-3 c =
    let s = c.before.before.before.before.before.before.before.before.before in
    book-replied s.args.answer.now _ c.if-answer-ne-ANSWER.false c.put.ensures (c.sizes_reply.ensures ∙ sizes-named c.trailer.result ∙ ap book_reply c.trailer.ensures)

pub astrolabe_sparse_trailer_spec : {M : Type 1} → statement M
astrolabe_sparse_trailer_spec =
    tie.close
    (tie.spec
    returns
    returns-2
    trailer-requires
    sizes-reply-requires
    put-requires
    same_length
    returns-3)
