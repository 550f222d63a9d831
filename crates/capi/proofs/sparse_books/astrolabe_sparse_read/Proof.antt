-- `capi::sparse_books::astrolabe_sparse_read`: a wrong answer length after 1 to 4, 19 and 20, or the answer of the open call, written. Assumes nothing.
use borrow.Author.Rules.{rules}
use mathlib.Core.Path.{◌∙◌, ap}
use Rattle.exports.specs.SparseExports.{sparse_read_export}
use Rattle.replies.specs.Replies.{book_reply}
use Rattle.call_replies.proofs.NamedLaws.{sizes-named}
use Rattle.exports.proofs.BookLaws.{book-refused, book-replied, lent-after, lent-stays}
use Rattle.capi.proofs.sparse_books.astrolabe_sparse_read.Statement.{statement}
use Rattle.capi.proofs.sparse_books.astrolabe_sparse_read.Tie as tie

read-fault-requires : tie.Need-read_fault-requires
read-fault-requires c κs = search rules

returns : tie.Need-returns-then-answer-ne-ANSWER
unfolding sparse_read_export
returns c =
    let s = c.before.before.before.before.before in
    let wrong = c.if-answer-ne-ANSWER.true in (
      book-refused s.args.answer.now _ _ wrong c.read_fault.ensures,
      (
        lent-stays s.args.answer.now s.args.bounds.now _ wrong,
        (
          lent-stays s.args.answer.now s.args.coefs.now _ wrong,
          (lent-stays s.args.answer.now s.args.rhs.now _ wrong, lent-stays s.args.answer.now s.args.kinds.now _ wrong),
        ),
      ),
    )

read-requires : tie.Need-read-requires
read-requires c κs = search rules

sizes-reply-requires : tie.Need-sizes_reply-requires
sizes-reply-requires c κs = search rules

put-requires : tie.Need-put-requires
put-requires c κs = search rules

same_length : tie.Need-shape_of-bounds
same_length c = search rules

same-length-2 : tie.Need-shape_of-coefs
same-length-2 c = search rules

same-length-3 : tie.Need-shape_of-rhs
same-length-3 c = search rules

same-length-4 : tie.Need-shape_of-kinds
same-length-4 c = search rules

same-length-5 : tie.Need-shape_of-answer
same-length-5 c = search rules

returns-2 : tie.Need-returns
unfolding sparse_read_export
returns-2 c =
    let p = c.before.before.before.before.before.before.before.before.before.before in
    let s = p.before.before.before.before.before.before.before.before.before in
    let right = p.if-answer-ne-ANSWER.false in (
      book-replied s.args.answer.now _ right c.put.ensures (c.sizes_reply.ensures ∙ sizes-named p.read.result ∙ ap book_reply p.read.ensures.0),
      (
        lent-after s.args.answer.now s.args.bounds.now right p.read.ensures.1.0,
        (
          lent-after s.args.answer.now s.args.coefs.now right p.read.ensures.1.1.0,
          (
            lent-after s.args.answer.now s.args.rhs.now right p.read.ensures.1.1.1.0,
            lent-after s.args.answer.now s.args.kinds.now right p.read.ensures.1.1.1.1.0,
          ),
        ),
      ),
    )

pub astrolabe_sparse_read_spec : {M : Type 1} → statement M
astrolabe_sparse_read_spec =
    tie.close
    (tie.spec
    read-fault-requires
    returns
    read-requires
    sizes-reply-requires
    put-requires
    same_length
    same-length-2
    same-length-3
    same-length-4
    same-length-5
    returns-2)
