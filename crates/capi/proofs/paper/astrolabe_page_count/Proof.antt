-- `capi::paper::astrolabe_page_count`: a wrong answer length after 3, or the answer of the open call, written. Assumes nothing.
use borrow.Author.Rules.{rules}
use mathlib.Core.Path.{◌∙◌, ap}
use Rattle.replies.specs.PageReplies.{page_reply}
use Rattle.exports.specs.PageExports.{count_export}
use Rattle.replies.proofs.NamedLaws.{count-named}
use Rattle.exports.proofs.BookLaws.{book-refused, book-replied}
use Rattle.capi.proofs.paper.astrolabe_page_count.Statement.{statement}
use Rattle.capi.proofs.paper.astrolabe_page_count.Tie as tie

answer-fault-requires : tie.Need-answer_fault-requires
answer-fault-requires c κs = search rules

returns : tie.Need-returns-then-answer-ne-ANSWER
unfolding count_export
returns c = let s = c.before.before.before.before in book-refused s.args.answer.now _ _ c.if-answer-ne-ANSWER.true c.answer_fault.ensures

page-count-requires : tie.Need-page_count-requires
page-count-requires c κs = search rules

count-reply-requires : tie.Need-count_reply-requires
count-reply-requires c κs = search rules

put-requires : tie.Need-put-requires
put-requires c κs = search rules

same_length : tie.Need-shape_of-answer
same_length c = search rules

returns-2 : tie.Need-returns
unfolding count_export
returns-2 c =
    let s = c.before.before.before.before.before.before.before.before.before in
    book-replied s.args.answer.now _ c.if-answer-ne-ANSWER.false c.put.ensures
    (c.count_reply.ensures ∙ count-named c.page_count.result ∙ ap page_reply c.page_count.ensures)

pub astrolabe_page_count_spec : {M : Type 1} → statement M
astrolabe_page_count_spec =
    tie.close
    (tie.spec
    answer-fault-requires
    returns
    page-count-requires
    count-reply-requires
    put-requires
    same_length
    returns-2)
