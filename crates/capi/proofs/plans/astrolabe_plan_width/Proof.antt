-- `capi::plans::astrolabe_plan_width`: a wrong answer length after 3, or the answer of the open call, written. Assumes nothing.
use mathlib.Core.Path.{◌∙◌, ap}
use Rattle.replies.specs.Replies.{plan_reply}
use Rattle.exports.specs.Exports.{width_export}
use Rattle.plan_replies.proofs.NamedLaws.{width-named}
use Rattle.exports.proofs.BookLaws.{book-refused, book-replied}
use borrow.Author.Rules.{rules}
use Rattle.capi.proofs.plans.astrolabe_plan_width.Statement.{statement}
use Rattle.capi.proofs.plans.astrolabe_plan_width.Tie as tie

answer-fault-requires : tie.Need-answer_fault-requires
answer-fault-requires c κs = search rules

returns : tie.Need-returns-then-answer-ne-ANSWER
unfolding width_export
returns c = let s = c.before.before.before in book-refused s.args.answer.now _ _ c.if-answer-ne-ANSWER.true c.answer_fault.ensures

width-requires : tie.Need-width-requires
width-requires c κs = search rules

width-reply-requires : tie.Need-width_reply-requires
width-reply-requires c κs = search rules

put-requires : tie.Need-put-requires
put-requires c κs = search rules

same_length : tie.Need-shape_of-answer
same_length c = search rules

returns-2 : tie.Need-returns
unfolding width_export
returns-2 c =
    let s = c.before.before.before.before.before.before.before.before in
    book-replied s.args.answer.now _ c.if-answer-ne-ANSWER.false c.put.ensures
    (c.width_reply.ensures ∙ width-named c.width.result ∙ ap plan_reply c.width.ensures.0)

pub astrolabe_plan_width_spec : {M : Type 1} → statement M
astrolabe_plan_width_spec =
    tie.close
    (tie.spec
    answer-fault-requires
    returns
    width-requires
    width-reply-requires
    put-requires
    same_length
    returns-2)
