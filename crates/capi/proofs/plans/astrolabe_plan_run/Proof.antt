-- `capi::plans::astrolabe_plan_run`: a wrong answer length after 3, or the answer of the open call, written. Assumes nothing.
use mathlib.Core.Path.{◌∙◌, ap}
use Rattle.replies.specs.Replies.{plan_reply}
use Rattle.exports.specs.Exports.{passes_export}
use Rattle.plan_replies.proofs.NamedLaws.{passes-named}
use Rattle.exports.proofs.BookLaws.{book-refused, book-replied}
use borrow.Author.Rules.{rules}
use Rattle.capi.proofs.plans.astrolabe_plan_run.Statement.{statement}
use Rattle.capi.proofs.plans.astrolabe_plan_run.Tie as tie

answer-fault-requires : tie.Need-answer_fault-requires
answer-fault-requires c κs = search rules

returns : tie.Need-returns-then-answer-ne-ANSWER
unfolding passes_export
returns c = let s = c.before.before.before.before in book-refused s.args.answer.now _ _ c.if-answer-ne-ANSWER.true c.answer_fault.ensures

passes-requires : tie.Need-passes-requires
passes-requires c κs = search rules

passes-reply-requires : tie.Need-passes_reply-requires
passes-reply-requires c κs = search rules

put-requires : tie.Need-put-requires
put-requires c κs = search rules

same_length : tie.Need-shape_of-answer
same_length c = search rules

returns-2 : tie.Need-returns
unfolding passes_export
returns-2 c =
    let s = c.before.before.before.before.before.before.before.before.before in
    book-replied s.args.answer.now _ c.if-answer-ne-ANSWER.false c.put.ensures
    (c.passes_reply.ensures ∙ passes-named c.passes.result ∙ ap plan_reply c.passes.ensures.0)

pub astrolabe_plan_run_spec : {M : Type 1} → statement M
astrolabe_plan_run_spec =
    tie.close
    (tie.spec
    answer-fault-requires
    returns
    passes-requires
    passes-reply-requires
    put-requires
    same_length
    returns-2)
