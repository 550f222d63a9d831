-- `capi::plans::astrolabe_plan_lengths`: a wrong answer length after 1, or the answer of the open call, written. Assumes nothing.
use mathlib.Core.Path.{◌∙◌, ap}
use Rattle.replies.specs.Replies.{plan_reply}
use Rattle.exports.specs.Exports.{lengths_export}
use Rattle.plan_replies.proofs.NamedLaws.{lengths-named}
use Rattle.exports.proofs.BookLaws.{book-refused, book-replied}
use borrow.Author.Rules.{rules}
use Rattle.capi.proofs.plans.astrolabe_plan_lengths.Statement.{statement}
use Rattle.capi.proofs.plans.astrolabe_plan_lengths.Tie as tie

trailer-fault-requires : tie.Need-trailer_fault-requires
trailer-fault-requires c κs = search rules

returns : tie.Need-returns-then-answer-ne-ANSWER
unfolding lengths_export
returns c = let s = c.before.before.before.before in book-refused s.args.answer.now _ _ c.if-answer-ne-ANSWER.true c.trailer_fault.ensures

lengths-requires : tie.Need-lengths-requires
lengths-requires c κs = search rules

put-plan-requires : tie.Need-put_plan-requires
put-plan-requires c κs = search rules

same_length : tie.Need-shape_of-answer
same_length c = search rules

returns-2 : tie.Need-returns
unfolding lengths_export
returns-2 c =
    let s = c.before.before.before.before.before.before.before.before in
    book-replied s.args.answer.now _ c.if-answer-ne-ANSWER.false c.put_plan.ensures (lengths-named c.lengths.result ∙ ap plan_reply c.lengths.ensures)

pub astrolabe_plan_lengths_spec : {M : Type 1} → statement M
astrolabe_plan_lengths_spec =
    tie.close
    (tie.spec
    trailer-fault-requires
    returns
    lengths-requires
    put-plan-requires
    same_length
    returns-2)
