-- `rest_exports::rest_said`: a wrong answer length, or the answer of the open call, written. Assumes nothing.
use borrow.Author.Rules.{rules}
use mathlib.Core.List.{[]}
use mathlib.Core.Path.{◌∙◌}
use Rattle.reducer.specs.OpenCalls.{rest_verdict}
use Rattle.model.specs.Rows.{rows_of}
use Rattle.model.specs.State.{State, state_of}
use Rattle.call_replies.proofs.NamedLaws.{rest-named}
use Rattle.exports.proofs.ExportLaws.{rest-refused, rest-replied}
use Rattle.rest_exports.proofs.rest_said.Statement.{statement}
use Rattle.rest_exports.proofs.rest_said.Tie as tie

abbrev before : tie.Start → State
before s = state_of s.args.n s.args.m s.args.bounds.now (rows_of s.args.coefs.now s.args.rhs.now s.args.kinds.now) []

answer-fault-requires : tie.Need-answer_fault-requires
answer-fault-requires c κs = search rules

returns : tie.Need-returns-then-answer-ne-ANSWER
unfolding state_of
returns c = let s = c.before.before.before.before in rest-refused s.args.answer.now (before s) c.if-answer-ne-ANSWER.true c.answer_fault.ensures

is-probing-fixpoint-requires : tie.Need-is_probing_fixpoint-requires
is-probing-fixpoint-requires c κs = search rules

rest-reply-requires : tie.Need-rest_reply-requires
rest-reply-requires c κs = search rules

put-requires : tie.Need-put-requires
put-requires c κs = search rules

same_length : tie.Need-shape_of-answer
same_length c = search rules

returns-2 : tie.Need-returns
returns-2 c =
    let p = c.before.before.before.before.before in
    let s = p.before.before.before.before in
    rest-replied s.args.answer.now (before s) (rest_verdict p.is_probing_fixpoint.result) p.if-answer-ne-ANSWER.false c.put.ensures (c.rest_reply.ensures ∙ rest-named p.is_probing_fixpoint.result)
    p.is_probing_fixpoint.ensures.0

pub rest_said_spec : {M : Type 1} → statement M
rest_said_spec =
    tie.close
    (tie.spec
    answer-fault-requires
    returns
    is-probing-fixpoint-requires
    rest-reply-requires
    put-requires
    same_length
    returns-2)
