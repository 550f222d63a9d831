-- `capi::model_calls::astrolabe_propagate`: a wrong answer length, or the answer of the open call, written. Assumes nothing.
use borrow.Author.Rules.{rules}
use lib.IntN.{ℤ}
use mathlib.Core.List.{List, []}
use mathlib.Core.Path.{◌∙◌}
use Rattle.reducer.specs.OpenCalls.{propagate_answer}
use Rattle.model.specs.Rows.{rows_of}
use Rattle.model.specs.State.{State, state_of}
use Rattle.call_replies.proofs.NamedLaws.{propagate-named}
use Rattle.exports.proofs.ExportLaws.{call-refused, call-replied}
use Rattle.capi.proofs.model_calls.astrolabe_propagate.Statement.{statement}
use Rattle.capi.proofs.model_calls.astrolabe_propagate.Tie as tie

abbrev state : tie.Start → List ℤ → State
state s B = state_of s.args.n s.args.m B (rows_of s.args.coefs.now s.args.rhs.now s.args.kinds.now) []

abbrev before : tie.Start → State
before s = state s s.args.bounds.now

answer-fault-requires : tie.Need-answer_fault-requires
answer-fault-requires c κs = search rules

returns : tie.Need-returns-then-answer-ne-ANSWER
unfolding state_of
returns c =
    let s = c.before.before.before.before in call-refused s.args.answer.now (before s) 2 0 0 s.args.budget c.if-answer-ne-ANSWER.true c.answer_fault.ensures

propagate-requires : tie.Need-propagate-requires
propagate-requires c κs = search rules

propagate-reply-requires : tie.Need-propagate_reply-requires
propagate-reply-requires c κs = search rules

put-requires : tie.Need-put-requires
put-requires c κs = search rules

same_length : tie.Need-shape_of-bounds
same_length c = search rules

same-length-2 : tie.Need-shape_of-answer
same-length-2 c = search rules

returns-2 : tie.Need-returns
returns-2 c =
    let p = c.before.before.before.before.before.before in
    let s = p.before.before.before.before.before in
    call-replied s.args.answer.now (before s) (state s p.propagate.new.bounds) 2 0 0 s.args.budget (propagate_answer p.propagate.result) p.if-answer-ne-ANSWER.false
    c.put.ensures (c.propagate_reply.ensures ∙ propagate-named p.propagate.result) p.propagate.ensures.0

pub astrolabe_propagate_spec : {M : Type 1} → statement M
astrolabe_propagate_spec =
    tie.close
    (tie.spec
    answer-fault-requires
    returns
    propagate-requires
    propagate-reply-requires
    put-requires
    same_length
    same-length-2
    returns-2)
