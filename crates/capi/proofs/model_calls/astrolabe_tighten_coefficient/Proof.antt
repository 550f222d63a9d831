-- `capi::model_calls::astrolabe_tighten_coefficient`: a wrong answer length, or the answer of the open call, written. Assumes nothing.
use borrow.Author.Rules.{rules}
use mathlib.Core.List.{[]}
use mathlib.Core.Path.{◌∙◌}
use Rattle.reducer.specs.OpenCalls.{tighten_answer}
use Rattle.model.specs.Rows.{Rows, rows_of}
use Rattle.model.specs.State.{State, state_of}
use Rattle.call_replies.proofs.NamedLaws.{tighten-named}
use Rattle.exports.proofs.ExportLaws.{call-refused, call-replied}
use Rattle.capi.proofs.model_calls.astrolabe_tighten_coefficient.Statement.{statement}
use Rattle.capi.proofs.model_calls.astrolabe_tighten_coefficient.Tie as tie

abbrev state : tie.Start → Rows → State
state s A = state_of s.args.n s.args.m s.args.bounds.now A []

abbrev before : tie.Start → State
before s = state s (rows_of s.args.coefs.now s.args.rhs.now s.args.kinds.now)

answer-fault-requires : tie.Need-answer_fault-requires
answer-fault-requires c κs = search rules

returns : tie.Need-returns-then-answer-ne-ANSWER
unfolding state_of
returns c =
    let s = c.before.before.before.before in call-refused s.args.answer.now (before s) 4 s.args.row s.args.variable 0 c.if-answer-ne-ANSWER.true c.answer_fault.ensures

tighten-coefficient-requires : tie.Need-tighten_coefficient-requires
tighten-coefficient-requires c κs = search rules

tighten-reply-requires : tie.Need-tighten_reply-requires
tighten-reply-requires c κs = search rules

put-requires : tie.Need-put-requires
put-requires c κs = search rules

same_length : tie.Need-shape_of-coefs
same_length c = search rules

same-length-2 : tie.Need-shape_of-rhs
same-length-2 c = search rules

same-length-3 : tie.Need-shape_of-answer
same-length-3 c = search rules

returns-2 : tie.Need-returns
returns-2 c =
    let p = c.before.before.before.before.before.before.before in
    let s = p.before.before.before.before.before.before in
    call-replied s.args.answer.now (before s) (state s (rows_of p.tighten_coefficient.new.coefs p.tighten_coefficient.new.rhs s.args.kinds.now)) 4 s.args.row s.args.variable 0 (tighten_answer p.tighten_coefficient.result) p.if-answer-ne-ANSWER.false
    c.put.ensures (c.tighten_reply.ensures ∙ tighten-named p.tighten_coefficient.result) p.tighten_coefficient.ensures.0

pub astrolabe_tighten_coefficient_spec : {M : Type 1} → statement M
astrolabe_tighten_coefficient_spec =
    tie.close
    (tie.spec
    answer-fault-requires
    returns
    tighten-coefficient-requires
    tighten-reply-requires
    put-requires
    same_length
    same-length-2
    same-length-3
    returns-2)
