-- `capi::model_calls::astrolabe_probe`: a wrong answer length, or the answer of the open call, written. Assumes nothing.
use Prim.Native.Nat.{ℕ}
use borrow.Author.Rules.{rules}
use lib.IntN.{ℤ}
use mathlib.Core.List.{List}
use mathlib.Core.Path.{◌∙◌}
use Rattle.reducer.specs.OpenCalls.{probe_answer}
use Rattle.model.specs.Rows.{rows_of}
use Rattle.model.specs.State.{State, state_of}
use Rattle.call_replies.proofs.NamedLaws.{probe-named}
use Rattle.exports.proofs.ExportLaws.{call-refused, call-replied}
use Rattle.capi.proofs.model_calls.astrolabe_probe.Statement.{statement}
use Rattle.capi.proofs.model_calls.astrolabe_probe.Tie as tie

abbrev state : tie.Start → List ℤ → List ℕ → State
state s B t = state_of s.args.n s.args.m B (rows_of s.args.coefs.now s.args.rhs.now s.args.kinds.now) t

abbrev before : tie.Start → State
before s = state s s.args.bounds.now s.args.table.now

answer-fault-requires : tie.Need-answer_fault-requires
answer-fault-requires c κs = search rules

returns : tie.Need-returns-then-answer-ne-ANSWER
unfolding state_of
returns c =
    let s = c.before.before.before.before.before in call-refused s.args.answer.now (before s) 3 0 s.args.variable s.args.budget c.if-answer-ne-ANSWER.true c.answer_fault.ensures

probe-requires : tie.Need-probe-requires
probe-requires c κs = search rules

probe-reply-requires : tie.Need-probe_reply-requires
probe-reply-requires c κs = search rules

put-requires : tie.Need-put-requires
put-requires c κs = search rules

same_length : tie.Need-shape_of-bounds
same_length c = search rules

same-length-2 : tie.Need-shape_of-table
same-length-2 c = search rules

same-length-3 : tie.Need-shape_of-answer
same-length-3 c = search rules

returns-2 : tie.Need-returns
returns-2 c =
    let p = c.before.before.before.before.before.before.before.before in
    let s = p.before.before.before.before.before.before.before in
    call-replied s.args.answer.now (before s) (state s p.probe.new.bounds p.probe.new.table) 3 0 s.args.variable s.args.budget (probe_answer p.probe.result) p.if-answer-ne-ANSWER.false
    c.put.ensures (c.probe_reply.ensures ∙ probe-named p.probe.result) p.probe.ensures.0

pub astrolabe_probe_spec : {M : Type 1} → statement M
astrolabe_probe_spec =
    tie.close
    (tie.spec
    answer-fault-requires
    returns
    probe-requires
    probe-reply-requires
    put-requires
    same_length
    same-length-2
    same-length-3
    returns-2)
