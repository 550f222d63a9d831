-- `capi::model_calls::astrolabe_rounds`: a wrong answer length, or the answer of the open call, written. Assumes nothing.
use Prim.Native.Nat.{ℕ}
use borrow.Author.Rules.{rules}
use lib.IntN.{ℤ}
use mathlib.Core.List.{List}
use mathlib.Core.Path.{◌∙◌}
use Rattle.model.specs.Rows.{Rows, rows_of}
use Rattle.model.specs.State.{State, state_of}
use Rattle.rounds.specs.Answers.{rounds_answer}
use Rattle.call_replies.proofs.NamedLaws.{rounds-named}
use Rattle.exports.proofs.ExportLaws.{rounds-refused, rounds-replied}
use Rattle.capi.proofs.model_calls.astrolabe_rounds.Statement.{statement}
use Rattle.capi.proofs.model_calls.astrolabe_rounds.Tie as tie

abbrev state : tie.Start → List ℤ → Rows → List ℕ → State
state s B A t = state_of s.args.n s.args.m B A t

abbrev before : tie.Start → State
before s = state s s.args.bounds.now (rows_of s.args.coefs.now s.args.rhs.now s.args.kinds.now) s.args.table.now

answer-fault-requires : tie.Need-answer_fault-requires
answer-fault-requires c κs = search rules

returns : tie.Need-returns-then-answer-ne-ANSWER
unfolding state_of
returns c = let s = c.before.before.before.before.before in rounds-refused s.args.answer.now (before s) s.args.limit c.if-answer-ne-ANSWER.true c.answer_fault.ensures

run-requires : tie.Need-run-requires
run-requires c κs = search rules

rounds-reply-requires : tie.Need-rounds_reply-requires
rounds-reply-requires c κs = search rules

put-requires : tie.Need-put-requires
put-requires c κs = search rules

same_length : tie.Need-shape_of-bounds
same_length c = search rules

same-length-2 : tie.Need-shape_of-coefs
same-length-2 c = search rules

same-length-3 : tie.Need-shape_of-rhs
same-length-3 c = search rules

same-length-4 : tie.Need-shape_of-kinds
same-length-4 c = search rules

same-length-5 : tie.Need-shape_of-table
same-length-5 c = search rules

same-length-6 : tie.Need-shape_of-answer
same-length-6 c = search rules

returns-2 : tie.Need-returns
returns-2 c =
    let p = c.before.before.before.before.before.before.before.before.before.before.before.before in
    let s = p.before.before.before.before.before.before.before.before.before.before in
    rounds-replied s.args.answer.now (before s) (state s p.run.new.bounds (rows_of p.run.new.coefs p.run.new.rhs p.run.new.kinds) p.run.new.table) s.args.limit (rounds_answer p.run.result) p.if-answer-ne-ANSWER.false c.put.ensures (c.rounds_reply.ensures ∙ rounds-named p.run.result)
    p.run.ensures.0 p.run.ensures.1.0

pub astrolabe_rounds_spec : {M : Type 1} → statement M
astrolabe_rounds_spec =
    tie.close
    (tie.spec
    answer-fault-requires
    returns
    run-requires
    rounds-reply-requires
    put-requires
    same_length
    same-length-2
    same-length-3
    same-length-4
    same-length-5
    same-length-6
    returns-2)
