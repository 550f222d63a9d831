-- `capi::model_calls::astrolabe_run_classes`: a wrong answer length, or the answer of the open call, written. Assumes nothing.
use Prim.Native.Nat.{ℕ}
use borrow.Author.Rules.{rules}
use lib.IntN.{ℤ}
use mathlib.Core.List.{List}
use mathlib.Core.Path.{◌∙◌}
use Rattle.model.specs.Rows.{Rows, rows_of}
use Rattle.model.specs.State.{State, state_of}
use Rattle.call_replies.proofs.NamedLaws.{run-named}
use Rattle.exports.proofs.ClassLaws.{classes-refused, classes-replied}
use Rattle.capi.proofs.model_calls.astrolabe_run_classes.Statement.{statement}
use Rattle.capi.proofs.model_calls.astrolabe_run_classes.Tie as tie

abbrev state : tie.Start → List ℤ → Rows → List ℕ → State
state s B A t = state_of s.args.n s.args.m B A t

abbrev before : tie.Start → State
before s = state s s.args.bounds.now (rows_of s.args.coefs.now s.args.rhs.now s.args.kinds.now) s.args.table.now

answer-fault-requires : tie.Need-answer_fault-requires
answer-fault-requires c κs = search rules

returns : tie.Need-returns-then-answer-ne-ANSWER
unfolding state_of
returns c = let s = c.before.before.before.before.before.before.before in
    classes-refused s.args.answer.now (before s) s.args.calls.now s.args.classes.now c.if-answer-ne-ANSWER.true c.answer_fault.ensures

run-classes-requires : tie.Need-run_classes-requires
run-classes-requires c κs = search rules

run-reply-requires : tie.Need-run_reply-requires
run-reply-requires c κs = search rules

put-requires : tie.Need-put-requires
put-requires c κs = search rules

same_length : tie.Need-shape_of-bounds
same_length c = search rules

same-length-2 : tie.Need-shape_of-table
same-length-2 c = search rules

same-length-3 : tie.Need-shape_of-classes
same-length-3 c = search rules

same-length-4 : tie.Need-shape_of-answer
same-length-4 c = search rules

returns-2 : tie.Need-returns
returns-2 c =
    let p = c.before.before.before.before.before.before.before.before.before.before in
    let s = p.before.before.before.before.before.before.before.before.before.before in
    classes-replied s.args.answer.now (before s) s.args.calls.now s.args.classes.now
    (state s p.run_classes.new.bounds (rows_of s.args.coefs.now s.args.rhs.now s.args.kinds.now) p.run_classes.new.table)
    p.run_classes.new.classes p.run_classes.result p.if-answer-ne-ANSWER.false
    c.put.ensures (c.run_reply.ensures ∙ run-named p.run_classes.result) p.run_classes.ensures.0

pub astrolabe_run_classes_spec : {M : Type 1} → statement M
astrolabe_run_classes_spec =
    tie.close
    (tie.spec
    answer-fault-requires
    returns
    run-classes-requires
    run-reply-requires
    put-requires
    same_length
    same-length-2
    same-length-3
    same-length-4
    returns-2)
