-- `capi::tied::astrolabe_tie`: a wrong answer length, or the answer of the open call, written. Assumes nothing.
use borrow.Author.Rules.{rules}
use mathlib.Core.List.{List}
use Prim.Native.Nat.{ℕ}
use mathlib.Core.Path.{◌∙◌}
use Rattle.model.specs.Rows.{Rows, rows_of}
use Rattle.model.specs.State.{state_of}
use Rattle.ties.specs.Ties.{TiedState, tied_state_of}
use Rattle.replies.proofs.NamedLaws.{tie-named}
use Rattle.exports.proofs.TieLaws.{tie-refused, tie-replied}
use Rattle.capi.proofs.tied.astrolabe_tie.Statement.{statement}
use Rattle.capi.proofs.tied.astrolabe_tie.Tie as tie

abbrev state : tie.Start → Rows → List ℕ → TiedState
state s A ties = tied_state_of s.args.n s.args.m s.args.bounds.now A s.args.table.now ties

abbrev before : tie.Start → TiedState
before s = state s (rows_of s.args.coefs.now s.args.rhs.now s.args.kinds.now) s.args.ties.now

answer-fault-requires : tie.Need-answer_fault-requires
answer-fault-requires c κs = search rules

returns : tie.Need-returns-then-answer-ne-ANSWER
unfolding tied_state_of state_of
returns c =
    let s = c.before.before.before.before.before.before in tie-refused s.args.answer.now (before s) s.args.k s.args.j c.if-answer-ne-ANSWER.true c.answer_fault.ensures

tie-requires : tie.Need-tie-requires
tie-requires c κs = search rules

tie-reply-requires : tie.Need-tie_reply-requires
tie-reply-requires c κs = search rules

put-requires : tie.Need-put-requires
put-requires c κs = search rules

same_length : tie.Need-shape_of-coefs
same_length c = search rules

same-length-2 : tie.Need-shape_of-rhs
same-length-2 c = search rules

same-length-3 : tie.Need-shape_of-ties
same-length-3 c = search rules

same-length-4 : tie.Need-shape_of-answer
same-length-4 c = search rules

returns-2 : tie.Need-returns
unfolding tied_state_of
returns-2 c =
    let p = c.before.before.before.before.before.before.before.before.before in
    let s = p.before.before.before.before.before.before.before.before.before in
    let after = state s (rows_of p.tie.new.coefs p.tie.new.rhs s.args.kinds.now) p.tie.new.ties in
    tie-replied s.args.answer.now (before s) s.args.k s.args.j after p.tie.result p.if-answer-ne-ANSWER.false
    c.put.ensures (c.tie_reply.ensures ∙ tie-named p.tie.result) p.tie.ensures.0

pub astrolabe_tie_spec : {M : Type 1} → statement M
astrolabe_tie_spec =
    tie.close
    (tie.spec
    answer-fault-requires
    returns
    tie-requires
    tie-reply-requires
    put-requires
    same_length
    same-length-2
    same-length-3
    same-length-4
    returns-2)
