-- `capi::clique_rows::astrolabe_cliques`: a wrong answer length after 3, or the answer of the open call, written. Assumes nothing.
use mathlib.Core.Path.{◌∙◌}
use Rattle.clique_call.specs.CliqueAnswers.{cliques_answer, performed_cliques}
use Rattle.replies.proofs.NamedLaws.{cliques-named}
use Rattle.exports.proofs.CliqueLaws.{cliques-refused, cliques-replied}
use borrow.Author.Rules.{rules}
use Rattle.capi.proofs.clique_rows.astrolabe_cliques.Statement.{statement}
use Rattle.capi.proofs.clique_rows.astrolabe_cliques.Tie as tie

answer-fault-requires : tie.Need-answer_fault-requires
answer-fault-requires c κs = search rules

returns : tie.Need-returns-then-answer-ne-ANSWER
returns c =
    let s = c.args in
    cliques-refused s.answer.now s.n s.table.now s.coefs.now s.rhs.now c.if-answer-ne-ANSWER.true c.answer_fault.ensures

cliques-requires : tie.Need-cliques-requires
cliques-requires c κs = search rules

cliques-reply-requires : tie.Need-cliques_reply-requires
cliques-reply-requires c κs = search rules

put-requires : tie.Need-put-requires
put-requires c κs = search rules

same_length : tie.Need-shape_of-coefs
same_length c = search rules

same-length-2 : tie.Need-shape_of-rhs
same-length-2 c = search rules

same-length-3 : tie.Need-shape_of-answer
same-length-3 c = search rules

returns-2 : tie.Need-returns
unfolding performed_cliques
returns-2 c =
    let p = c.before.before.before.before.before.before.before in
    let s = p.args in
    cliques-replied s.answer.now s.n s.table.now s.coefs.now s.rhs.now (cliques_answer p.cliques.result) p.cliques.new.coefs p.cliques.new.rhs
    p.if-answer-ne-ANSWER.false c.put.ensures (c.cliques_reply.ensures ∙ cliques-named p.cliques.result) p.cliques.ensures.0

pub astrolabe_cliques_spec : {M : Type 1} → statement M
astrolabe_cliques_spec =
    tie.close
    (tie.spec
    answer-fault-requires
    returns
    cliques-requires
    cliques-reply-requires
    put-requires
    same_length
    same-length-2
    same-length-3
    returns-2)
