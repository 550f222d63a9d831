-- `clique_call::call::cliques`: refused by the first check that fails, and else the list as it is written; what it means is
-- `promised`. Assumes nothing.
use mathlib.Core.Path.{sym}
use Rattle.std.proofs.lemmas.Result.{err_from_is_err_and}
use Rattle.model.proofs.RefusalLaws.{number_of-ne0}
use Rattle.clique_call.specs.CliqueAnswers.{cliques_answer, performed_cliques}
use Rattle.clique_call.proofs.CallLaws.{all-passed, promised, refused-by, written-by}
use Rattle.clique_call.proofs.call.cliques.Goals as goal

pub returns-in_err-check_cliques : goal.returns-in_err-check_cliques
unfolding performed_cliques cliques_answer
returns-in_err-check_cliques c =
    let a = c.args in
    let q = err_from_is_err_and c.from_residual.result c.from_residual.ensures.1 in
    let p = promised a.n a.table.now a.coefs.now a.rhs.now _ (refused-by _ _ _ _ c.in_err-check_cliques.ensures (number_of-ne0 _)) in
    rw (q.1, q.2) (record { defined = p.0; meaning = p.1 })

pub write_cliques-requires : goal.write_cliques-requires
write_cliques-requires c =
    let a = c.args in
    let l = all-passed a.n a.table.now a.coefs.now a.rhs.now (sym c.in_ok-check_cliques.ensures) in
    record { lent_table = l.0; coefs_len = (l.1, l.2) }

pub returns : goal.returns
unfolding performed_cliques cliques_answer
returns c =
    let a = c.args in
    let p =
    promised a.n a.table.now a.coefs.now a.rhs.now _
    (written-by a.n a.table.now a.coefs.now a.rhs.now (sym c.in_ok-check_cliques.ensures) c.write_cliques.ensures) in
    record { defined = p.0; meaning = p.1 }
