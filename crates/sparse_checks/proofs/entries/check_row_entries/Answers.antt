-- `sparse_checks::entries::check_row_entries`: the first entry that fails is the one that refuses. Assumes nothing.
use Rattle.std.proofs.Common.{◌≡◌, refl, sym, arith}
use Rattle.std.proofs.lemmas.Result.{err_from_is_err_and}
use Rattle.little_endian.specs.Pieces.{joined}
use Rattle.model.specs.Checks.{first}
use Rattle.model.proofs.RefusalLaws.{number_of-ne0}
use Rattle.sparse_layout.specs.SparseChecks.{entry_checks}
use Rattle.sparse_layout.proofs.CheckingLaws.{first-at, first_on}
use Rattle.sparse_layout.proofs.SparseAcceptLaws.{entry-numbered}
use Rattle.sparse_checks.proofs.entries.check_row_entries.Goals as goal

pub loop-e-init : goal.loop-e-init
unfolding joined first
loop-e-init c = refl

pub returns-in_err-check_entry : goal.returns-in_err-check_entry
returns-in_err-check_entry c =
    let a = c.args in
    let p = err_from_is_err_and c.from_residual.result c.from_residual.ensures.1 in
    let f = entry_checks a.n a.p a.book.now in
    rw (p.1, p.2)
    (first-at f (entry-numbered a.n a.p a.book.now) _ a.count c.loop-e.e c.loop-e-test.true c.loop-e.invariant
    c.in_err-check_entry.ensures (number_of-ne0 _))

pub loop-e-preserved : goal.loop-e-preserved
loop-e-preserved c =
    let a = c.args in
    first_on _ (entry-numbered a.n a.p a.book.now) c.loop-e.e c.loop-e.invariant (sym c.in_ok-check_entry.ensures)

pub returns : goal.returns
returns c =
    let end : c.loop-e.e ≡ c.args.count = omega arith in
    sym (rw end at c.loop-e.invariant)
