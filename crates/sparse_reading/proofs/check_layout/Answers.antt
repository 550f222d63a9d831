-- `sparse_reading::check_layout`: the two calls answer for the two lists of checks, in their order. Assumes nothing.
use Rattle.std.proofs.Common.{sym, arith}
use Rattle.std.proofs.lemmas.Result.{err_from_is_err_and}
use Rattle.model.proofs.CheckLaws.{accepts, refuses}
use Rattle.sparse_layout.specs.SparseChecks.{sparse_head_checks, sparse_layout_checks}
use Rattle.sparse_layout.proofs.CheckingLaws.{head_rows}
use Rattle.sparse_layout.proofs.SparseAcceptLaws.{sparse-head-numbered, sparse-head-test}
use Rattle.sparse_reading.proofs.check_layout.Goals as goal

pub returns-in_err-check_head : goal.returns-in_err-check_head
unfolding sparse_layout_checks
returns-in_err-check_head c =
    let p = err_from_is_err_and c.from_residual.result c.from_residual.ensures.1 in
    rw (p.1, p.2) (refuses _ _ _ c.in_err-check_head.ensures)

-- checks 1 to 4 are passed
pub trailer_u16-n-requires : goal.trailer_u16-n-requires
trailer_u16-n-requires c = omega (arith, ((sparse-head-test _).0 (sym c.in_ok-check_head.ensures)).long)

pub trailer_u16-m-requires : goal.trailer_u16-m-requires
trailer_u16-m-requires c = omega (arith, ((sparse-head-test _).0 (sym c.in_ok-check_head.ensures)).long)

-- so the book holds its rows
pub check_entries-requires : goal.check_entries-requires
check_entries-requires c =
    rw (c.trailer_u16-n.ensures, c.trailer_u16-m.ensures)
    (head_rows c.args.book.now (record { below = λ i. omega (arith, c.type_inv.book i) }) ((sparse-head-test _).0 (sym c.in_ok-check_head.ensures)))

pub returns : goal.returns
unfolding sparse_layout_checks
returns c =
    let bs = c.args.book.now in
    let entries = rw (c.trailer_u16-n.ensures, c.trailer_u16-m.ensures) at c.check_entries.ensures in
    accepts (sparse_head_checks bs) _ (sparse-head-numbered bs) c.in_ok-check_head.ensures entries
