-- `sparse::reading::check_book`: each call answers for its list of checks, and the lists are passed in their order.
-- Assumes nothing.
use Rattle.std.proofs.Common.{sym, arith}
use Rattle.std.proofs.lemmas.Result.{err_from_is_err_and}
use Rattle.model.specs.Checks.{length_checks}
use Rattle.model.specs.Model.{model_of}
use Rattle.model.specs.Rows.{rows_of}
use Rattle.model.proofs.CheckLaws.{accepts, refuses}
use Rattle.book.specs.BookChecks.{model_number_checks}
use Rattle.sparse_layout.specs.SparseBook.{decode_sparse, sparse_model_in}
use Rattle.sparse_layout.specs.SparseChecks.{sparse_layout_checks}
use Rattle.sparse_layout.proofs.SparseAcceptLaws.{sparse-layout-numbered, sparse-layout-test}
use Rattle.sparse_calls.specs.SparseCalls.{sparse_read_checks, sparse_read_fault}
use Rattle.sparse_calls.proofs.SparseCallLaws.{layout-holds}
use Rattle.sparse.proofs.reading.check_book.Goals as goal

pub returns-in_err-check_layout : goal.returns-in_err-check_layout
unfolding sparse_read_fault sparse_read_checks
returns-in_err-check_layout c =
    let p = err_from_is_err_and c.from_residual.result c.from_residual.ensures.1 in
    rw (p.1, p.2) (refuses _ _ _ c.in_err-check_layout.ensures)

-- the layout's checks are passed
pub trailer_u16-n-requires : goal.trailer_u16-n-requires
trailer_u16-n-requires c = omega (arith, ((sparse-layout-test _).0 (sym c.in_ok-check_layout.ensures)).head.long)

pub trailer_u16-m-requires : goal.trailer_u16-m-requires
trailer_u16-m-requires c = omega (arith, ((sparse-layout-test _).0 (sym c.in_ok-check_layout.ensures)).head.long)

-- `check_lengths` answers for the book's n and m
pub returns-in_err-check_lengths : goal.returns-in_err-check_lengths
unfolding sparse_read_fault sparse_read_checks decode_sparse sparse_model_in
returns-in_err-check_lengths c =
    let p = err_from_is_err_and c.from_residual-in_err-check_lengths.result c.from_residual-in_err-check_lengths.ensures.1 in
    let lengths = rw (c.trailer_u16-n.ensures, c.trailer_u16-m.ensures) at c.in_err-check_lengths.ensures in
    rw (p.1, p.2) (accepts (sparse_layout_checks c.args.book.now) _ (sparse-layout-numbered _) c.in_ok-check_layout.ensures (refuses _ _ _ lengths))

pub check_numbers-requires : goal.check_numbers-requires
check_numbers-requires c =
    rw (c.trailer_u16-n.ensures, c.trailer_u16-m.ensures)
    (layout-holds _ (record { below = λ i. omega (arith, c.type_inv.book i) }) ((sparse-layout-test _).0 (sym c.in_ok-check_layout.ensures)))

-- `check_numbers` answers for the book's model
pub returns : goal.returns
unfolding sparse_read_fault sparse_read_checks length_checks decode_sparse sparse_model_in
returns c =
    let a = c.args in
    let M = decode_sparse a.book.now in
    let lengths = rw (c.trailer_u16-n.ensures, c.trailer_u16-m.ensures) at c.in_ok-check_lengths.ensures in
    let numbers = rw (c.trailer_u16-n.ensures, c.trailer_u16-m.ensures) at c.check_numbers.ensures in
    accepts (sparse_layout_checks a.book.now) _ (sparse-layout-numbered _) c.in_ok-check_layout.ensures
    (accepts (length_checks (model_of M.n M.m a.bounds.now (rows_of a.coefs.now a.rhs.now a.kinds.now))) (model_number_checks M) tt lengths numbers)
