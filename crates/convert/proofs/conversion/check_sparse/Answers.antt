-- Each call answers for its list of checks, and the lists are passed in their order.
use Rattle.std.proofs.Common.{sym, refl, arith}
use Rattle.std.proofs.lemmas.Result.{err_from_is_err_and}
use Rattle.model.proofs.RefusalLaws.{number_of-ne0}
use Rattle.model.proofs.CheckLaws.{goes, stops}
use Rattle.sparse_layout.specs.SparseBook.{decode_sparse, sparse_model_in}
use Rattle.sparse_layout.specs.SparseChecks.{sparse_checks, sparse_fault, sparse_layout_checks}
use Rattle.sparse_layout.proofs.SparseAcceptLaws.{sparse-layout-numbered, sparse-layout-test}
use Rattle.sparse_calls.proofs.SparseCallLaws.{layout-holds}
use Rattle.convert.proofs.conversion.check_sparse.Goals as goal

pub returns-in_err-check_layout : goal.returns-in_err-check_layout
unfolding sparse_fault sparse_checks
returns-in_err-check_layout c =
    let p = err_from_is_err_and c.from_residual.result c.from_residual.ensures.1 in
    rw (p.1, p.2) (stops _ _ c.in_err-check_layout.ensures (number_of-ne0 _))

-- the layout's checks are passed
pub trailer_u16-n-requires : goal.trailer_u16-n-requires
trailer_u16-n-requires c =
    let laid = (sparse-layout-test c.args.book.now).0 (sym c.in_ok-check_layout.ensures) in
    (laid.head.long, omega arith)

pub trailer_u16-m-requires : goal.trailer_u16-m-requires
trailer_u16-m-requires c =
    let laid = (sparse-layout-test c.args.book.now).0 (sym c.in_ok-check_layout.ensures) in
    (laid.head.long, omega arith)

pub check_numbers-requires : goal.check_numbers-requires
check_numbers-requires c =
    let laid = (sparse-layout-test c.args.book.now).0 (sym c.in_ok-check_layout.ensures) in
    rw (c.trailer_u16-n.ensures, c.trailer_u16-m.ensures)
    (layout-holds _ (record { below = λ i. omega (arith, c.type_inv.book i) }) laid)

-- `check_numbers` answers for the book's model
pub returns : goal.returns
unfolding sparse_fault sparse_checks decode_sparse sparse_model_in
returns c =
    goes (sparse_layout_checks _) _ (sparse-layout-numbered _) c.in_ok-check_layout.ensures refl
    (rw (← c.trailer_u16-n.ensures, ← c.trailer_u16-m.ensures) c.check_numbers.ensures)
