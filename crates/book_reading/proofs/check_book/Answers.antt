-- `book_reading::check_book`: each call answers for its list of checks, and the lists are passed in their order.
-- Assumes nothing.
use Rattle.std.proofs.Common.{sym, arith}
use Rattle.std.proofs.lemmas.Result.{err_from_is_err_and}
use Rattle.model.specs.Checks.{length_checks}
use Rattle.model.proofs.CheckLaws.{accepts, refuses}
use Rattle.model.specs.Model.{model_of}
use Rattle.model.specs.Rows.{rows_of}
use Rattle.book.specs.Answers.{read_fault}
use Rattle.book.specs.Book.{decode, model_in}
use Rattle.book.specs.BookChecks.{head_checks, model_number_checks, read_checks}
use Rattle.book.proofs.AcceptLaws.{head-holds, head-numbered, head-test}
use Rattle.book_reading.proofs.check_book.Goals as goal

pub returns-in_err-check_head : goal.returns-in_err-check_head
unfolding read_fault read_checks
returns-in_err-check_head c =
    let p = err_from_is_err_and c.from_residual.result c.from_residual.ensures.1 in
    rw (p.1, p.2) (refuses _ _ _ c.in_err-check_head.ensures)

-- checks 1 to 4 are passed
pub trailer_u16-n-requires : goal.trailer_u16-n-requires
trailer_u16-n-requires c = omega (arith, ((head-test _).0 (sym c.in_ok-check_head.ensures)).long)

pub trailer_u16-m-requires : goal.trailer_u16-m-requires
trailer_u16-m-requires c = omega (arith, ((head-test _).0 (sym c.in_ok-check_head.ensures)).long)

-- `check_lengths` answers for the book's n and m
pub returns-in_err-check_lengths : goal.returns-in_err-check_lengths
unfolding read_fault read_checks decode model_in
returns-in_err-check_lengths c =
    let p = err_from_is_err_and c.from_residual-in_err-check_lengths.result c.from_residual-in_err-check_lengths.ensures.1 in
    let lengths = rw (c.trailer_u16-n.ensures, c.trailer_u16-m.ensures) at c.in_err-check_lengths.ensures in
    rw (p.1, p.2) (accepts (head_checks c.args.book.now) _ (head-numbered _) c.in_ok-check_head.ensures (refuses _ _ _ lengths))

pub check_numbers-requires : goal.check_numbers-requires
check_numbers-requires c = rw (c.trailer_u16-n.ensures, c.trailer_u16-m.ensures) (head-holds _ ((head-test _).0 (sym c.in_ok-check_head.ensures)))

-- `check_numbers` answers for the book's model
pub returns : goal.returns
unfolding read_fault read_checks length_checks decode model_in
returns c =
    let a = c.args in
    let M = decode a.book.now in
    let lengths = rw (c.trailer_u16-n.ensures, c.trailer_u16-m.ensures) at c.in_ok-check_lengths.ensures in
    let numbers = rw (c.trailer_u16-n.ensures, c.trailer_u16-m.ensures) at c.check_numbers.ensures in
    accepts (head_checks a.book.now) _ (head-numbered _) c.in_ok-check_head.ensures
    (accepts (length_checks (model_of M.n M.m a.bounds.now (rows_of a.coefs.now a.rhs.now a.kinds.now))) (model_number_checks M) tt lengths numbers)
