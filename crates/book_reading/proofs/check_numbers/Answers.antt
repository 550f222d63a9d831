-- `book_reading::check_numbers`: what each call says is the test of its checks, and the checks are passed in their order; 16
-- passes of kinds that are all 0 (`bits-kinds_of`). Assumes nothing.
use Rattle.std.proofs.Common.{sym}
use Rattle.std.proofs.lemmas.Result.{err_from_is_err_and}
use Rattle.model.specs.Checks.{box_checks, number_checks}
use Rattle.model.proofs.CheckLaws.{accepts, ends, fails, past, refuses}
use Rattle.book.specs.Book.{bounds_of, rhs_of, row_place}
use Rattle.little_endian.specs.Bytes.{integers_at}
use Rattle.book.proofs.DecodeLaws.{bits-kinds_of}
use Rattle.book_reading.proofs.check_numbers.Goals as goal

pub returns-in_err-check_bounds : goal.returns-in_err-check_bounds
unfolding number_checks
returns-in_err-check_bounds c =
    let p = err_from_is_err_and c.from_residual.result c.from_residual.ensures.1 in
    rw (p.1, p.2) (refuses _ _ _ c.in_err-check_bounds.ensures)

pub returns-then-not-coefs_in_range : goal.returns-then-not-coefs_in_range
unfolding number_checks box_checks
returns-then-not-coefs_in_range c =
    accepts (box_checks c.args.n (bounds_of c.args.n c.args.book.now)) _ tt c.in_ok-check_bounds.ensures (fails _ 8 _ (sym c.if-not-coefs_in_range.ensures))

pub returns-then-not-are_in_range : goal.returns-then-not-are_in_range
unfolding number_checks box_checks rhs_of row_place integers_at
returns-then-not-are_in_range c =
    accepts (box_checks c.args.n (bounds_of c.args.n c.args.book.now)) _ tt c.in_ok-check_bounds.ensures
    (past _ 8 _ (sym c.if-not-coefs_in_range.ensures) (fails _ 9 _ (sym c.if-not-are_in_range.ensures)))

pub returns : goal.returns
unfolding number_checks box_checks rhs_of row_place integers_at
returns c =
    accepts (box_checks c.args.n (bounds_of c.args.n c.args.book.now)) _ tt c.in_ok-check_bounds.ensures
    (past _ 8 _ (sym c.if-not-coefs_in_range.ensures) (past _ 9 _ (sym c.if-not-are_in_range.ensures) (past _ 16 _ (bits-kinds_of _) ends)))
