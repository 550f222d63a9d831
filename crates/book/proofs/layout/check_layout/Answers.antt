-- `book::layout::check_layout`: check 3 by `check_size`, and each comparison is a part of check 4 (`layout-refused`).
-- Assumes nothing.
use Rattle.std.proofs.Common.{◌≡◌, sym, arith}
use Rattle.std.proofs.lemmas.Result.{err_from_is_err_and}
use Rattle.model.specs.Checks.{first, size_checks}
use Rattle.model.proofs.CheckLaws.{refuses}
use Rattle.book.specs.Book.{book_length, rows, variables}
use Rattle.book.specs.BookChecks.{layout_checks}
use Rattle.book.proofs.AcceptLaws.{layout-accepted, layout-refused, size-passed}
use Rattle.book.proofs.layout.check_layout.Goals as goal

-- `check_size` answers for the trailer's n and m
pub returns-in_err-check_size : goal.returns-in_err-check_size
unfolding layout_checks
returns-in_err-check_size c =
    let t = c.args.trailer.now in
    let p = err_from_is_err_and c.from_residual.result c.from_residual.ensures.1 in
    let sized = rw (c.variables_of-n.ensures, c.rows_of-m.ensures) at c.in_err-check_size.ensures in
    rw (p.1, p.2) (refuses (size_checks (variables t) (rows t)) _ _ sized)

pub overflow_mul-n : goal.overflow_mul-n
overflow_mul-n c = let h = size-passed _ _ (sym c.in_ok-check_size.ensures) in omega arith

pub book_length-requires : goal.book_length-requires
book_length-requires c = let h = size-passed _ _ (sym c.in_ok-check_size.ensures) in (h.1, h.2)

pub returns-then-read_u32-ne0 : goal.returns-then-read_u32-ne0
returns-then-read_u32-ne0 c =
    let passed : first (size_checks (variables c.args.trailer.now) (rows c.args.trailer.now)) ≡ 0 = rw (c.variables_of-n.ensures, c.rows_of-m.ensures) at (sym c.in_ok-check_size.ensures) in
    layout-refused _ passed (λ h. omega arith)

pub returns-then-read_u32-n : goal.returns-then-read_u32-n
returns-then-read_u32-n c =
    let passed : first (size_checks (variables c.args.trailer.now) (rows c.args.trailer.now)) ≡ 0 = rw (c.variables_of-n.ensures, c.rows_of-m.ensures) at (sym c.in_ok-check_size.ensures) in
    layout-refused _ passed (λ h. omega arith)

-- `book_length` answers for the trailer's n and m
pub returns-then-read_u32-book_length : goal.returns-then-read_u32-book_length
returns-then-read_u32-book_length c =
    let t = c.args.trailer.now in
    let passed : first (size_checks (variables t) (rows t)) ≡ 0 = rw (c.variables_of-n.ensures, c.rows_of-m.ensures) at (sym c.in_ok-check_size.ensures) in
    let given : c.book_length.result ≡ book_length (variables t) (rows t) = rw (c.variables_of-n.ensures, c.rows_of-m.ensures) at c.book_length.ensures in
    layout-refused _ passed (λ h. omega arith)

pub returns : goal.returns
returns c =
    let t = c.args.trailer.now in
    let passed : first (size_checks (variables t) (rows t)) ≡ 0 = rw (c.variables_of-n.ensures, c.rows_of-m.ensures) at (sym c.in_ok-check_size.ensures) in
    let given : c.book_length.result ≡ book_length (variables t) (rows t) = rw (c.variables_of-n.ensures, c.rows_of-m.ensures) at c.book_length.ensures in
    layout-accepted _ passed (omega arith)
