-- `sparse_checks::head::check_frame`: check 3 by `check_size`, and each comparison is a part of check 4 (`frame_refused`).
-- Assumes nothing.
use Rattle.std.proofs.Common.{◌≡◌, sym, arith}
use Rattle.std.proofs.lemmas.Result.{err_from_is_err_and}
use Rattle.model.specs.Checks.{first, size_checks}
use Rattle.model.proofs.CheckLaws.{refuses}
use Rattle.book.specs.Book.{rows, variables}
use Rattle.book.proofs.AcceptLaws.{size-passed}
use Rattle.sparse_layout.specs.SparseChecks.{sparse_frame_checks}
use Rattle.sparse_layout.proofs.CheckingLaws.{frame-accepted, frame_refused}
use Rattle.sparse_checks.proofs.head.check_frame.Goals as goal

-- `check_size` answers for the trailer's n and m
pub returns-in_err-check_size : goal.returns-in_err-check_size
unfolding sparse_frame_checks
returns-in_err-check_size c =
    let t = c.args.trailer.now in
    let p = err_from_is_err_and c.from_residual.result c.from_residual.ensures.1 in
    let sized = rw (c.variables_of-n.ensures, c.rows_of-m.ensures) at c.in_err-check_size.ensures in
    rw (p.1, p.2) (refuses (size_checks (variables t) (rows t)) _ _ sized)

pub overflow_mul-n : goal.overflow_mul-n
overflow_mul-n c = let h = size-passed _ _ (sym c.in_ok-check_size.ensures) in omega arith

pub returns-then-read_u32-ne0 : goal.returns-then-read_u32-ne0
returns-then-read_u32-ne0 c =
    let t = c.args.trailer.now in
    let passed : first (size_checks (variables t) (rows t)) ≡ 0 = rw (c.variables_of-n.ensures, c.rows_of-m.ensures) at (sym c.in_ok-check_size.ensures) in
    frame_refused _ passed (λ h. omega arith)

pub returns-then-read_u32-n : goal.returns-then-read_u32-n
returns-then-read_u32-n c =
    let t = c.args.trailer.now in
    let passed : first (size_checks (variables t) (rows t)) ≡ 0 = rw (c.variables_of-n.ensures, c.rows_of-m.ensures) at (sym c.in_ok-check_size.ensures) in
    frame_refused _ passed (λ h. omega arith)

pub returns : goal.returns
returns c =
    let t = c.args.trailer.now in
    let passed : first (size_checks (variables t) (rows t)) ≡ 0 = rw (c.variables_of-n.ensures, c.rows_of-m.ensures) at (sym c.in_ok-check_size.ensures) in
    frame-accepted _ passed (omega arith)
