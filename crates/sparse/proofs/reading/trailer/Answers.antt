-- `sparse::reading::trailer`: the checks in their order, and the sizes where all are passed. Assumes nothing.
use Rattle.std.proofs.Common.{◌∙◌, ap₂, sym, arith}
use Rattle.std.proofs.lemmas.Result.{err_from_is_err_and}
use borrow.Author.Tests.{le-leb, lt-leb}
use Rattle.model.proofs.CheckLaws.{fails, past}
use Rattle.book.specs.Answers.{sizes_answer, sizes_are}
use Rattle.book.proofs.AnswerLaws.{accepted-by, refused-by, refused-by_name}
use Rattle.sparse_layout.specs.SparseChecks.{sparse_trailer_checks}
use Rattle.sparse_calls.specs.SparseCalls.{sparse_trailer_call}
use Rattle.sparse.proofs.reading.trailer.Goals as goal

pub returns-then-bytes-lt-TRAILER : goal.returns-then-bytes-lt-TRAILER
unfolding sizes_answer sparse_trailer_call sparse_trailer_checks
returns-then-bytes-lt-TRAILER c = refused-by (fails _ 1 _ (lt-leb _ _ c.if-bytes-lt-TRAILER.true)) (λ z. omega arith) _

pub returns-then-bytes-gt-TRAILER : goal.returns-then-bytes-gt-TRAILER
unfolding sizes_answer sparse_trailer_call sparse_trailer_checks
returns-then-bytes-gt-TRAILER c =
    refused-by (past _ 1 _ (le-leb _ _ c.if-bytes-lt-TRAILER.false) (fails _ 5 _ (lt-leb _ _ c.if-bytes-gt-TRAILER.true))) (λ z. omega arith) _

pub returns-in_err-check_frame : goal.returns-in_err-check_frame
unfolding sizes_answer sparse_trailer_call sparse_trailer_checks
returns-in_err-check_frame c =
    let p = err_from_is_err_and c.from_residual.result c.from_residual.ensures.1 in
    rw (p.1, p.2)
    (refused-by_name _ (past _ 1 _ (le-leb _ _ c.if-bytes-lt-TRAILER.false) (past _ 5 _ (le-leb _ _ c.if-bytes-gt-TRAILER.false) c.in_err-check_frame.ensures)) _)

pub returns : goal.returns
unfolding sizes_answer sparse_trailer_call sparse_trailer_checks
returns c =
    ap₂ sizes_are c.variables_of.ensures c.rows_of.ensures
    ∙ accepted-by (sym (past _ 1 _ (le-leb _ _ c.if-bytes-lt-TRAILER.false) (past _ 5 _ (le-leb _ _ c.if-bytes-gt-TRAILER.false) c.in_ok-check_frame.ensures))) _
