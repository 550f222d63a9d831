-- `book::layout::trailer`: the checks in their order, and the sizes where all are passed. Assumes nothing.
use Rattle.std.proofs.Common.{◌∙◌, ap₂, sym, arith}
use Rattle.std.proofs.lemmas.Result.{err_from_is_err_and}
use borrow.Author.Tests.{le-leb, lt-leb}
use Rattle.model.proofs.CheckLaws.{fails, past}
use Rattle.book.specs.Answers.{sizes_answer, sizes_are, trailer_call}
use Rattle.book.specs.BookChecks.{trailer_checks}
use Rattle.book.proofs.AnswerLaws.{accepted-by, refused-by, refused-by_name}
use Rattle.book.proofs.layout.trailer.Goals as goal

pub returns-then-is_short : goal.returns-then-is_short
unfolding sizes_answer trailer_call trailer_checks
returns-then-is_short c = refused-by (fails _ 1 _ (lt-leb _ _ c.if-is_short.true)) (λ z. omega arith) _

pub returns-then-is_longer : goal.returns-then-is_longer
unfolding sizes_answer trailer_call trailer_checks
returns-then-is_longer c =
    refused-by (past _ 1 _ (le-leb _ _ c.if-is_short.false) (fails _ 5 _ (lt-leb _ _ c.if-is_longer.true))) (λ z. omega arith) _

pub returns-in_err-check_layout : goal.returns-in_err-check_layout
unfolding sizes_answer trailer_call trailer_checks
returns-in_err-check_layout c =
    let p = err_from_is_err_and c.from_residual.result c.from_residual.ensures.1 in
    rw (p.1, p.2)
    (refused-by_name _ (past _ 1 _ (le-leb _ _ c.if-is_short.false) (past _ 5 _ (le-leb _ _ c.if-is_longer.false) c.in_err-check_layout.ensures)) _)

pub returns : goal.returns
unfolding sizes_answer trailer_call trailer_checks
returns c =
    ap₂ sizes_are c.variables_of.ensures c.rows_of.ensures
    ∙ accepted-by (sym (past _ 1 _ (le-leb _ _ c.if-is_short.false) (past _ 5 _ (le-leb _ _ c.if-is_longer.false) c.in_ok-check_layout.ensures))) _
