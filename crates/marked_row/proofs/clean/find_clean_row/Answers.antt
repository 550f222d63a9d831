-- `marked_row::clean::find_clean_row`: a row that moves nothing is clean. Assumes nothing.
use Rattle.std.proofs.Common.{◌∙◌, sym, arith}
use Rattle.model.specs.Rows.{row_at, rows_of}
use Rattle.matrix_view.proofs.RowInLaws.{row_in, valid-row}
use Rattle.marked_row.proofs.MarkedRowLaws.{clean-set, moves-none}
use Rattle.marked_row.proofs.clean.find_clean_row.Goals as goal

pub test_row-requires-clause-fact : goal.test_row-requires-clause-fact
test_row-requires-clause-fact c =
    let v = c.requires.testable.valid in
    (row_in v c.args.r c.requires.r_lt_m, valid-row v c.args.r c.requires.r_lt_m v.box)

pub returns-clause-clean : goal.returns-clause-clean
returns-clause-clean c =
    let a = c.args in
    let g = c.requires.testable in
    let e = moves-none (row_at a.n (rows_of a.coefs.now a.rhs.now a.kinds.now) a.r) g.valid.some (sym c.test_row.ensures.answer ∙ c.if-test_row.false) in
    clean-set {marks = a.marks.now} a.r 1 g.clean (λ _. e) (omega (arith, g.room, c.requires.r_lt_m))
