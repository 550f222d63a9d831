-- `marked_row::clean::find_clean`: the marks stay those of the box, row by row. Assumes nothing.
use Rattle.model.specs.Rows.{rows_of}
use Rattle.row_index.specs.Index.{RowSteps}
use Rattle.row_marks.specs.Marks.{Clean}
use Rattle.marked_row.proofs.clean.find_clean.Given as goal

abbrev pub invariant-loop-r : goal.invariant-loop-r
invariant-loop-r l = record {
  clean : Clean l.n l.m (rows_of l.coefs l.rhs l.kinds) l.bounds l.marks;
  steps : RowSteps l.n l.m l.coefs l.across;
}
