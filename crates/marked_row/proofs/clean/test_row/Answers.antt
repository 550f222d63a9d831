-- `marked_row::clean::test_row`: both tests are of the whole row. Assumes nothing.
use Rattle.row_index.proofs.IndexLoops.{row-end}
use Rattle.marked_row.proofs.MarkedRowLaws.{steps-in}
use Rattle.marked_row.proofs.clean.test_row.Goals as goal

pub row_moves_at_by-requires-clause-steps_in : goal.row_moves_at_by-requires-clause-steps_in
row_moves_at_by-requires-clause-steps_in c =
    let known = c.know_steps.ensures in
    steps-in c.args.r (row-end known.0 c.args.r c.requires.row_steps.1).0 known.1
