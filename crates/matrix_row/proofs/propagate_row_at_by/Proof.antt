-- `matrix_row::propagate_row_at_by` is what the view says by the part of the steps that is row r's. Assumes nothing.
use borrow.Author.Rules.{rules}
use Rattle.matrix_row.proofs.propagate_row_at_by.Statement.{statement}
use Rattle.matrix_row.proofs.propagate_row_at_by.Tie as tie

row-bytes-requires : tie.Need-row_bytes-requires
row-bytes-requires c κs = search rules

propagate-row-with-requires : tie.Need-propagate_row_with-requires
propagate-row-with-requires c κs =
    let t = c in
    let s = t.before.before.before in
    rw t.row_bytes.ensures (s.requires.0.0, s.requires.0.1, s.requires.1.good)

same_length : tie.Need-shape_of-bounds
same_length c = search rules

returns : tie.Need-returns
returns c = search rules

pub propagate_row_at_by_spec : {M : Type 1} → statement M
propagate_row_at_by_spec =
    tie.close (tie.spec row-bytes-requires propagate-row-with-requires same_length returns)
