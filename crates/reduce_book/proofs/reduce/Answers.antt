-- The parts of the buffers are as long as the book needs them, and the part of the table is all 0.
use Rattle.reduction.proofs.ReductionLaws.{parts-ready}
use Rattle.reduce_book.proofs.reduce.Goals as goal

pub reduce_in-requires-clause-fact : goal.reduce_in-requires-clause-fact
reduce_in-requires-clause-fact g c =
    let r = c.requires.n_le_max_variables in
    let b = c.most_bounds-bounds in
    let k = c.most_coefs-coefs in
    let q = c.most_rhs-rhs in
    let p = c.most_kinds-kinds in
    parts-ready r.0 r.1 b.result k.result q.result p.result r.2 b.ensures k.ensures q.ensures p.ensures c.largest_table-table.ensures
