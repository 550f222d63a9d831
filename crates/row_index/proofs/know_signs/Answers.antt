-- `row_index::know_signs`: known signs are right, and those that are made leave the other columns' as they are. Assumes nothing.
use Rattle.row_index.proofs.IndexLoops.{signs-more}
use Rattle.row_index.proofs.know_signs.Goals as goal

pub returns : goal.returns
returns c =
    let call = c.fill_signs in
    (signs-more c.args.j c.requires.1 c.requires.0 call.auto.signs call.ensures.column call.ensures.others, call.ensures.column)
