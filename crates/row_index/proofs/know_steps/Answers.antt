-- `row_index::know_steps`: known steps are good, and those that are made leave the other rows' as they are. Assumes nothing.
use Rattle.row_index.proofs.IndexLoops.{steps-more}
use Rattle.row_index.proofs.know_steps.Goals as goal

pub returns : goal.returns
returns c =
    let call = c.fill_steps in
    (steps-more c.args.r c.requires.1 c.requires.0 call.auto.across call.ensures.row call.ensures.others, call.ensures.row)
