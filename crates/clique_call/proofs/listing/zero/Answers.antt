-- `clique_call::listing::zero`: a list filled with 0 is the row of zeros. Assumes nothing.
use Rattle.row.specs.Redundancy.{zero_row}
use Rattle.clique_call.proofs.listing.zero.Goals as goal

pub returns : goal.returns
unfolding zero_row
returns c = c.fill.ensures.after (λ y h. h)
