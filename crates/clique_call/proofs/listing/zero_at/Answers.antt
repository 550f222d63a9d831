-- `clique_call::listing::zero_at`: the part that is lent is row k, and it comes back all 0. Assumes nothing.
use Rattle.row.specs.Redundancy.{zero_row}
use Rattle.row.proofs.RedundancyLaws.{length-zero_row}
use Rattle.matrix.proofs.PartLaws.{part-is}
use Rattle.clique_call.proofs.ListLaws.{length_part, part-back}
use Rattle.clique_call.proofs.listing.zero_at.Goals as goal

pub returns : goal.returns
returns c =
    let C = c.args.coefs.now in
    let k = c.args.k in
    let n = c.args.n in
    let told = rw (part-is k n C, length_part C k n c.requires) at c.zero.ensures in
    rw told (part-back C (zero_row n) k n (length-zero_row n))
