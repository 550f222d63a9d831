-- `clique_call::listing::same_row`: what is lent are the two rows (`coefficients`). Assumes nothing.
use Rattle.matrix.proofs.PartLaws.{part_length}
use Rattle.clique_call.proofs.listing.same_row.Goals as goal

pub same_box-requires : goal.same_box-requires
same_box-requires c =
    let a = c.args in
    rw
    (c.coefficients.ensures, c.coefficients-2.ensures, part_length a.i a.n a.coefs.now c.requires.0, part_length a.k a.n a.coefs.now c.requires.1)

pub returns : goal.returns
returns c = rw (c.coefficients.ensures, c.coefficients-2.ensures) at c.same_box.ensures
