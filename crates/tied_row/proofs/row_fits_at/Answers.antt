-- `tied_row::row_fits_at`: what is lent is row i (`coefficients`). Assumes nothing.
use mathlib.Core.Path.{◌≡◌}
use mir.Syntax.{w32}
use mir.Val.{of_z, to_z}
use Rattle.integer.proofs.RangeLaws.{back}
use Rattle.model.specs.Box.{at}
use Rattle.tied_row.proofs.row_fits_at.Goals as goal

pub row_fits-requires : goal.row_fits-requires
row_fits-requires c =
    let b-is : to_z w32 (of_z w32 (at c.args.rhs.now c.args.i)) ≡ at c.args.rhs.now c.args.i = back w32 tt c.requires.small_row.rhs in
    rw (c.coefficients.ensures, b-is) c.requires.small_row

pub returns : goal.returns
returns c =
    let b-is : to_z w32 (of_z w32 (at c.args.rhs.now c.args.i)) ≡ at c.args.rhs.now c.args.i = back w32 tt c.requires.small_row.rhs in
    rw (c.coefficients.ensures, b-is) at c.row_fits.ensures
