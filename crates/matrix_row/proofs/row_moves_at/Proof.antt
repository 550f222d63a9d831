-- `matrix_row::row_moves_at` is what the row, read in place, says. Assumes nothing.
use borrow.Author.Rules.{rules}
use mathlib.Core.Path.{◌≡◌}
use mir.Facts.{to_z-of_z}
use mir.Syntax.{w32}
use mir.Val.{of_z, to_z}
use Rattle.integer.proofs.RangeLaws.{within-fits}
use Rattle.model.specs.Box.{at}
use Rattle.row.proofs.RowLoops.{rhs-within}
use Rattle.matrix_row.proofs.row_moves_at.Statement.{statement}
use Rattle.matrix_row.proofs.row_moves_at.Tie as tie

rhs-is : (s : tie.Start) → to_z w32 (of_z w32 (at s.args.rhs.now s.args.r)) ≡ at s.args.rhs.now s.args.r
rhs-is s = to_z-of_z {w = w32} (within-fits w32 tt (rhs-within s.requires.1.rhs))

coefficients-requires : tie.Need-coefficients-requires
coefficients-requires c κs = search rules

mul-moves : tie.Need-offset_bounds-rhs-r
mul-moves c = search rules

shared-slice-copy-out-moves : tie.Need-bounds-rhs-r
shared-slice-copy-out-moves c = search rules

shared-slice-read-moves : tie.Need-bounds-kinds-r
shared-slice-read-moves c = search rules

moves-requires : tie.Need-moves-requires
moves-requires c κs =
    let k = c.before.before in
    let s = k.before.before in
    rw (k.coefficients.ensures, s.requires.1.coefs.len, rhs-is s) s.requires.1

returns : tie.Need-returns
returns c =
    let k = c.before.before.before in
    let s = k.before.before in
    rw (k.coefficients.ensures, s.requires.1.coefs.len, rhs-is s) at c.moves.ensures

pub row_moves_at_spec : {M : Type 1} → statement M
row_moves_at_spec =
    tie.close
    (tie.spec
    coefficients-requires
    mul-moves
    shared-slice-copy-out-moves
    shared-slice-read-moves
    moves-requires
    returns)
