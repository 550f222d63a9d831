-- `matrix_row::row_moves_at_by` is what the row, read in place by its steps, says. Assumes nothing.
use borrow.Author.Rules.{rules}
use mathlib.Core.Path.{◌≡◌}
use mir.Facts.{to_z-of_z}
use mir.Syntax.{w32}
use mir.Val.{of_z, to_z}
use Rattle.integer.proofs.RangeLaws.{within-fits}
use Rattle.model.specs.Box.{at}
use Rattle.row.proofs.RowLoops.{rhs-within}
use Rattle.matrix_row.proofs.row_moves_at_by.Statement.{statement}
use Rattle.matrix_row.proofs.row_moves_at_by.Tie as tie

rhs-is : (s : tie.Start) → to_z w32 (of_z w32 (at s.args.rhs.now s.args.r)) ≡ at s.args.rhs.now s.args.r
rhs-is s = to_z-of_z {w = w32} (within-fits w32 tt (rhs-within s.requires.0.1.rhs))

coefficients-requires : tie.Need-coefficients-requires
coefficients-requires c κs = search rules

row-bytes-requires : tie.Need-row_bytes-requires
row-bytes-requires c κs = search rules

mul-moves-by : tie.Need-offset_bounds-rhs-r
mul-moves-by c = search rules

shared-slice-copy-out-moves-by : tie.Need-bounds-rhs-r
shared-slice-copy-out-moves-by c = search rules

shared-slice-read-moves-by : tie.Need-bounds-kinds-r
shared-slice-read-moves-by c = search rules

moves-by-requires : tie.Need-moves_by-requires
moves-by-requires c κs =
    let t = c.before.before in
    let k = t.before in
    let s = k.before.before.before in
    rw (k.coefficients.ensures, t.row_bytes.ensures, s.requires.0.1.coefs.len, rhs-is s) (s.requires.0.1, s.requires.1.good)

returns : tie.Need-returns
returns c =
    let t = c.before.before.before in
    let k = t.before in
    let s = k.before.before.before in
    rw (k.coefficients.ensures, s.requires.0.1.coefs.len, rhs-is s) at c.moves_by.ensures

pub row_moves_at_by_spec : {M : Type 1} → statement M
row_moves_at_by_spec =
    tie.close
    (tie.spec
    coefficients-requires
    row-bytes-requires
    mul-moves-by
    shared-slice-copy-out-moves-by
    shared-slice-read-moves-by
    moves-by-requires
    returns)
