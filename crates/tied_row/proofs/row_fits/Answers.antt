-- `tied_row::row_fits` is row_fits: its numbers are those that the row would get. Assumes nothing.
use mathlib.Core.Path.{◌≡◌, refl}
use mir.Syntax.{w32}
use mir.Val.{of_z, to_z}
use Rattle.integer.proofs.RangeLaws.{back}
use Rattle.integer.proofs.Reading.{read}
use Rattle.model.specs.Box.{at}
use Rattle.ties.specs.TiedRow.{row_fits, tied_rhs}
use Rattle.tied_row.proofs.row_fits.Goals as goal

pub tied_coef-a-requires : goal.tied_coef-a-requires
tied_coef-a-requires c =
    let v = c.requires in
    let A = c.args.coefs.now in
    let k-is : to_z w32 (of_z w32 (at A c.args.k)) ≡ at A c.args.k = back w32 tt (v.coefs c.args.k) in
    let j-is : to_z w32 (of_z w32 (at A c.args.j)) ≡ at A c.args.j = back w32 tt (v.coefs c.args.j) in
    rw (k-is, j-is) (v.coefs c.args.k, v.coefs c.args.j)

pub tied_rhs-rhs-requires : goal.tied_rhs-rhs-requires
tied_rhs-rhs-requires c =
    let v = c.requires in
    let A = c.args.coefs.now in
    let k-is : to_z w32 (of_z w32 (at A c.args.k)) ≡ at A c.args.k = back w32 tt (v.coefs c.args.k) in
    let j-is : to_z w32 (of_z w32 (at A c.args.j)) ≡ at A c.args.j = back w32 tt (v.coefs c.args.j) in
    let b-is : to_z w32 (of_z w32 c.args.b) ≡ c.args.b = back w32 tt v.rhs in
    rw (j-is, b-is) (v.coefs c.args.j, v.rhs)

pub returns : goal.returns
unfolding row_fits tied_rhs
returns c =
    let v = c.requires in
    let A = c.args.coefs.now in
    let k-is : to_z w32 (of_z w32 (at A c.args.k)) ≡ at A c.args.k = back w32 tt (v.coefs c.args.k) in
    let j-is : to_z w32 (of_z w32 (at A c.args.j)) ≡ at A c.args.j = back w32 tt (v.coefs c.args.j) in
    let b-is : to_z w32 (of_z w32 c.args.b) ≡ c.args.b = back w32 tt v.rhs in
    let a-is = read w32 (record { sfits = c.tied_coef-a.type_inv }) (rw (k-is, j-is) at c.tied_coef-a.ensures) in
    let rhs-is = read w32 (record { sfits = c.tied_rhs-rhs.type_inv }) (rw (j-is, b-is) at c.tied_rhs-rhs.ensures) in
    rw (a-is, rhs-is) refl
