-- `tied_row::tie_row`: the coefficients are tied_coefs, the right side is tied_rhs. Assumes nothing.
use mathlib.Core.Path.{◌≡◌, refl}
use mir.Syntax.{w32}
use mir.Val.{of_z, to_z}
use Rattle.integer.proofs.RangeLaws.{back}
use Rattle.integer.proofs.Reading.{read}
use Rattle.model.specs.Box.{at}
use Rattle.ties.specs.TiedRow.{tied_coefs, tied_rhs}
use Rattle.tied_row.proofs.tie_row.Goals as goal

pub tied_coef-requires : goal.tied_coef-requires
tied_coef-requires c =
    let v = c.requires in
    let A = c.args.coefs.now in
    let k-is : to_z w32 (of_z w32 (at A c.args.k)) ≡ at A c.args.k = back w32 tt (v.coefs c.args.k) in
    let j-is : to_z w32 (of_z w32 (at A c.args.j)) ≡ at A c.args.j = back w32 tt (v.coefs c.args.j) in
    rw (k-is, j-is) (v.coefs c.args.k, v.coefs c.args.j)

pub tied_rhs-requires : goal.tied_rhs-requires
tied_rhs-requires c =
    let v = c.requires in
    let A = c.args.coefs.now in
    let k-is : to_z w32 (of_z w32 (at A c.args.k)) ≡ at A c.args.k = back w32 tt (v.coefs c.args.k) in
    let j-is : to_z w32 (of_z w32 (at A c.args.j)) ≡ at A c.args.j = back w32 tt (v.coefs c.args.j) in
    let b-is : to_z w32 (of_z w32 c.args.b.now) ≡ c.args.b.now = back w32 tt v.rhs in
    rw (j-is, b-is) (v.coefs c.args.j, v.rhs)

pub returns : goal.returns
unfolding tied_coefs tied_rhs
returns c =
    let v = c.requires in
    let A = c.args.coefs.now in
    let k-is : to_z w32 (of_z w32 (at A c.args.k)) ≡ at A c.args.k = back w32 tt (v.coefs c.args.k) in
    let j-is : to_z w32 (of_z w32 (at A c.args.j)) ≡ at A c.args.j = back w32 tt (v.coefs c.args.j) in
    let b-is : to_z w32 (of_z w32 c.args.b.now) ≡ c.args.b.now = back w32 tt v.rhs in
    let a-is = read w32 (record { sfits = c.tied_coef.type_inv }) (rw (k-is, j-is) at c.tied_coef.ensures) in
    let rhs-is = read w32 (record { sfits = c.tied_rhs.type_inv }) (rw (j-is, b-is) at c.tied_rhs.ensures) in
    rw (a-is, rhs-is) (record { row = refl; rhs_tied = refl })
