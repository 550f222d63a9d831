-- `tied_row::tie_rows`: before row i the rows below it are done, and row i is still the old one. Assumes nothing.
use mathlib.Core.Path.{◌∙◌, ◌≡◌, refl, sym}
use native.Mathlib.Omega.{arith}
use Rattle.ties.specs.TiedRow.{tie_coefs_to, tie_rhs_to}
use Rattle.ties.proofs.TiedRowsLaws.{tie_coefs-next, tie_rhs-next}
use Rattle.tied_row.proofs.SmallLaws.{row-still-lies, row-still-small}
use Rattle.tied_row.proofs.tie_rows.Goals as goal

pub loop-i-init : goal.loop-i-init
unfolding tie_coefs_to tie_rhs_to
loop-i-init c = (refl, refl)

pub tie_row_at-requires : goal.tie_row_at-requires
tie_row_at-requires c =
    let l = c.loop-i in
    let a = c.args in
    let v = c.requires.0 in
    rw (l.invariant.0, l.invariant.1) (record {
      n_in_bounds = row-still-lies v l.i (omega arith) a.k a.j a.w;
      small_row = row-still-small v l.i (omega arith) a.w c.requires.1.0 c.requires.1.1;
    })

pub loop-i-preserved : goal.loop-i-preserved
loop-i-preserved c =
    let l = c.loop-i in
    let a = c.args in
    let v = c.requires.0 in
    let told = rw (l.invariant.0, l.invariant.1) at c.tie_row_at.ensures in (
      told.row ∙ sym (tie_coefs-next a.n a.m a.coefs.now a.rhs.now a.k a.j a.w v.coefs_len v.rhs_len l.i (omega arith)),
      told.rhs_tied ∙ sym (tie_rhs-next a.n a.m a.coefs.now a.rhs.now a.k a.j a.w v.coefs_len v.rhs_len l.i (omega arith)),
    )

pub returns : goal.returns
returns c =
    let l = c.loop-i in
    let end : l.i ≡ c.args.m = omega arith in
    record { rows = rw end at l.invariant.0; rhs_tied = rw end at l.invariant.1 }
