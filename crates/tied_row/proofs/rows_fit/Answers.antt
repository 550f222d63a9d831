-- `tied_row::rows_fit`: the rows so far fit. Assumes nothing.
use borrow.Author.Rules.{rules}
use mathlib.Core.Path.{◌≡◌, refl, sym}
use native.Mathlib.Omega.{arith}
use Rattle.integer.specs.Index.{all}
use Rattle.integer.proofs.IndexLaws.{all-false, all-next}
use Rattle.integer.proofs.Tests.{told-false, told-true}
use Rattle.ties.specs.TiedRow.{rows_fit}
use Rattle.tied_row.proofs.SmallLaws.{row_lies, row_small}
use Rattle.tied_row.proofs.rows_fit.Invariants.{test}
use Rattle.tied_row.proofs.rows_fit.Goals as goal

pub loop-i-init : goal.loop-i-init
unfolding all
loop-i-init c = refl

pub row_fits_at-requires : goal.row_fits_at-requires
row_fits_at-requires c =
    let v = c.requires.0 in
    let i = c.loop-i.i in
    record { n_in_bounds = row_lies v i (omega arith); small_row = row_small v i (omega arith) c.requires.1.0 c.requires.1.1 }

pub returns-then-not-row_fits_at : goal.returns-then-not-row_fits_at
unfolding rows_fit
returns-then-not-row_fits_at c =
    let f = c.row_fits_at in
    let a = c.args in
    sym (all-false a.m (test a.n a.coefs.now a.rhs.now a.k a.j a.w) c.loop-i.i (omega arith) (told-false f.result f.ensures (search rules)))

pub loop-i-preserved : goal.loop-i-preserved
loop-i-preserved c =
    let f = c.row_fits_at in
    let a = c.args in
    all-next (test a.n a.coefs.now a.rhs.now a.k a.j a.w) c.loop-i.i c.loop-i.invariant (told-true f.result f.ensures (search rules))

pub returns : goal.returns
unfolding rows_fit
returns c =
    let end : c.loop-i.i ≡ c.args.m = omega arith in
    sym (rw end at c.loop-i.invariant)
