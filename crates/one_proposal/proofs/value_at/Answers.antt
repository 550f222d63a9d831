-- `one_proposal::value_at`: the invariant says that the sum is that of the terms so far; a step passes over terms that are 0
-- (`step-dot`).
use Prim.Native.Nat.{◌<◌, ℕ}
use lib.IntN.{◌*ℤ◌, ℤ}
use lib.ListN.{length}
use mathlib.Core.List.{List}
use mathlib.Core.Path.{◌∙◌, ◌≡◌, ap, refl}
use mir.Facts.{to_z-of_z}
use mir.Syntax.{w32, w64}
use mir.Val.{SFits, of_z, to_z}
use Rattle.integer.specs.Index.{sum as total}
use Rattle.integer.proofs.RangeLaws.{within-fits, within-mul}
use Rattle.integer.proofs.Reading.{read_wide}
use Rattle.model.specs.Box.{at}
use Rattle.model.specs.Point.{dot}
use Rattle.row.proofs.RowLoops.{turn, turn-fits}
use Rattle.proposals.specs.Holding.{Holdable}
use Rattle.one_proposal.proofs.ValueLaws.{step-dot, term_at, terms}
use native.Mathlib.Omega.{arith}
use Rattle.one_proposal.proofs.value_at.Goals as goal

-- the coefficient and the number of turn j, and their product
module _ {A x : List ℤ} (small : Holdable (length A) A x) (j : ℕ) where
  a-fits : SFits w32 (at A j)
  a-fits = within-fits w32 tt (small.coefs j)

  x_fits : SFits w32 (at x j)
  x_fits = within-fits w32 tt (small.numbers j)

  product-fits : SFits w64 (to_z w64 (of_z w64 (to_z w32 (of_z w32 (at A j)))) *ℤ to_z w64 (of_z w64 (to_z w32 (of_z w32 (at x j)))))
  product-fits = rw (read_wide a-fits, read_wide x_fits) (within-fits w64 tt (within-mul (small.coefs j) (small.numbers j)))

  next : to_z w64 (of_z w64 (to_z w64 (of_z w64 (to_z w32 (of_z w32 (at A j)))) *ℤ to_z w64 (of_z w64 (to_z w32 (of_z w32 (at x j)))))) ≡ term_at A x j
  next = to_z-of_z product-fits ∙ (rw (read_wide a-fits, read_wide x_fits) refl)

pub loop-j-init : goal.loop-j-init
unfolding total
loop-j-init c = (omega arith, refl)

pub overflow_mul-sum : goal.overflow_mul-sum
overflow_mul-sum c = product-fits c.requires.holdable c.loop-j.j

pub overflow_add-sum : goal.overflow_add-sum
overflow_add-sum c =
    let h = c.requires.holdable in
    turn-fits (terms h) c.loop-j.j c.loop-j.invariant.1 (next h c.loop-j.j) (omega arith)

pub loop-j-preserved : goal.loop-j-preserved
loop-j-preserved c =
    let h = c.requires.holdable in
    let j = c.loop-j.j in
    let k : j < length c.args.coefs.now = omega arith in (
      c.requires.steps.within j k,
      to_z-of_z (turn-fits (terms h) j c.loop-j.invariant.1 (next h j) k)
          ∙ turn (terms h) j c.loop-j.invariant.1 (next h j)
          ∙ step-dot c.requires.steps c.args.x.now k,
    )

pub returns : goal.returns
unfolding dot
returns c =
    let end : c.loop-j.j ≡ length c.args.coefs.now = omega arith in
    c.loop-j.invariant.1 ∙ ap (λ (i : ℕ). total i (term_at c.args.coefs.now c.args.x.now)) end
