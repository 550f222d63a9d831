-- `plan::bounds::sum_of_spans`: the invariant says that the sum is that of the variables so far, and at most 4,096 for each.
use Prim.Native.Nat.{◌*◌, ◌+◌, ◌≤◌, ℕ}
use lib.IntN.{pos}
use mathlib.Core.Path.{◌∙◌, ◌≡◌, ap, refl}
use mir.Facts.{to_z-of_z}
use mir.Syntax.{w32}
use native.Mathlib.Numerals.{add-one}
use native.Mathlib.Omega.{arith}
use Rattle.integer.specs.Index.{sum as total}
use Rattle.integer.proofs.Parts.{zarith, zify}
use Rattle.integer.proofs.RangeLaws.{within-fits}
use Rattle.model.specs.Box.{width}
use Rattle.plan.proofs.PlanLaws.{bound-small}
use Rattle.plan.proofs.bounds.sum_of_spans.Invariants.{span_at}
use Rattle.plan.proofs.bounds.sum_of_spans.Goals as goal

pub loop-j-init : goal.loop-j-init
unfolding total
loop-j-init c = (refl, omega arith)

pub loop-j-preserved : goal.loop-j-preserved
unfolding total
loop-j-preserved c =
    let v = c.requires.1 in
    let j = c.loop-j.j in
    let fl = within-fits w32 tt (bound-small v (2 * j)) in
    let fu = within-fits w32 tt (bound-small v (2 * j + 1)) in
    let next : pos c.span-sum.result ≡ span_at c.args.bounds.now j = simp to_z-of_z at c.span-sum.ensures in
    let most : c.span-sum.result ≤ 4_096 = let w = v.narrow j in omega zarith in
    (rw (add-one, ← c.loop-j.invariant.0, ← next) (simp zify (omega zarith)), omega (arith, most))

pub returns : goal.returns
unfolding width
returns c =
    let end : c.loop-j.j ≡ c.args.n = omega arith in
    c.loop-j.invariant.0 ∙ ap (λ (i : ℕ). total i (span_at c.args.bounds.now)) end
