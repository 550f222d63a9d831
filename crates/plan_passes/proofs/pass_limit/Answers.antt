-- `plan_passes::pass_limit`: the invariant says that the sum is the limit of the records so far, and at most 2³³ for each.
use Prim.Native.Nat.{◌/◌, ℕ}
use lib.ListN.{length}
use mathlib.Core.Path.{◌∙◌, ◌≡◌, ap, refl}
use native.Mathlib.Numerals.{add-one}
use native.Mathlib.Omega.{arith}
use Rattle.demands.specs.Passes.{limit_to, pass_limit}
use Rattle.plan_passes.proofs.pass_limit.Goals as goal

pub loop-i-init : goal.loop-i-init
unfolding limit_to
loop-i-init c = (refl, omega arith)

pub loop-i-preserved : goal.loop-i-preserved
unfolding limit_to
loop-i-preserved c =
    let e = c.loop-i.invariant.0 in
    (rw add-one (let g = c.call_limit-sum.ensures.0 in omega arith), omega (arith, c.call_limit-sum.ensures.1))

pub returns : goal.returns
unfolding pass_limit
returns c =
    let end : c.loop-i.i ≡ length c.args.calls.now / 4 = omega arith in
    c.loop-i.invariant.0 ∙ ap (λ (i : ℕ). limit_to c.args.width i c.args.calls.now) end
