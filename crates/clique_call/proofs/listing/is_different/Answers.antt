-- `clique_call::listing::is_different`: the rows so far are others. Assumes nothing.
use Prim.Native.Nat.{◌*◌, ◌≤◌}
use mathlib.Core.Bool.{not}
use mathlib.Core.Path.{◌∙◌, ◌≡◌, ap, refl, sym}
use native.Mathlib.Nat.{mul-le-mul_right}
use native.Mathlib.Omega.{arith}
use Rattle.integer.specs.Index.{all}
use Rattle.integer.proofs.IndexLaws.{all-false, all-next}
use Rattle.clique_call.specs.Compared.{differs}
use Rattle.clique_call.proofs.listing.is_different.Invariants.{test}
use Rattle.clique_call.proofs.listing.is_different.Goals as goal

pub loop-i-init : goal.loop-i-init
unfolding all
loop-i-init c = refl

pub same_row-requires : goal.same_row-requires
same_row-requires c =
    let a : c.loop-i.i * c.args.n ≤ c.args.k * c.args.n = mul-le-mul_right c.args.n (omega arith) in
    (omega (arith, c.requires), c.requires)

pub returns-then-same_row : goal.returns-then-same_row
unfolding differs
returns-then-same_row c =
    let a = c.args in
    sym (all-false a.k (test a.n a.coefs.now a.k) c.loop-i.i (omega arith) (ap not (sym c.same_row.ensures ∙ c.if-same_row.true)))

pub loop-i-preserved : goal.loop-i-preserved
loop-i-preserved c =
    let a = c.args in
    all-next (test a.n a.coefs.now a.k) c.loop-i.i c.loop-i.invariant (ap not (sym c.same_row.ensures ∙ c.if-same_row.false))

pub returns : goal.returns
unfolding differs
returns c =
    let end : c.loop-i.i ≡ c.args.k = omega arith in
    sym (rw end at c.loop-i.invariant)
