-- `clique_grow::keep_joined`: before flag r those below it are done. Assumes nothing.
use Prim.Native.Nat.{◌*◌}
use mathlib.Core.Path.{◌≡◌, refl}
use native.Mathlib.Numerals.{add-one}
use native.Mathlib.Omega.{arith}
use Rattle.clique_grow.specs.Candidates.{kept_to}
use Rattle.clique_grow.proofs.CandidateLaws.{length-kept}
use Rattle.clique_grow.proofs.keep_joined.Goals as goal

pub loop-r-init : goal.loop-r-init
unfolding kept_to
loop-r-init c = refl

pub bounds-flags-r : goal.bounds-flags-r
bounds-flags-r c = rw (c.loop-r.invariant, length-kept c.loop-r.r _ _ _ _) (omega arith)

pub loop-r-preserved : goal.loop-r-preserved
unfolding kept_to
loop-r-preserved c = rw (c.still.ensures, c.loop-r.invariant, add-one c.loop-r.r) refl

pub returns : goal.returns
returns c =
    let end : c.loop-r.r ≡ 2 * c.args.n = omega arith in
    rw end at c.loop-r.invariant
