-- `one_proposal::first_outside`: the variables so far are between their bounds, and the first that is not is the lowest
-- (`lowest-is`).
use Prim.Native.Nat.{◌<◌, ℕ}
use lib.Dec.{T, not_T}
use lib.IntN.{ℤ}
use lib.Signed.{◌≤ℤ◌}
use mathlib.Core.List.{List}
use mathlib.Core.Path.{◌≡◌, sym}
use mir.Facts.{to_z-of_z}
use mir.Syntax.{w32}
use mir.Val.{SFits}
use borrow.Author.Rules.{rules}
use native.Mathlib.Omega.{arith}
use Rattle.integer.specs.Index.{all}
use Rattle.integer.proofs.IndexLaws.{all_more}
use Rattle.integer.proofs.Parts.{zarith}
use Rattle.integer.proofs.Reading.{ge-read, lt-read}
use Rattle.integer.proofs.Tests.{and_i}
use Rattle.model.specs.Box.{at, lower, upper}
use Rattle.semantics.specs.Lowest.{lowest}
use Rattle.call_laws.proofs.LowestLaws.{lowest-all, lowest-is}
use Rattle.proposals.specs.Verdict.{in_bounds}
use Rattle.proposals.proofs.VerdictLaws.{in_bounds-test}
use Rattle.one_proposal.proofs.first_outside.Goals as goal

-- one that is not between its bounds is the lowest
found : (n j : ℕ) (B x : List ℤ) → j < n → T (all j (in_bounds B x)) → (((lower B j ≤ℤ at x j) × (at x j ≤ℤ upper B j)) → ⊥) → j ≡ lowest n (in_bounds B x)
found n j B x l before h = sym (lowest-is (in_bounds B x) n j l before (not_T (in_bounds B x j) (λ t. h ((in_bounds-test B x j).0 t))))

pub loop-j-init : goal.loop-j-init
unfolding all
loop-j-init c = tt

pub returns-then-number-low : goal.returns-then-number-low
returns-then-number-low c =
    let j = c.loop-j.j in
    let B = c.args.bounds.now in
    let x = c.args.x.now in
    let fx : SFits w32 (at x j) = search rules in
    let fl : SFits w32 (lower B j) = search rules in
    let h = lt-read (to_z-of_z fx) (to_z-of_z fl) c.if-number-low.true in
    found c.args.n j B x (omega arith) c.loop-j.invariant (λ b. let z : ⊥ = omega zarith in z)

pub returns-then-high-number : goal.returns-then-high-number
returns-then-high-number c =
    let j = c.loop-j.j in
    let B = c.args.bounds.now in
    let x = c.args.x.now in
    let fx : SFits w32 (at x j) = search rules in
    let fu : SFits w32 (upper B j) = search rules in
    let h = lt-read (to_z-of_z fu) (to_z-of_z fx) c.if-high-number.true in
    found c.args.n j B x (omega arith) c.loop-j.invariant (λ b. let z : ⊥ = omega zarith in z)

pub loop-j-preserved : goal.loop-j-preserved
loop-j-preserved c =
    let j = c.loop-j.j in
    let B = c.args.bounds.now in
    let x = c.args.x.now in
    let fx : SFits w32 (at x j) = search rules in
    let fl : SFits w32 (lower B j) = search rules in
    let fu : SFits w32 (upper B j) = search rules in
    let l = ge-read (to_z-of_z fx) (to_z-of_z fl) c.if-number-low.false in
    let u = ge-read (to_z-of_z fu) (to_z-of_z fx) c.if-high-number.false in
    rw (all_more (in_bounds B x) j) (and_i (all j (in_bounds B x)) (in_bounds B x j) c.loop-j.invariant ((in_bounds-test B x j).1 (l, u)))

pub returns : goal.returns
returns c =
    let end : c.loop-j.j ≡ c.args.n = omega arith in
    sym (lowest-all (in_bounds c.args.bounds.now c.args.x.now) c.args.n (rw end at c.loop-j.invariant))
