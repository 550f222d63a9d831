-- `buffer_checks::is_narrow`: the flag is `all` of the tests made so far; a difference of two bounds in range fits. Assumes nothing.
use Prim.Native.Nat.{◌*◌, ◌+◌, ◌/◌, ℕ}
use borrow.Author.Rules.{rules}
use lib.IntN.{◌-ℤ◌, ℤ}
use lib.ListN.{length}
use mathlib.Core.Bool.{true}
use mathlib.Core.List.{List}
use mathlib.Core.Path.{◌≡◌, refl}
use mir.Facts.{to_z-of_z}
use mir.Syntax.{w32}
use mir.Val.{SFits}
use native.Mathlib.Omega.{arith}
use Rattle.integer.specs.Index.{all}
use Rattle.integer.proofs.Parts.{sub_parts, zarith}
use Rattle.integer.proofs.RangeLaws.{within!, within-fits}
use Rattle.integer.proofs.Tests.{true→T}
use Rattle.model.specs.Box.{lower, upper}
use Rattle.model.specs.Checks.{in_range, narrow}
use Rattle.model.specs.Limits.{max_bound, min_bound}
use Rattle.model.proofs.CheckLaws.{flag-next, in_range-all}
use Rattle.buffer_checks.proofs.is_narrow.Goals as goal

-- a difference of two bounds fits 32 bits
difference : (B : List ℤ) → in_range min_bound max_bound B ≡ true → (j : ℕ) → SFits w32 (upper B j -ℤ lower B j)
difference B e j =
    let r = (in_range-all min_bound max_bound B (omega zarith) (omega zarith)).0 (true→T (in_range min_bound max_bound B) e) in
    let l = r (2 * j) in
    let u = r (2 * j + 1) in
    within-fits w32 {m = 65_535} tt (within! 65_535 (upper B j -ℤ lower B j) (omega (zarith, sub_parts (upper B j) (lower B j))))

pub loop-j-init : goal.loop-j-init
unfolding all
loop-j-init c = refl

pub overflow_sub-ok : goal.overflow_sub-ok
overflow_sub-ok c =
    let B = c.args.bounds.now in
    let j = c.loop-j.j in
    let fu : SFits w32 (upper B j) = search rules in
    let fl : SFits w32 (lower B j) = search rules in
    rw (to_z-of_z fu, to_z-of_z fl) (difference B c.requires j)

pub loop-j-preserved : goal.loop-j-preserved
loop-j-preserved c =
    let B = c.args.bounds.now in
    let j = c.loop-j.j in
    let fu : SFits w32 (upper B j) = search rules in
    let fl : SFits w32 (lower B j) = search rules in
    rw (to_z-of_z fu, to_z-of_z fl, to_z-of_z (difference B c.requires j)) (flag-next _ j c.loop-j.invariant)

pub returns : goal.returns
unfolding narrow
returns c =
    let end : c.loop-j.j ≡ length c.args.bounds.now / 2 = omega arith in
    rw end at c.loop-j.invariant
