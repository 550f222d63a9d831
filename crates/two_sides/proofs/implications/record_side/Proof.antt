-- `two_sides::implications::record_side` is record_side on a table with nothing counted: its tests are the definition's. Assumes nothing.
use Prim.Native.Nat.{◌^◌, ℕ}
use borrow.Author.Rules.{rules}
use lib.Dec.{T, ltb}
use lib.IntN.{pos, ℤ}
use mathlib.Core.Bool.{false, true}
use mathlib.Core.List.{List}
use mathlib.Core.Path.{◌≡◌, refl}
use mir.Facts.{sfits_lit}
use mir.Syntax.{w32}
use mir.Val.{of_z}
use native.Mathlib.Omega.{arith}
use Rattle.integer.specs.Order.{eq_z}
use Rattle.model.specs.Box.{lower, upper}
use Rattle.semantics.specs.Probe.{is_fixed, record_side}
use Rattle.two_sides.specs.Results.{table_of}
use Rattle.model.proofs.BitTests.{other-bits, same_bits}
use Rattle.two_sides.proofs.implications.record_side.Statement.{statement}
use Rattle.two_sides.proofs.implications.record_side.Tie as tie

mul-l : tie.Need-overflow_mul-l
mul-l c = search rules

mul-l-2 : tie.Need-offset_bounds-side-j
mul-l-2 c = search rules

shared-slice-copy-out-l : tie.Need-bounds-side-j
shared-slice-copy-out-l c = search rules

mul-u : tie.Need-overflow_mul-u
mul-u c = search rules

add-u : tie.Need-overflow_add-u
add-u c = search rules

mul-u-2 : tie.Need-offset_bounds-side-j-2
mul-u-2 c = search rules

shared-slice-copy-out-u : tie.Need-bounds-side-j-2
shared-slice-copy-out-u c = search rules

-- the two bounds, as the machine has them
module _ (c : tie.After-u-1) where
  abbrev S : List ℤ
  S = c.args.side.now

  abbrev j : ℕ
  j = c.args.j

  low-is : (w : ℕ) → T (ltb w (2 ^ 31)) → of_z w32 (lower S j) ≡ of_z w32 (pos w) → eq_z (lower S j) (pos w) ≡ true
  low-is w t = same_bits w32 (record { sfits = c.l-1.given }) (sfits_lit t)

  high_is : (w : ℕ) → T (ltb w (2 ^ 31)) → of_z w32 (upper S j) ≡ of_z w32 (pos w) → eq_z (upper S j) (pos w) ≡ true
  high_is w t = same_bits w32 (record { sfits = c.u-1.given }) (sfits_lit t)

  low-isn't : (w : ℕ) → (of_z w32 (lower S j) ≡ of_z w32 (pos w) → ⊥) → eq_z (lower S j) (pos w) ≡ false
  low-isn't w = other-bits w32 (lower S j) (pos w)

  high-isn't : (w : ℕ) → (of_z w32 (upper S j) ≡ of_z w32 (pos w) → ⊥) → eq_z (upper S j) (pos w) ≡ false
  high-isn't w = other-bits w32 (upper S j) (pos w)

record-implication-requires : tie.Need-record_implication-requires
record-implication-requires c κs = search rules

same_length : tie.Need-shape_of-table-then-u-eq0
same_length c = search rules

returns : tie.Need-returns-then-u-eq0
unfolding record_side is_fixed
returns c =
    let t = c.before.before.before.before in
    let u = t.before.before in
    rw (low-is u 0 tt t.if-l-eq0.true, high_is u 0 tt t.if-u-eq0.true) c.record_implication.ensures

returns-2 : tie.Need-returns-then-l-eq0
unfolding record_side is_fixed table_of
returns-2 c =
    let u = c.before.before in
    let one = low-isn't u 1 (λ e. let z : ⊥ = omega (arith, e, c.if-l-eq0.true) in z) in
    rw (low-is u 0 tt c.if-l-eq0.true, high-isn't u 0 c.if-u-eq0.false, one) (refl, refl)

record-implication-requires-2 : tie.Need-record_implication-requires-then-u-eq1
record-implication-requires-2 c κs = search rules

same-length-2 : tie.Need-shape_of-table-then-u-eq1
same-length-2 c = search rules

returns-3 : tie.Need-returns-then-u-eq1
unfolding record_side is_fixed
returns-3 c =
    let t = c.before.before.before.before in
    let u = t.before.before.before in
    rw (low-isn't u 0 t.if-l-eq0.false, low-is u 1 tt t.if-l-eq1.true, high_is u 1 tt t.if-u-eq1.true)
    c.record_implication-then-u-eq1.ensures

returns-4 : tie.Need-returns-else-u-eq1
unfolding record_side is_fixed table_of
returns-4 c =
    let u = c.before.before.before in
    rw (low-isn't u 0 c.if-l-eq0.false, low-is u 1 tt c.if-l-eq1.true, high-isn't u 1 c.if-u-eq1.false) (refl, refl)

returns-5 : tie.Need-returns-else-l-eq1
unfolding record_side is_fixed table_of
returns-5 c =
    let u = c.before.before in
    rw (low-isn't u 0 c.if-l-eq0.false, low-isn't u 1 c.if-l-eq1.false) (refl, refl)

pub record_side_spec : {M : Type 1} → statement M
record_side_spec =
    tie.close
    (tie.spec
    mul-l
    mul-l-2
    shared-slice-copy-out-l
    mul-u
    add-u
    mul-u-2
    shared-slice-copy-out-u
    record-implication-requires
    same_length
    returns
    returns-2
    record-implication-requires-2
    same-length-2
    returns-3
    returns-4
    returns-5)
