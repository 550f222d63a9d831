-- `packed_row::term_reach`: the first product is the least of the term and the second its greatest (`near-least`, `far-most`), and their
-- difference is its width. Assumes nothing.
use Prim.Native.Nat.{◌*◌, ◌+◌, ◌-◌, ℕ}
use borrow.Author.Rules.{rules}
use lib.IntN.{◌-ℤ◌, ℤ}
use mathlib.Core.List.{List}
use mathlib.Core.Path.{◌∙◌, ◌≡◌, ap₂}
use mir.Facts.{to_z-of_z}
use mir.Syntax.{w32, w64}
use mir.Val.{SFits, of_z, to_z}
use native.Mathlib.Omega.{arith}
use Rattle.integer.specs.Range.{Within}
use Rattle.integer.proofs.RangeLaws.{within-fits}
use Rattle.model.specs.Box.{at, lower, upper}
use Rattle.row.specs.Activity.{max_term, min_term, term_width}
use Rattle.row.proofs.ReachLaws.{term_width-within}
use Rattle.packed_row.proofs.TermLaws.{Negative, far-most, near-least, negative, negative-small, places}
use Rattle.packed_row.proofs.term_reach.Statement.{statement}
use Rattle.packed_row.proofs.term_reach.Tie as tie

mul-near : tie.Need-overflow_mul-near
mul-near c = search rules

is-negative-requires : tie.Need-is_negative-requires
is-negative-requires c κs = search rules

-- the two places
module _ (m : tie.After-is_negative) where
  abbrev s : tie.Start
  s = m.before

  abbrev a : ℤ
  a = s.args.a

  abbrev B : List ℤ
  B = s.args.bounds.now

  abbrev j : ℕ
  j = s.args.j

  abbrev n : ℕ
  n = m.is_negative.result

  a-is : to_z w32 (of_z w32 a) ≡ a
  a-is = to_z-of_z {w = w32} s.ranges.a

  neg : Negative a n
  neg = negative a (rw a-is at m.is_negative.ensures)

  small : Within 32_768 (at B (2 * j + n)) × Within 32_768 (at B (4 * j + 1 - (2 * j + n)))
  small = places B j (Within 32_768) s.requires.3 s.requires.4 neg

  near-read : to_z w32 (of_z w32 (at B (2 * j + n))) ≡ at B (2 * j + n)
  near-read = to_z-of_z {w = w32} (within-fits w32 tt small.0)

  far-read : to_z w32 (of_z w32 (at B (4 * j + 1 - (2 * j + n)))) ≡ at B (4 * j + 1 - (2 * j + n))
  far-read = to_z-of_z {w = w32} (within-fits w32 tt small.1)

add-near : tie.Need-overflow_add-near
add-near c = omega (arith, negative-small (neg c), (s c).requires.0)

mul-product : tie.Need-offset_bounds-bounds-near
mul-product c = omega (arith, negative-small (neg c), (s c).requires.0)

shared-slice-copy-out-product : tie.Need-bounds-bounds-near
shared-slice-copy-out-product c = omega (arith, negative-small (neg c), (s c).requires.1)

product-requires : tie.Need-product-least-requires
product-requires c κs = let m = c.before in rw (a-is m, near-read m) ((s m).requires.2, (small m).0)

mul-product-2 : tie.Need-overflow_mul-j
mul-product-2 c = search rules

add-product : tie.Need-overflow_add-j
add-product c = search rules

sub-product : tie.Need-overflow_sub-j
sub-product c = let m = c.before.before in omega (arith, negative-small (neg m))

mul-product-3 : tie.Need-offset_bounds-bounds-j
mul-product-3 c = search rules

shared-slice-copy-out-product-2 : tie.Need-bounds-bounds-j
shared-slice-copy-out-product-2 c = search rules

product-requires-2 : tie.Need-product-most-requires
product-requires-2 c κs = let m = c.before.before.before in rw (a-is m, far-read m) ((s m).requires.2, (small m).1)

-- the two products
module _ (c : tie.After-product-most) where
  abbrev m : tie.After-is_negative
  m = c.before.before.before.before

  abbrev l : ℤ
  l = lower (B m) (j m)

  abbrev u : ℤ
  u = upper (B m) (j m)

  least-is : to_z w64 (of_z w64 c.product-least.result) ≡ min_term (a m) l u
  least-is =
      to_z-of_z {w = w64} (record { sfits = c.product-least.type_inv })
      ∙ (rw (a-is m, near-read m) at c.product-least.ensures) ∙ near-least (B m) (j m) (neg m)

  most-is : to_z w64 (of_z w64 c.product-most.result) ≡ max_term (a m) l u
  most-is =
      to_z-of_z {w = w64} (record { sfits = c.product-most.type_inv }) ∙ (rw (a-is m, far-read m) at c.product-most.ensures)
      ∙ far-most (B m) (j m) (neg m)

  width_is : to_z w64 (of_z w64 c.product-most.result) -ℤ to_z w64 (of_z w64 c.product-least.result) ≡ term_width (a m) l u
  unfolding term_width
  width_is = ap₂ ◌-ℤ◌ most-is least-is

  width_fits : SFits w64 (term_width (a m) l u)
  width_fits = within-fits w64 tt (term_width-within (s m).requires.2 (s m).requires.3 (s m).requires.4)

sub-t14 : tie.Need-overflow_sub-result
sub-t14 c = rw (width_is c) (width_fits c)

returns : tie.Need-returns
returns c = (least-is c, to_z-of_z {w = w64} (sub-t14 c) ∙ width_is c)

pub term_reach_spec : {M : Type 1} → statement M
term_reach_spec =
    tie.close
    (tie.spec
    mul-near
    is-negative-requires
    add-near
    mul-product
    shared-slice-copy-out-product
    product-requires
    mul-product-2
    add-product
    sub-product
    mul-product-3
    shared-slice-copy-out-product-2
    product-requires-2
    sub-t14
    returns)
