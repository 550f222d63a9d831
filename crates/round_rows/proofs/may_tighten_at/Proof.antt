-- `round_rows::may_tighten_at`: both tests, the second only where the variable is free. Assumes nothing.
use Prim.Native.Nat.{◌*◌, ◌+◌}
use borrow.Author.Rules.{rules}
use mathlib.Core.Path.{◌≡◌, refl, sym}
use mir.Facts.{to_z-of_z}
use mir.Syntax.{w32, w64}
use mir.Val.{of_z, to_z}
use Rattle.integer.specs.Range.{Within}
use Rattle.integer.proofs.RangeLaws.{within-fits}
use Rattle.integer.proofs.Tests.{told-false, told-true}
use Rattle.model.specs.Box.{at}
use Rattle.model.specs.Rows.{row_of}
use Rattle.model.proofs.RowsLaws.{at-row_of}
use Rattle.round_rows.proofs.may_tighten_at.Statement.{statement}
use Rattle.round_rows.proofs.may_tighten_at.Tie as tie

is-free-requires : tie.Need-is_free-requires
is-free-requires c κs = search rules

returns : tie.Need-returns-then-not-is_free
returns c =
    let f = c.is_free in rw (told-false f.result f.ensures c.if-not-is_free.true-raw) refl

mul-may-tighten : tie.Need-overflow_mul-row
mul-may-tighten c = search rules

add-may-tighten : tie.Need-overflow_add-row
add-may-tighten c = search rules

mul-may-tighten-2 : tie.Need-offset_bounds-coefs-row
mul-may-tighten-2 c = search rules

shared-slice-copy-out-may-tighten : tie.Need-bounds-coefs-row
shared-slice-copy-out-may-tighten c = search rules

mul-may-tighten-3 : tie.Need-offset_bounds-rhs-row
mul-may-tighten-3 c = search rules

shared-slice-copy-out-may-tighten-2 : tie.Need-bounds-rhs-row
shared-slice-copy-out-may-tighten-2 c = search rules

-- coefficient k of the row, as it stands in the matrix
module _ (s : tie.Start) where
  abbrev place : at (row_of s.args.n s.args.coefs.now s.args.row) s.args.k ≡ at s.args.coefs.now (s.args.row * s.args.n + s.args.k)
  place = at-row_of s.args.n s.args.coefs.now s.args.row s.args.k s.requires.variable

  small : Within 1_000_000 (at s.args.coefs.now (s.args.row * s.args.n + s.args.k))
  small = rw (sym place) s.requires.coef

may-tighten-requires : tie.Need-may_tighten-requires
may-tighten-requires c κs = search (rules, small c.before.before.before.before)

returns-2 : tie.Need-returns
returns-2 c =
    let e = c.before.before.before in
    let s = e.before.before in
    let f = e.is_free in
    let a = at (row_of s.args.n s.args.coefs.now s.args.row) s.args.k in
    let b = at s.args.rhs.now s.args.row in
    let a-is : to_z w32 (of_z w32 a) ≡ a = to_z-of_z {w = w32} (within-fits w32 tt s.requires.coef) in
    let b-is : to_z w32 (of_z w32 b) ≡ b = to_z-of_z {w = w32} (record { sfits = c.may_tighten-arg-2-1.given }) in
    let most-is : to_z w64 (of_z w64 s.args.most) ≡ s.args.most = to_z-of_z {w = w64} s.ranges.most in
    rw (told-true f.result f.ensures e.if-not-is_free.false-raw) (rw (sym (place s), a-is, b-is, most-is) at c.may_tighten.ensures)

pub may_tighten_at_spec : {M : Type 1} → statement M
may_tighten_at_spec =
    tie.close
    (tie.spec
    is-free-requires
    returns
    mul-may-tighten
    add-may-tighten
    mul-may-tighten-2
    shared-slice-copy-out-may-tighten
    mul-may-tighten-3
    shared-slice-copy-out-may-tighten-2
    may-tighten-requires
    returns-2)
