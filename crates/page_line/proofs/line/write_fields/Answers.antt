-- `page_line::line::write_fields`: three numbers, right-aligned, and a space.
use Prim.Native.Nat.{ℕ, ◌+◌, ◌<◌, ◌≤◌}
use Rattle.page_line.proofs.MadeLaws.{bound-columns, right-ends, small-columns, small_signed}
use Rattle.pages.specs.Writing.{fields}
use Rattle.text.proofs.TextLaws.{◌⨾◌, wrote-length}
use Rattle.text.specs.Decimal.{signed}
use lib.ListN.{length}
use mathlib.Core.Path.{◌≡◌}
use mir.Facts.{to_z-of_z}
use mir.Syntax.{w32}
use mir.Val.{of_z, to_z, SFits}
use mathlib.Core.List.{List}
use lib.IntN.{ℤ}
use Rattle.integer.specs.Range.{Within}
use Rattle.text.specs.Text.{Wrote}
use Rattle.pages.specs.Page.{right}
use native.Mathlib.Omega.{arith}
use Rattle.page_line.proofs.line.write_fields.Goals as goal

-- the columns of each number, and where its field ends
k-columns : (k : ℕ) → k < 128 → length (signed (to_z w32 k)) ≤ 3
k-columns k h = rw (small_signed k (omega arith)) (small-columns k (omega arith))

bound-length : (z : ℤ) → SFits w32 z → Within 32_768 z → length (signed (to_z w32 (of_z w32 z))) ≤ 7
bound-length z f h = rw (to_z-of_z f) (bound-columns z h)

after-k : {old new : List ℕ} {at next : ℕ} (k : ℕ) → k < 128 → Wrote old at (right 6 (signed (to_z w32 k))) next new → next ≡ at + 6
after-k k h w = right-ends 6 (to_z w32 k) (omega (arith, k-columns k h)) w

after-bound : {old new : List ℕ} {at next : ℕ} (z : ℤ) → SFits w32 z → Within 32_768 z → Wrote old at (right 8 (signed (to_z w32 (of_z w32 z)))) next new → next ≡ at + 8
after-bound z f h w = right-ends 8 (to_z w32 (of_z w32 z)) (omega (arith, bound-length z f h)) w

pub write_right-variable-requires-clause-z_len_bound : goal.write_right-variable-requires-clause-z_len_bound
write_right-variable-requires-clause-z_len_bound c =
    let r = c.requires.k_lt_max_variables in omega (arith, k-columns c.args.k r.0)

pub write_right-lower-requires-clause-z_len_bound : goal.write_right-lower-requires-clause-z_len_bound
write_right-lower-requires-clause-z_len_bound c =
    let r = c.requires.k_lt_max_variables in omega (arith, bound-length c.args.l c.ranges.l r.1)

pub write_right-lower-requires-clause-columns_in_bounds : goal.write_right-lower-requires-clause-columns_in_bounds
write_right-lower-requires-clause-columns_in_bounds c =
    let r = c.requires.k_lt_max_variables in
    let v = c.write_right-variable.ensures in
    omega (arith, after-k c.args.k r.0 v, wrote-length v, c.requires.at_in_bounds)

pub write_right-upper-requires-clause-z_len_bound : goal.write_right-upper-requires-clause-z_len_bound
write_right-upper-requires-clause-z_len_bound c =
    let r = c.requires.k_lt_max_variables in omega (arith, bound-length c.args.u c.ranges.u r.2)

pub write_right-upper-requires-clause-columns_in_bounds : goal.write_right-upper-requires-clause-columns_in_bounds
write_right-upper-requires-clause-columns_in_bounds c =
    let r = c.requires.k_lt_max_variables in
    let v = c.write_right-variable.ensures in
    let w = c.write_right-lower.ensures in
    omega (arith, after-k c.args.k r.0 v, wrote-length v, after-bound c.args.l c.ranges.l r.1 w, wrote-length w, c.requires.at_in_bounds)

pub write_byte-requires : goal.write_byte-requires
write_byte-requires c =
    let r = c.requires.k_lt_max_variables in
    let v = c.write_right-variable.ensures in
    let w = c.write_right-lower.ensures in
    let x = c.write_right-upper.ensures in
    omega (arith, after-k c.args.k r.0 v, wrote-length v, after-bound c.args.l c.ranges.l r.1 w, wrote-length w, after-bound c.args.u c.ranges.u r.2 x, wrote-length x, c.requires.at_in_bounds)

pub returns : goal.returns
unfolding fields signed
returns c =
    (rw (small_signed c.args.k (omega (arith, c.requires.k_lt_max_variables.0))) at c.write_right-variable.ensures) ⨾ (rw (to_z-of_z c.ranges.l) at c.write_right-lower.ensures) ⨾ (rw (to_z-of_z c.ranges.u) at c.write_right-upper.ensures) ⨾ c.write_byte.ensures
