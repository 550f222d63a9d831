-- `row_tightening::tighten_coefficient` is tighten_row_of: an = row stays, of a ≤ row each way through the tests is a case of
-- `tighten_at`, and the numbers that are written lie within those that they replace, so they fit. Assumes nothing.
use Prim.Native.Nat.{ℕ}
use borrow.Author.Rules.{rules}
use lib.Dec.{eqb}
use lib.IntN.{◌+ℤ◌, ◌-ℤ◌, pos, ℤ}
use lib.ListN.{length, set}
use lib.Signed.{◌<ℤ◌, ◌≤ℤ◌, ≤ℤ_refl}
use mathlib.Core.Bool.{false}
use mathlib.Core.List.{List}
use mathlib.Core.Path.{◌∙◌, ◌≡◌, ap, ap₂, refl, sym}
use mathlib.Core.Logic.{◌⊎◌, inl, inr}
use mir.Facts.{sfits_lit, to_z-of_z}
use mir.Syntax.{w32, w64}
use mir.Val.{SFits, of_z, to_z}
use Rattle.integer.specs.Range.{Within}
use Rattle.row.specs.Outcome.{unchanged}
use Rattle.integer.proofs.Parts.{zarith, zify}
use Rattle.integer.proofs.Tests.{lt-or-ge}
use Rattle.integer.proofs.RangeLaws.{within-add, within-fits, within-sub}
use Rattle.model.specs.Box.{at, is_empty}
use Rattle.model.specs.Limits.{min_rhs}
use Rattle.model.specs.Rows.{is_equality, row_with}
use Rattle.row.specs.Activity.{max_activity}
use Rattle.row.specs.Answers.{tightening_outcome}
use Rattle.row.specs.KindChanges.{tighten_row_of}
use Rattle.row.specs.Tightening.{tighten_at, tighten_coefficient}
use Rattle.integer.proofs.Reading.{eq-read, fits_read, ge-read, gt-read, le_read, lt-read, read, read_wide, wide_fits}
use Rattle.row.proofs.KindChangeLaws.{le-kind, tighten-kinded-empty}
use Rattle.row_tightening.proofs.TighteningCases.{new-coef-neg, new-coef-pos, new-rhs, stays-limit, stays-loose-neg, stays-loose-pos, stays-redundant, tightens-neg, tightens-pos}
use Rattle.row.proofs.RowLoops.{coefs-small, max-activity-small, rhs-within}
use Rattle.row_tightening.proofs.tighten_coefficient.Statement.{statement}
use Rattle.row_tightening.proofs.tighten_coefficient.Tie as tie

is-empty-requires : tie.Need-is_empty-requires
is-empty-requires c κs = search rules

returns : tie.Need-returns-then-is_empty
unfolding tightening_outcome
returns c =
    let s = c.before.before in
    let e = sym (c.before.is_empty.ensures _ s.requires.0.coefs.some s.requires.0.coefs.box) ∙ c.if-is_empty.true in
    rw (tighten-kinded-empty _ (row_with _ _ s.args.kind) _ s.args.k e) (refl, refl)

returns-2 : tie.Need-returns-then-is_equality
unfolding tighten_row_of tightening_outcome is_equality
returns-2 c =
    let s = c.before.before.before in
    let e = sym (c.before.before.is_empty.ensures _ s.requires.0.coefs.some s.requires.0.coefs.box) ∙ c.before.if-is_empty.false in
    rw (c.if-is_equality.true, e) (refl, refl)

mul-if3 : tie.Need-offset_bounds-coefs-k
mul-if3 c = search rules

slice-copy-out-if3 : tie.Need-slice_copy_out-t-16
slice-copy-out-if3 c = search rules

-- a coefficient of 0 stays: no b lies between L and L - 0
stays-zero : (A : List ℤ) (k : ℕ) (L b : ℤ) → tighten_at (pos 0) L A b k ≡ record { outcome = unchanged; coefs = A; rhs = b }
stays-zero A k L b = go (lt-or-ge b L)
  where
    go : (b <ℤ L) ⊎ (L ≤ℤ b) → tighten_at (pos 0) L A b k ≡ record { outcome = unchanged; coefs = A; rhs = b }
    go (inl h) = stays-loose-neg A k (pos 0) L b (≤ℤ_refl (pos 0)) (simp zify (omega zarith))
    go (inr h) = stays-redundant A k (pos 0) L b h

returns-3 : tie.Need-returns-then-coefs-k-eq0
unfolding tighten_row_of tighten_coefficient tightening_outcome is_equality
returns-3 c =
    let e = c.before.before in
    let s = e.before.before.before in
    let A = s.args.coefs.now in
    let f : SFits w32 (at A s.args.k) = record { sfits = c.before.t16-1.given } in
    let z = eq-read w32 f (sfits_lit {z = pos 0} tt) c.if-coefs-k-eq0.true in
    let n = sym (e.before.before.is_empty.ensures _ s.requires.0.coefs.some s.requires.0.coefs.box) ∙ e.before.if-is_empty.false in
    rw (le-kind s.args.kind e.if-is_equality.false, n, z, stays-zero A s.args.k (max_activity (length A) A s.args.bounds.now) s.args.b.now) (refl, refl)

maximum-activity-requires : tie.Need-maximum_activity-most-requires
maximum-activity-requires c κs = search rules

-- the row in a box that is not empty, its greatest activity L and the coefficient a of x_k; most, rhs and coef are L, b and a as the
-- machine has them
module _ (c : tie.After-rhs-1) where
  abbrev s : tie.Start
  s = c.before.before.before.before.before.before.before

  abbrev A : List ℤ
  A = s.args.coefs.now

  abbrev B : List ℤ
  B = s.args.bounds.now

  abbrev L : ℤ
  L = max_activity (length A) A B

  abbrev b : ℤ
  b = s.args.b.now

  abbrev k : ℕ
  k = s.args.k

  abbrev a : ℤ
  a = at A k

  abbrev most : ℤ
  most = to_z w64 (of_z w64 c.before.maximum_activity-most.result)

  abbrev rhs : ℤ
  rhs = to_z w64 (of_z w64 (to_z w32 (of_z w32 b)))

  abbrev coef : ℤ
  coef = to_z w64 (of_z w64 (to_z w32 (of_z w32 a)))

  some : is_empty (length A) B ≡ false
  some =
      sym (c.before.before.before.before.before.before.is_empty.ensures _ s.requires.0.coefs.some s.requires.0.coefs.box)
      ∙ c.before.before.before.before.before.if-is_empty.false

  le : eqb s.args.kind 1 ≡ false
  le = le-kind s.args.kind c.before.before.before.before.if-is_equality.false

  L-small : Within 5_000_000_000_000 L
  L-small = max-activity-small s.requires.0.coefs

  a_small : Within 1_000_000 a
  a_small = coefs-small s.requires.0.coefs k

  b-small : Within 1_000_000_000 b
  b-small = rhs-within s.requires.0.rhs

  most-is : most ≡ L
  most-is = to_z-of_z {w = w64} (record { sfits = c.before.maximum_activity-most.type_inv }) ∙ c.before.maximum_activity-most.ensures

  rhs-is : rhs ≡ b
  rhs-is = read_wide (within-fits w32 tt b-small)

  coef-is : coef ≡ a
  coef-is = read_wide (within-fits w32 tt a_small)

  less-a : most -ℤ coef ≡ L -ℤ a
  less-a = ap₂ ◌-ℤ◌ most-is coef-is

  plus-a : most +ℤ coef ≡ L +ℤ a
  plus-a = ap₂ ◌+ℤ◌ most-is coef-is

  over-b : most -ℤ rhs ≡ L -ℤ b
  over-b = ap₂ ◌-ℤ◌ most-is rhs-is

  under-b : rhs -ℤ most ≡ b -ℤ L
  under-b = ap₂ ◌-ℤ◌ rhs-is most-is

cast-rhs : tie.Need-overflow_cast-rhs
cast-rhs c = wide_fits (within-fits w32 tt (b-small c))

same_length : tie.Need-shape_of-coefs-then-most-rhs
same_length c = search rules

returns-4 : tie.Need-returns-then-most-rhs
unfolding tighten_row_of tighten_coefficient tightening_outcome is_equality
returns-4 c =
    let r = c.before in
    rw (le r, some r, stays-redundant (A r) (k r) _ _ _ (le_read (most-is r) (rhs-is r) c.if-most-rhs.true)) (refl, refl)

mul-a : tie.Need-offset_bounds-coefs-k-2
mul-a c = search rules

slice-copy-out-a : tie.Need-slice_copy_out-a
slice-copy-out-a c = search rules

cast-a : tie.Need-overflow_cast-a
cast-a c = wide_fits (within-fits w32 tt (a_small c.before.before))

broken : (c : tie.Else-most-rhs) → b c.before <ℤ L c.before
broken c = gt-read (most-is c.before) (rhs-is c.before) c.if-most-rhs.false

-- ---- a above 0

positive : (c : tie.Then-is_positive) → pos 0 <ℤ a c.before.before.before
positive c = lt-read refl (coef-is c.before.before.before) c.if-is_positive.true

sub-if6 : tie.Need-overflow_sub-most
sub-if6 c = let r = c.before.before.before in fits_read (less-a r) (within-fits w64 tt (within-sub (L-small r) (a_small r)))

same-length-2 : tie.Need-shape_of-coefs-then-rhs-most
same-length-2 c = search rules

returns-5 : tie.Need-returns-then-rhs-most
unfolding tighten_row_of tighten_coefficient tightening_outcome is_equality
returns-5 c =
    let r = c.before.before.before.before in
    let h = le_read (rhs-is r) (read w64 (sub-if6 c.before) (less-a r)) c.if-rhs-most.true in
    rw (le r, some r, stays-loose-pos (A r) (k r) _ _ _ (positive c.before) h) (refl, refl)

sub-if7 : tie.Need-overflow_sub-is_too_low
sub-if7 c = sub-if6 c.before

module _ (c : tie.Else-rhs-most) where
  abbrev row : tie.After-rhs-1
  row = c.before.before.before.before

  needed : (L row -ℤ a row) <ℤ b row
  needed = gt-read (rhs-is row) (read w64 (sub-if6 c.before) (less-a row)) c.if-rhs-most.false

same-length-3 : tie.Need-shape_of-coefs-then-is_too_low
same-length-3 c = search rules

returns-6 : tie.Need-returns-then-is_too_low
unfolding tighten_row_of tighten_coefficient tightening_outcome is_equality
returns-6 c =
    let e = c.before in
    let r = row e in
    let h : (L r -ℤ a r) <ℤ min_rhs = lt-read (read w64 (sub-if7 e) (less-a r)) refl c.if-is_too_low.true in
    rw (le r, some r, stays-limit (A r) (k r) _ _ _ (positive e.before) (broken e.before.before.before) (needed e) h) (refl, refl)

in-range : (c : tie.Else-is_too_low) → min_rhs ≤ℤ (L (row c.before) -ℤ a (row c.before))
in-range c = ge-read (read w64 (sub-if7 c.before) (less-a (row c.before))) refl c.if-is_too_low.false

sub-coefs : tie.Need-overflow_sub-coefs
sub-coefs c = let r = row c.before in fits_read (over-b r) (within-fits w64 tt (within-sub (L-small r) (b-small r)))

cast-coefs : tie.Need-overflow_cast-coefs
cast-coefs c =
    let e = c.before in
    let r = row e in
    fits_read (read w64 (sub-coefs c) (over-b r)) (within-fits w32 tt (new-coef-pos _ _ _ (a_small r) (broken e.before.before.before) (needed e)))

mul-b : tie.Need-offset_bounds-coefs-k-then-is_positive
mul-b c = search rules

slice-set-from-b : tie.Need-bounds-coefs-k
slice-set-from-b c = search rules

sub-b : tie.Need-overflow_sub-b
sub-b c = sub-if7 c.before

cast-b : tie.Need-overflow_cast-b
cast-b c =
    let r = row c.before in
    fits_read (read w64 (sub-b c) (less-a r)) (within-fits w32 tt (new-rhs (b-small r) (in-range c) (needed c.before)))

same-length-4 : tie.Need-shape_of-coefs-then-is_positive
same-length-4 c = search rules

returns-7 : tie.Need-returns-then-is_positive
unfolding tighten_row_of tighten_coefficient tightening_outcome is_equality
returns-7 c =
    let e = c.before in
    let r = row e in
    let new = tightens-pos (A r) (k r) _ _ _ (positive e.before) (broken e.before.before.before) (needed e) (in-range c) in
    let new-a = read w32 (cast-coefs c) (read w64 (sub-coefs c) (over-b r)) in
    rw (le r, some r, new) (refl, ap₂ (λ (C : List ℤ) (z : ℤ). row_with C z (s r).args.kind) (ap (set (A r) (k r)) new-a) (read w32 (cast-b c) (read w64 (sub-b c) (less-a r))))

-- ---- a at most 0

not-positive : (c : tie.Else-is_positive) → a c.before.before.before ≤ℤ pos 0
not-positive c = ge-read refl (coef-is c.before.before.before) c.if-is_positive.false

add-if8 : tie.Need-overflow_add-most
add-if8 c = let r = c.before.before.before in fits_read (plus-a r) (within-fits w64 tt (within-add (L-small r) (a_small r)))

same-length-5 : tie.Need-shape_of-coefs-then-rhs-most-2
same-length-5 c = search rules

returns-8 : tie.Need-returns-then-rhs-most-2
unfolding tighten_row_of tighten_coefficient tightening_outcome is_equality
returns-8 c =
    let r = c.before.before.before.before in
    let h = le_read (rhs-is r) (read w64 (add-if8 c.before) (plus-a r)) c.if-rhs-most-2.true in
    rw (le r, some r, stays-loose-neg (A r) (k r) _ _ _ (not-positive c.before) h) (refl, refl)

module _ (c : tie.Else-rhs-most-2) where
  abbrev row₂ : tie.After-rhs-1
  row₂ = c.before.before.before.before

  needed₂ : (L row₂ +ℤ a row₂) <ℤ b row₂
  needed₂ = gt-read (rhs-is row₂) (read w64 (add-if8 c.before) (plus-a row₂)) c.if-rhs-most-2.false

sub-coefs-2 : tie.Need-overflow_sub-coefs-2
sub-coefs-2 c = let r = row₂ c in fits_read (under-b r) (within-fits w64 tt (within-sub (b-small r) (L-small r)))

cast-coefs-2 : tie.Need-overflow_cast-coefs-2
cast-coefs-2 c =
    let r = row₂ c in
    fits_read (read w64 (sub-coefs-2 c) (under-b r)) (within-fits w32 tt (new-coef-neg _ _ _ (a_small r) (broken c.before.before.before) (needed₂ c)))

mul-t11 : tie.Need-offset_bounds-coefs-k-3
mul-t11 c = search rules

slice-set-from-coefs : tie.Need-bounds-coefs-k-2
slice-set-from-coefs c = search rules

same-length-6 : tie.Need-shape_of-coefs
same-length-6 c = search rules

returns-9 : tie.Need-returns
unfolding tighten_row_of tighten_coefficient tightening_outcome is_equality
returns-9 c =
    let r = row₂ c in
    let new = tightens-neg (A r) (k r) _ _ _ (not-positive c.before) (broken c.before.before.before) (needed₂ c) in
    let new-a = read w32 (cast-coefs-2 c) (read w64 (sub-coefs-2 c) (under-b r)) in
    rw (le r, some r, new) (refl, ap (λ (z : ℤ). row_with (set (A r) (k r) z) (b r) (s r).args.kind) new-a)

pub tighten_coefficient_spec : {M : Type 1} → statement M
tighten_coefficient_spec =
    tie.close
    (tie.spec
    is-empty-requires
    returns
    returns-2
    mul-if3
    slice-copy-out-if3
    returns-3
    maximum-activity-requires
    cast-rhs
    same_length
    returns-4
    mul-a
    slice-copy-out-a
    cast-a
    sub-if6
    same-length-2
    returns-5
    sub-if7
    same-length-3
    returns-6
    sub-coefs
    cast-coefs
    mul-b
    slice-set-from-b
    sub-b
    cast-b
    same-length-4
    returns-7
    add-if8
    same-length-5
    returns-8
    sub-coefs-2
    cast-coefs-2
    mul-t11
    slice-set-from-coefs
    same-length-6
    returns-9)
