-- `row_removal::remove_redundant_row` is remove_row_of: an = row by `remove_equality_row`, of a ≤ row the tests are the definition's,
-- in the same order. Assumes nothing.
use mathlib.Core.Path.{◌∙◌, refl, sym}
use mir.Facts.{to_z-of_z}
use mir.Syntax.{w32, w64}
use mir.Val.{SFits}
use Rattle.integer.proofs.Parts.{le_is, le-isn't}
use Rattle.integer.proofs.RangeLaws.{within-fits}
use Rattle.integer.proofs.Reading.{ge-read, lt-read, read_wide, wide_fits}
use Rattle.model.specs.Rows.{is_equality, row_with}
use Rattle.row.specs.Answers.{removal_outcome}
use Rattle.row.specs.KindChanges.{remove_row_of}
use Rattle.row.specs.Redundancy.{remove_redundant_row}
use Rattle.row.proofs.KindChangeLaws.{le-kind, remove-kinded-empty}
use Rattle.row.proofs.RowLoops.{rhs-within}
use Rattle.row_removal.proofs.remove_redundant_row.Goals as goal

pub returns-then-is_empty : goal.returns-then-is_empty
unfolding removal_outcome
returns-then-is_empty c =
    let v = c.requires.coefs in
    let e = sym (c.is_empty.ensures _ v.some v.box) ∙ c.if-is_empty.true in
    rw (remove-kinded-empty _ (row_with _ _ c.args.kind.now) _ e) (record { answer = refl; row = refl })

pub remove_equality_row-requires : goal.remove_equality_row-requires
remove_equality_row-requires c =
    let v = c.requires.coefs in
    record {
      valid_row = c.requires;
      bounds_value = (sym (c.is_empty.ensures _ v.some v.box) ∙ c.if-is_empty.false, c.if-kind-eq1.true);
    }

pub overflow_cast-b : goal.overflow_cast-b
overflow_cast-b c = let f : SFits w32 c.args.b.now = within-fits w32 tt (rhs-within c.requires.rhs) in wide_fits f

pub returns-then-b-most : goal.returns-then-b-most
unfolding remove_row_of remove_redundant_row removal_outcome is_equality
returns-then-b-most c =
    let v = c.requires.coefs in
    let some = sym (c.is_empty.ensures _ v.some v.box) ∙ c.if-is_empty.false in
    let f : SFits w32 c.args.b.now = within-fits w32 tt (rhs-within c.requires.rhs) in
    let most-is = to_z-of_z {w = w64} (record { sfits = c.maximum_activity-most.type_inv }) ∙ c.maximum_activity-most.ensures in
    rw (le-kind c.args.kind.now c.if-kind-eq1.false, some, le-isn't (lt-read (read_wide f) most-is c.if-b-most.true))
    (record { answer = refl; row = refl })

pub returns : goal.returns
unfolding remove_row_of remove_redundant_row is_equality
returns c =
    let v = c.requires.coefs in
    let some = sym (c.is_empty.ensures _ v.some v.box) ∙ c.if-is_empty.false in
    let f : SFits w32 c.args.b.now = within-fits w32 tt (rhs-within c.requires.rhs) in
    let most-is = to_z-of_z {w = w64} (record { sfits = c.maximum_activity-most.type_inv }) ∙ c.maximum_activity-most.ensures in
    rw (
      le-kind c.args.kind.now c.if-kind-eq1.false,
      some,
      le_is (ge-read (read_wide f) most-is c.if-b-most.false),
      c.clear_row.ensures.row,
      c.clear_row.ensures.rhs_zero,
    )
    (record { answer = c.clear_row.ensures.answer; row = refl })
