-- `row_removal::remove_equality_row` is remove_row_of of an = row in a box that is not empty: Lmin and Lmax are compared with b as
-- in the definition. Assumes nothing.
use lib.IntN.{ℤ}
use lib.ListN.{length}
use mathlib.Core.Bool.{false, true}
use mathlib.Core.List.{List}
use mathlib.Core.Path.{◌∙◌, ◌≡◌, ap, refl, sym}
use mir.Facts.{to_z-of_z}
use mir.Syntax.{w32, w64}
use mir.Val.{SFits, of_z, to_z}
use Rattle.integer.specs.Order.{eq_z}
use Rattle.integer.proofs.RangeLaws.{within-fits}
use Rattle.integer.proofs.Reading.{eq-read, wide_fits}
use Rattle.model.specs.Rows.{is_equality}
use Rattle.row.specs.Activity.{max_activity, min_activity}
use Rattle.row.specs.Answers.{removal_outcome}
use Rattle.row.specs.KindChanges.{remove_row_of}
use Rattle.row.proofs.RowLoops.{eq_z-no, eq_z-yes, rhs-within}
use Rattle.row.specs.ValidRow.{ValidRow}
use Rattle.row_removal.proofs.remove_equality_row.Goals as goal

-- a sum that the machine holds, compared with b
module _ {A B : List ℤ} {b : ℤ} (v : ValidRow (length A) A b B) where
  b-fits : SFits w32 b
  b-fits = within-fits w32 tt (rhs-within v.rhs)

  is : {L : ℤ} {sum : ℤ} → SFits w64 sum → sum ≡ L → of_z w64 sum ≡ of_z w64 (to_z w32 (of_z w32 b)) → eq_z L b ≡ true
  is {L} {sum} f e t = eq_z-yes L b (sym e ∙ eq-read w64 f (wide_fits b-fits) t ∙ to_z-of_z {w = w32} b-fits)

  isn't : {L : ℤ} {sum : ℤ} → sum ≡ L → (of_z w64 sum ≡ of_z w64 (to_z w32 (of_z w32 b)) → ⊥) → eq_z L b ≡ false
  isn't {L} {sum} e t = eq_z-no L b (λ g. t (ap (of_z w64) (e ∙ g ∙ sym (to_z-of_z {w = w32} b-fits))))

pub overflow_cast-rhs : goal.overflow_cast-rhs
overflow_cast-rhs c = wide_fits (b-fits c.requires.valid_row)

pub returns-then-minimum_activity-rhs : goal.returns-then-minimum_activity-rhs
unfolding remove_row_of removal_outcome is_equality
returns-then-minimum_activity-rhs c =
    let q = c.requires in
    let A = c.args.coefs.now in
    let e : eq_z (min_activity (length A) A c.args.bounds.now) c.args.b.now ≡ false =
    isn't q.valid_row c.minimum_activity.ensures c.if-minimum_activity-rhs.true in
    rw (q.bounds_value.1, q.bounds_value.0, e) (record { answer = refl; row = refl })

pub returns-then-maximum_activity-rhs : goal.returns-then-maximum_activity-rhs
unfolding remove_row_of removal_outcome is_equality
returns-then-maximum_activity-rhs c =
    let q = c.requires in
    let A = c.args.coefs.now in
    let low : eq_z (min_activity (length A) A c.args.bounds.now) c.args.b.now ≡ true =
    is q.valid_row (record { sfits = c.minimum_activity.type_inv }) c.minimum_activity.ensures c.if-minimum_activity-rhs.false in
    let e : eq_z (max_activity (length A) A c.args.bounds.now) c.args.b.now ≡ false =
    isn't q.valid_row c.maximum_activity.ensures c.if-maximum_activity-rhs.true in
    rw (q.bounds_value.1, q.bounds_value.0, low, e) (record { answer = refl; row = refl })

pub returns : goal.returns
unfolding remove_row_of removal_outcome is_equality
returns c =
    let q = c.requires in
    let A = c.args.coefs.now in
    let low : eq_z (min_activity (length A) A c.args.bounds.now) c.args.b.now ≡ true =
    is q.valid_row (record { sfits = c.minimum_activity.type_inv }) c.minimum_activity.ensures c.if-minimum_activity-rhs.false in
    let e : eq_z (max_activity (length A) A c.args.bounds.now) c.args.b.now ≡ true =
    is q.valid_row (record { sfits = c.maximum_activity.type_inv }) c.maximum_activity.ensures c.if-maximum_activity-rhs.false in
    rw (q.bounds_value.1, q.bounds_value.0, low, e, c.clear_row.ensures.row, c.clear_row.ensures.rhs_zero) (record { answer = refl; row = refl })
