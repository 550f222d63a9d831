-- `model_checks::check_box`: what each call says is the test of its check, and the checks are passed in their order.
use Rattle.std.proofs.Common.{◌≡◌, Bool, sym, ◌||◌, true}
use Rattle.integer.proofs.Tests.{T→true, or_inr, true→T}
use Rattle.model.specs.Box.{is_empty}
use Rattle.model.specs.Checks.{box_checks, ordered}
use Rattle.model.proofs.CheckLaws.{ends, fails, past}
use Rattle.model_checks.proofs.check_box.Goals as goal
use Rattle.model_checks.proofs.check_box.Goals.{then-not-is_ordered+else-not-is_empty_box, else-not-is_ordered}

-- check 7 is passed, by either test
empty_passes : (e o : Bool) → e ≡ true → (e || o) ≡ true
empty_passes e o h = rw h

ordered_passes : (e o : Bool) → o ≡ true → (e || o) ≡ true
ordered_passes e o h = T→true _ (or_inr e o (true→T o h))

pub returns-then-not-in_range : goal.returns-then-not-in_range
unfolding box_checks
returns-then-not-in_range c = fails _ 6 _ (sym c.if-not-in_range.ensures)

pub returns-then-not-is_empty_box : goal.returns-then-not-is_empty_box
unfolding box_checks
returns-then-not-is_empty_box c =
    past _ 6 _ (sym c.if-not-in_range.ensures) (fails _ 7 _ (rw (sym c.if-not-is_empty_box.ensures, sym c.if-not-is_ordered.ensures)))

pub returns-then-not-is_narrow : goal.returns-then-not-is_narrow
unfolding box_checks
returns-then-not-is_narrow c =
    let shaped : (is_empty c.args.n c.args.bounds.now || ordered c.args.bounds.now) ≡ true =
    elim c.if-not-is_ordered.branch [
      | then-not-is_ordered+else-not-is_empty_box w ↦ empty_passes _ _ (sym w.if-not-is_empty_box.ensures)
      | else-not-is_ordered w ↦ ordered_passes _ _ (sym w.if-not-is_ordered.ensures)
    ] in
    past _ 6 _ (sym c.if-not-in_range.ensures) (past _ 7 _ shaped (fails _ 23 _ (sym c.if-not-is_narrow.ensures)))

pub returns : goal.returns
unfolding box_checks
returns c =
    let shaped : (is_empty c.args.n c.args.bounds.now || ordered c.args.bounds.now) ≡ true =
    elim c.if-not-is_ordered.branch [
      | then-not-is_ordered+else-not-is_empty_box w ↦ empty_passes _ _ (sym w.if-not-is_empty_box.ensures)
      | else-not-is_ordered w ↦ ordered_passes _ _ (sym w.if-not-is_ordered.ensures)
    ] in
    past _ 6 _ (sym c.if-not-in_range.ensures) (past _ 7 _ shaped (past _ 23 _ (sym c.if-not-is_narrow.ensures) ends))
