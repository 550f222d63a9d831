-- `row_removal::clear_row`: a number changed where `clear` says so or the right side was not 0. Assumes nothing.
use borrow.Author.Rules.{rules}
use lib.IntN.{pos}
use lib.ListN.{length}
use mathlib.Core.Bool.{false, true}
use mathlib.Core.Path.{◌≡◌, ap, refl}
use mir.Syntax.{w32}
use mir.Val.{SFits, of_z}
use Rattle.integer.specs.Order.{eq_z}
use Rattle.integer.proofs.RangeLaws.{within-fits, within-lit}
use Rattle.integer.proofs.Reading.{eq-read}
use Rattle.model.specs.Box.{same_list}
use Rattle.row.specs.Answers.{removal_outcome}
use Rattle.row.specs.Redundancy.{zero_row}
use Rattle.row_removal.proofs.ClearLoops.{flag-clear, flag-set}
use Rattle.row.proofs.RowLoops.{and-false, eq_z-no, eq_z-yes}
use Rattle.row_removal.proofs.clear_row.Goals as goal

pub returns-then-clear : goal.returns-then-clear
unfolding removal_outcome
returns-then-clear c =
    let A = c.args.coefs.now in
    let e : same_list A (zero_row (length A)) ≡ false = flag-set _ c.clear.ensures.changed c.if-clear.true in
    rw (e, and-false) (record { answer = refl; row = c.clear.ensures.left; rhs_zero = refl })

pub returns-then-old-ne0 : goal.returns-then-old-ne0
unfolding removal_outcome
returns-then-old-ne0 c =
    let e : eq_z c.args.b.now (pos 0) ≡ false = eq_z-no _ _ (λ g. c.if-old-ne0.true (ap (of_z w32) g)) in
    rw e (record { answer = refl; row = c.clear.ensures.left; rhs_zero = refl })

pub returns : goal.returns
unfolding removal_outcome
returns c =
    let A = c.args.coefs.now in
    let b-fits : SFits w32 c.args.b.now = search rules in
    let zero : SFits w32 (pos 0) = within-fits w32 tt (within-lit {m = 0} tt) in
    let e : eq_z c.args.b.now (pos 0) ≡ true = eq_z-yes _ _ (eq-read w32 b-fits zero c.if-old-ne0.false) in
    let f : same_list A (zero_row (length A)) ≡ true = flag-clear _ c.clear.ensures.changed c.if-clear.false in
    rw (e, f) (record { answer = refl; row = c.clear.ensures.left; rhs_zero = refl })
