-- `row_removal::clear`: the invariant says that the numbers so far are 0 and the others the old ones (`clear_to`), and that
-- `changed` tells whether the list differs from the old one. Assumes nothing.
use borrow.Author.Rules.{rules}
use Prim.Native.Nat.{ℕ}
use lib.IntN.{pos, ℤ}
use lib.ListN.{length}
use mathlib.Core.Bool.{not}
use mathlib.Core.List.{List}
use mathlib.Core.Logic.{inl, inr}
use lib.Seq.{set-get_or}
use mathlib.Core.Path.{◌∙◌, ◌≡◌, ap, refl}
use mir.Syntax.{w32}
use mir.Val.{SFits, of_z}
use native.Mathlib.Omega.{arith}
use Rattle.integer.proofs.RangeLaws.{within-fits, within-lit}
use Rattle.model.specs.Box.{at, same_list}
use Rattle.row.specs.Redundancy.{zero_row}
use Rattle.integer.proofs.Reading.{eq-read}
use Rattle.row_removal.proofs.ClearLoops.{clear-all, clear-turn, clear_to, same_none}
use Rattle.row_removal.proofs.clear.Goals as goal
use Rattle.row_removal.proofs.clear.Goals.{else-x-ne0, then-x-ne0}

pub loop-x-init : goal.loop-x-init
loop-x-init c = (refl, same_none c.args.xs.now)

pub loop-x-preserved : goal.loop-x-preserved
loop-x-preserved c =
    let j = c.loop-x.x-index in
    let f : SFits w32 (at c.loop-x.xs j) = search rules in
    let zero : SFits w32 (pos 0) = within-fits w32 tt (within-lit {m = 0} tt) in
    clear-turn j c.args.xs.now (omega arith) c.loop-x.invariant.0 c.loop-x.invariant.1
    (elim c.if-x-ne0.branch [
      | then-x-ne0 w ↦ inl ((λ g. w.if-x-ne0.true (ap (of_z w32) g)), w.xs-is, w.changed-is)
      | else-x-ne0 w ↦ inr (eq-read w32 f zero w.if-x-ne0.false, w.xs-is ∙ set-get_or c.loop-x.xs j (pos 0), w.changed-is)
    ])

pub returns : goal.returns
returns c =
    let xs = c.args.xs.now in
    let end : c.loop-x.x-index ≡ length xs = omega arith in
    let e : clear_to c.loop-x.x-index xs ≡ zero_row (length xs) = ap (λ (k : ℕ). clear_to k xs) end ∙ clear-all xs in
    record {
      left = c.loop-x.invariant.0 ∙ e;
      changed = c.loop-x.invariant.1 ∙ ap (λ (ys : List ℤ). not (same_list xs ys)) e;
    }
