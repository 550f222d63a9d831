-- `row_activity::maximum_activity` is max_activity: the mirror of `minimum_activity`, each term with its bounds exchanged.
-- Assumes nothing.
use Prim.Native.Nat.{◌*◌, ◌+◌, ℕ}
use lib.ListN.{length}
use mathlib.Core.Path.{◌∙◌, ◌≡◌, ap, refl, sym}
use mir.Facts.{to_z-of_z}
use mir.Syntax.{w32, w64}
use mir.Val.{of_z, to_z}
use native.Mathlib.Omega.{arith}
use Rattle.integer.specs.Index.{sum as total}
use Rattle.integer.proofs.RangeLaws.{within-fits}
use Rattle.row.specs.Activity.{max_activity}
use Rattle.row.proofs.RowLoops.{bounds-small, coefs-small, max_term-is, max-terms, turn, turn-fits}
use Rattle.row_activity.proofs.maximum_activity.Invariants.{term_at}
use Rattle.row_activity.proofs.maximum_activity.Goals as goal

pub loop-j-init : goal.loop-j-init
unfolding total
loop-j-init c = refl

pub term-sum-requires : goal.term-sum-requires
term-sum-requires c =
    let v = c.requires in
    let j = c.loop-j.j in
    let fa = within-fits w32 tt (coefs-small v j) in
    let fl = within-fits w32 tt (bounds-small v (2 * j)) in
    let fu = within-fits w32 tt (bounds-small v (2 * j + 1)) in
    simp to_z-of_z (record { within = coefs-small v j; within_2 = bounds-small v (2 * j + 1); within_3 = bounds-small v (2 * j) })

pub overflow_add-sum : goal.overflow_add-sum
overflow_add-sum c =
    let v = c.requires in
    let A = c.args.coefs.now in
    let B = c.args.bounds.now in
    let j = c.loop-j.j in
    let fa = within-fits w32 tt (coefs-small v j) in
    let fl = within-fits w32 tt (bounds-small v (2 * j)) in
    let fu = within-fits w32 tt (bounds-small v (2 * j + 1)) in
    let next : to_z w64 (of_z w64 c.term-sum.result) ≡ term_at A B j =
    to_z-of_z {w = w64} (record { sfits = c.term-sum.type_inv }) ∙ simp to_z-of_z at c.term-sum.ensures ∙ sym (max_term-is _ _ _) in
    turn-fits (max-terms v) j c.loop-j.invariant next (omega arith)

pub loop-j-preserved : goal.loop-j-preserved
loop-j-preserved c =
    let v = c.requires in
    let A = c.args.coefs.now in
    let B = c.args.bounds.now in
    let j = c.loop-j.j in
    let fa = within-fits w32 tt (coefs-small v j) in
    let fl = within-fits w32 tt (bounds-small v (2 * j)) in
    let fu = within-fits w32 tt (bounds-small v (2 * j + 1)) in
    let next : to_z w64 (of_z w64 c.term-sum.result) ≡ term_at A B j =
    to_z-of_z {w = w64} (record { sfits = c.term-sum.type_inv }) ∙ simp to_z-of_z at c.term-sum.ensures ∙ sym (max_term-is _ _ _) in
    to_z-of_z (turn-fits (max-terms v) j c.loop-j.invariant next (omega arith)) ∙ turn (max-terms v) j c.loop-j.invariant next

pub returns : goal.returns
unfolding max_activity
returns c =
    let A = c.args.coefs.now in
    let end : c.loop-j.j ≡ length A = omega arith in
    c.loop-j.invariant ∙ ap (λ (i : ℕ). total i (term_at A c.args.bounds.now)) end
