-- `verdicts::judging::hold_boxes`: the invariant says that the verdicts so far are told.
use Prim.Native.Nat.{◌+◌, ◌<◌, ℕ}
use lib.IntN.{ℤ}
use lib.ListN.{length}
use mathlib.Core.List.{List}
use mathlib.Core.Path.{◌∙◌, ◌≡◌, ap, refl, subst, sym}
use native.Mathlib.Omega.{arith}
use Rattle.model.proofs.RowsLaws.{length-row_of}
use Rattle.proposals.specs.Proposals.{proposal}
use Rattle.proposals.specs.Telling.{Says, box_verdict, with_verdict}
use Rattle.proposals.proofs.TellingLaws.{says-more}
use Rattle.verdicts.proofs.judging.hold_boxes.Goals as goal

pub hold_box-requires-clause-n_le_max_variables : goal.hold_box-requires-clause-n_le_max_variables
hold_box-requires-clause-n_le_max_variables c =
    (c.requires.0.few, c.requires.1, ap length c.proposal_at.ensures ∙ length-row_of c.args.n c.args.count c.args.proposals.now c.loop-c.c c.requires.0.len (omega arith))

pub loop-c-preserved : goal.loop-c-preserved
loop-c-preserved c =
    let l = c.loop-c in
    let v = box_verdict c.args.n c.args.bounds.now (proposal c.args.n c.args.proposals.now l.c) in
    let e : c.hold_box.new.verdicts ≡ with_verdict l.verdicts l.c v =
    c.hold_box.ensures ∙ ap (λ (x : List ℤ). with_verdict l.verdicts l.c (box_verdict c.args.n c.args.bounds.now x)) c.proposal_at.ensures in
    subst (λ (X : List ℕ). (d : ℕ) → d < l.c + 1 → Says X d (box_verdict c.args.n c.args.bounds.now (proposal c.args.n c.args.proposals.now d)))
    (sym e) (says-more l.verdicts l.c v _ (omega (arith, c.requires.0.room)) refl l.invariant)
