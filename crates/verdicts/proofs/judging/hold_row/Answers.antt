-- `verdicts::judging::hold_row`: the invariant says that the proposals so far are held against the row, and that the others' numbers are
-- as they were.
use Prim.Native.Nat.{ℕ}
use lib.IntN.{ℤ}
use mathlib.Core.List.{List}
use mathlib.Core.Path.{◌∙◌, ap₂}
use mir.Syntax.{w32}
use mir.Val.{of_z, to_z}
use native.Mathlib.Omega.{arith}
use Rattle.model.specs.Rows.{row_with}
use Rattle.proposals.specs.Telling.{held, with_verdict}
use Rattle.proposals.specs.Verdict.{meets}
use Rattle.proposals.proofs.TellingLaws.{halfway-more}
use Rattle.verdicts.proofs.judging.hold_row.Invariants.{held_at}
use Rattle.verdicts.proofs.judging.hold_row.Goals as goal

pub loop-c-preserved : goal.loop-c-preserved
loop-c-preserved c =
    let l = c.loop-c in
    let r = c.requires.0 in
    let b = to_z w32 (of_z w32 c.args.b) in
    halfway-more (held_at c.args.n c.args.coefs.now b c.args.kind c.args.i c.args.proposals.now) l.invariant (r.told l.c (omega arith)) (omega (arith, r.lent.room))
    (λ v t. c.hold_one.ensures v t
    ∙ ap₂ (λ (j : ℕ) (x : List ℤ). with_verdict l.verdicts l.c (held c.args.i (meets j (row_with c.args.coefs.now b c.args.kind) x) v)) r.len c.proposal_at.ensures)
