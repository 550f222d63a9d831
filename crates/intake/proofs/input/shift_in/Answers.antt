use Rattle.std.proofs.Common.{◌∙◌, ap, refl, arith, length, ◌-◌}
use lib.ListN.{length-set}
use lib.Seq.{paste-zero}
use Rattle.intake.specs.Intake.{shifted}
use Rattle.intake.proofs.InputLaws.{shift-done, shift-new, shift-old}
use Rattle.intake.proofs.input.shift_in.Goals as goal
use Rattle.intake.proofs.input.shift_in.Goals.{then-piece-left, else-piece-left}

pub loop-i-init : goal.loop-i-init
loop-i-init c = (refl, paste-zero c.args.tail.now 0 (shifted c.args.tail.now c.args.piece.now))

pub loop-i-preserved : goal.loop-i-preserved
loop-i-preserved c =
    let l = c.loop-i in
    let t = c.args.tail.now in
    let p = c.args.piece.now in
    elim c.if-piece-left.branch [
      | then-piece-left w ↦ (ap length w.tail-is ∙ simp length-set l.invariant.0, w.tail-is ∙ shift-old t p l.tail l.i l.invariant.1 (omega arith) (omega arith))
      | else-piece-left w ↦ (ap length w.tail-is ∙ simp length-set l.invariant.0, w.tail-is ∙ shift-new t p l.tail l.i l.invariant.1 (omega arith) (length l.tail - l.i) (omega arith) (omega arith))
    ]

pub returns : goal.returns
returns c =
    shift-done c.args.tail.now c.args.piece.now c.loop-i.tail c.loop-i.i c.loop-i.invariant.1 (omega arith)
