-- `allocation_lines::write_verdicts`: after c lines the text is that of c verdicts, and no line is longer than 21 bytes.
use Prim.Native.Nat.{◌*◌, ◌+◌, ℕ}
use lib.ListN.{get_or}
use mathlib.Core.List.{List}
use mathlib.Core.Path.{◌∙◌, ◌≡◌, ap, refl}
use native.Mathlib.Omega.{arith}
use Rattle.proposals.proofs.CallLaws.{numbers-case, numbers-number}
use Rattle.text.specs.Text.{texts}
use Rattle.text.proofs.TextLaws.{texts-more, wrote_none, ◌⨾◌}
use Rattle.allocation_lines.proofs.write_verdicts.Goals as goal

pub loop-c-init : goal.loop-c-init
unfolding texts
loop-c-init c = record { short = omega arith; room = refl; text = λ f e. wrote_none _ _ (omega arith) }

pub loop-c-preserved : goal.loop-c-preserved
loop-c-preserved c =
    let i = c.loop-c.c in
    let w = c.write_verdict-end in
    record {
      short = omega arith;
      room = w.auto.buf ∙ c.loop-c.invariant.room;
      text = λ f e.
          rw texts-more (c.loop-c.invariant.text f e ⨾ w.ensures.text (f i)
          (ap (λ (Y : List ℕ). get_or Y (2 * i) 0) e ∙ numbers-case c.args.count f i (omega arith))
          (ap (λ (Y : List ℕ). get_or Y (2 * i + 1) 0) e ∙ numbers-number c.args.count f i (omega arith)));
    }

pub shape_of-buf : goal.shape_of-buf
shape_of-buf c = c.loop-c.invariant.room

pub returns : goal.returns
returns c =
    let end : c.loop-c.c ≡ c.args.count = omega arith in
    record { text = λ f e. rw end at (c.loop-c.invariant.text f e); room = omega arith }
