-- `remarking::remark`: the invariant is `Remarked`; a variable whose bounds did not move is left as it is, and a step passes only
-- over variables where the boxes agree. Assumes nothing.
use Prim.Native.Nat.{◌<◌}
use mathlib.Core.Path.{◌∙◌, ◌≡◌}
use native.Mathlib.Omega.{arith}
use Rattle.model.proofs.BoxLaws.{box-ext}
use Rattle.remarking.proofs.RemarkLoops.{remark-still, remark-turn}
use Rattle.remarking.proofs.remark.Goals as goal
use Rattle.remarking.proofs.remark.Goals.{then-has_moved, else-has_moved}

pub loop-j-preserved : goal.loop-j-preserved
loop-j-preserved c =
    let k : c.loop-j.j < c.args.n = omega arith in
    elim c.if-has_moved.branch [
      | then-has_moved w ↦
          let call = w.remark_at in
          rw (w.signs-is, w.old-is, w.marks-is)
          (remark-turn c.requires.0 c.loop-j.invariant k call.new.marks call.ensures.left call.auto.signs
          call.auto.old call.auto.marks call.ensures.signs call.ensures.marks)
      | else-has_moved w ↦ rw (w.signs-is, w.old-is, w.marks-is) (remark-still c.requires.0 c.loop-j.invariant k (c.has_moved.ensures w.if-has_moved.false))
    ]

pub returns : goal.returns
returns c =
    let i = c.loop-j.invariant in
    let e : c.loop-j.j ≡ c.args.n = omega (arith, i.le) in
    record {
      left = box-ext c.args.n c.loop-j.old c.args.new.now (i.old_len ∙ c.requires.0.old_len) c.requires.0.new_len
          (λ k l. (i.early k (omega arith)).0) (λ k l. (i.early k (omega arith)).1);
      marks = λ r p m. let w = i.read r p m in (w.0, λ k l. w.1 k (omega arith));
      signs = i.columns;
    }
