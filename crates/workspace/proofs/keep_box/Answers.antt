-- `workspace::keep_box`: so far the numbers in the workspace say the bounds, and nothing else was written. Assumes nothing.
use Prim.Native.Nat.{◌+◌}
use borrow.Author.Count.{below_more, below_none}
use lib.IntN.{pos}
use lib.Seq.{ext_get_or, get_or-set_other, get_or-set_same}
use mathlib.Core.Path.{◌∙◌, ap, sym}
use mir.Facts.{to_z-of_z}
use mir.Syntax.{w32}
use native.Mathlib.Omega.{arith}
use Rattle.integer.proofs.Parts.{zarith}
use Rattle.integer.proofs.RangeLaws.{within-fits}
use Rattle.prepared_model.specs.Layout.{bound_of}
use Rattle.prepared_model.proofs.DecodeLaws.{bound-raised, box-at, length-box}
use Rattle.prepared_model.proofs.KeptLaws.{same_more, same_none, same-wider}
use Rattle.row.proofs.ActivityLaws.{within-bound}
use Rattle.workspace.proofs.keep_box.Goals as goal

pub loop-i-init : goal.loop-i-init
loop-i-init c = (same_none 8 c.args.ws.now, below_none _)

pub raised-requires : goal.raised-requires
raised-requires c =
    let b = c.requires.1 c.loop-i.i in
    let f = within-fits w32 tt (within-bound b) in
    simp to_z-of_z (omega (zarith, b), omega (zarith, b), omega zarith)

pub bounds-ws-i : goal.bounds-ws-i
bounds-ws-i c = omega (arith, c.requires, c.loop-i.invariant.0.len)

pub loop-i-preserved : goal.loop-i-preserved
loop-i-preserved c =
    let i = c.loop-i.i in
    let ws = c.loop-i.ws in
    let b = c.requires.1 i in
    let f = within-fits w32 tt (within-bound b) in (
      same_more i c.loop-i.invariant.0 _,
      below_more _ i
          (λ q k. ap bound_of (get_or-set_other ws (8 + i) (8 + q) _ 0 (omega arith)) ∙ c.loop-i.invariant.1 q k)
          (ap bound_of (get_or-set_same ws (8 + i) _ 0 (omega (arith, c.requires, c.loop-i.invariant.0.len))) ∙ bound-raised b (simp to_z-of_z at c.raised.ensures)),
    )

pub returns : goal.returns
returns c =
    let W = c.loop-i.ws in
    record {
      kept = λ n l. ext_get_or (pos 0) _ _ (length-box n W ∙ sym l)
          (λ q k. let small = rw (length-box n W) at k in box-at n W q small ∙ c.loop-i.invariant.1 q (omega arith));
      others = same-wider (omega (arith, c.requires)) c.loop-i.invariant.0;
    }
