-- `remarking::remark_at`: its two bounds, one after the other. Assumes nothing.
use Prim.Native.Nat.{◌*◌, ◌+◌}
use lib.IntN.{pos}
use lib.ListN.{set}
use lib.Seq.{get_or-set_other}
use mathlib.Core.Path.{◌∙◌, ap}
use native.Mathlib.Omega.{arith}
use Rattle.model.specs.Box.{at, with_bounds}
use Rattle.remarking.proofs.remark_at.Goals as goal

pub returns : goal.returns
unfolding with_bounds
returns c =
    let second = c.remark_bound-2 in
    let first = c.remark_bound in
    let j = c.args.j in
    let old = c.args.old.now in
    let high = ap (λ P. at P (2 * j + 1)) first.ensures.left ∙ get_or-set_other old (2 * j) (2 * j + 1) _ (pos 0) (omega arith) in record {
      left = second.ensures.left ∙ ap (λ P. set P (2 * j + 1) (at c.args.new.now (2 * j + 1))) first.ensures.left;
      marks = λ r h e.
          let w = second.ensures.marks r h e in
          let v = first.ensures.marks r h w.0 in
          (v.0, record { low = v.1; high = λ t. w.1 t ∙ high });
      signs = second.ensures.signs;
    }
