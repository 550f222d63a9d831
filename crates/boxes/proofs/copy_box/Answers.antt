-- `boxes::copy_box`: lists of one length with the same numbers are the same (`ext_get_or`). Assumes nothing.
use lib.IntN.{pos}
use lib.Seq.{ext_get_or}
use native.Mathlib.Omega.{arith}
use Rattle.boxes.proofs.copy_box.Goals as goal

pub returns : goal.returns
returns c = ext_get_or (pos 0) _ _ (omega arith) (λ q k. c.loop-i.invariant.copied q (omega arith))
