-- `allocation_input::whole_end`: no place so far splits the input: the first that does is the lowest (`end-here`).
use Prim.Native.Nat.{◌+◌}
use lib.ListN.{length}
use mathlib.Core.Path.{◌≡◌, ◌∙◌, refl, sym}
use native.Mathlib.Omega.{arith}
use Rattle.integer.specs.Index.{all}
use Rattle.integer.proofs.Tests.{told-false, told-true}
use Rattle.allocation_input.specs.Input.{whole_end, no_split}
use Rattle.allocation_input.proofs.InputLaws.{end-further, end-here, end-nowhere}
use Rattle.allocation_input.proofs.whole_end.Goals as goal

pub loop-end-init : goal.loop-end-init
unfolding all
loop-end-init c = tt

pub returns-then-splits_at : goal.returns-then-splits_at
unfolding whole_end
returns-then-splits_at c =
    let bs = c.args.input.now in
    end-here bs (no_split bs) c.loop-end.end (omega arith) c.loop-end.invariant (told-false (no_split bs c.loop-end.end) refl (sym c.splits_at.ensures ∙ c.if-splits_at.true))

pub loop-end-preserved : goal.loop-end-preserved
loop-end-preserved c =
    let bs = c.args.input.now in
    end-further bs (no_split bs) c.loop-end.end c.loop-end.invariant (told-true (no_split bs c.loop-end.end) refl (sym c.splits_at.ensures ∙ c.if-splits_at.false))

pub returns : goal.returns
unfolding whole_end
returns c =
    let bs = c.args.input.now in
    let e : c.loop-end.end ≡ length bs + 1 = omega arith in
    sym e ∙ end-nowhere bs (no_split bs) c.loop-end.end e c.loop-end.invariant
