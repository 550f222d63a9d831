-- `boxes::make_empty`: the loop writes l = 1 and u = 0 of one variable after the other (`write_to`). Assumes nothing.
use mathlib.Core.Path.{◌≡◌, ◌∙◌, sym, refl}
use lib.IntN.{pos}
use Rattle.model.proofs.BoxLoops.{write_to, write_to-all, write_to-more}
use Rattle.model.specs.Box.{empty_box, with_bounds}
use native.Mathlib.Omega.{arith}
use Rattle.boxes.proofs.make_empty.Goals as goal

pub loop-j-init : goal.loop-j-init
unfolding write_to
loop-j-init c = refl

pub loop-j-preserved : goal.loop-j-preserved
unfolding with_bounds
loop-j-preserved c =
    let j = c.loop-j.j in
    rw c.loop-j.invariant (sym (write_to-more (λ _. pos 1) (λ _. pos 0) c.args.bounds.now j))

pub returns : goal.returns
unfolding empty_box
returns c n h =
    let B = c.args.bounds.now in
    let end : c.loop-j.j ≡ n = omega arith in
    c.loop-j.invariant ∙ rw end (write_to-all (λ _. pos 1) (λ _. pos 0) B n h)
