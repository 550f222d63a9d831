-- `boxes::make_empty`: the loop writes l = 1 and u = 0 of one variable after the other (`write_to`). Assumes nothing.
use mathlib.Core.Path.{◌≡◌}
use lib.IntN.{pos}
use Rattle.model.proofs.BoxLoops.{write_to}
use Rattle.boxes.proofs.make_empty.Given as goal

abbrev pub invariant-loop-j : goal.invariant-loop-j
invariant-loop-j l = l.bounds ≡ write_to l.j (λ _. pos 1) (λ _. pos 0) l.initial.bounds
