-- `allocation_input::whole_end`: no place so far splits the input.
use lib.Dec.{T}
use Rattle.integer.specs.Index.{all}
use Rattle.allocation_input.specs.Input.{no_split}
use Rattle.allocation_input.proofs.whole_end.Given as goal

abbrev pub invariant-loop-end : goal.invariant-loop-end
invariant-loop-end l = T (all l.end (no_split l.input))
