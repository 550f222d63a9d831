-- `allocation_input::first_end`: no place so far ends a book.
use lib.Dec.{T}
use Rattle.integer.specs.Index.{all}
use Rattle.allocation_input.specs.Input.{no_book}
use Rattle.allocation_input.proofs.first_end.Given as goal

abbrev pub invariant-loop-end : goal.invariant-loop-end
invariant-loop-end l = T (all l.end (no_book l.input))
