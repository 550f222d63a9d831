-- `allocation_input::count_behind`: the four bytes are there, or the count is 0.
use mathlib.Core.Path.{◌∙◌}
use native.Mathlib.Omega.{arith}
use Rattle.allocation_input.proofs.InputLaws.{count-missing, count-there}
use Rattle.allocation_input.proofs.count_behind.Goals as goal

pub returns-then-input-end-lt-COUNT : goal.returns-then-input-end-lt-COUNT
returns-then-input-end-lt-COUNT c = count-missing _ _ (omega arith)

pub returns : goal.returns
returns c = c.read_u32.ensures ∙ count-there _ _ (omega arith)
