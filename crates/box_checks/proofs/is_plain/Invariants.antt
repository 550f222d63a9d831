-- `box_checks::is_plain`: the flag is `all` of the tests made so far. Assumes nothing.
use mathlib.Core.Path.{◌≡◌}
use Rattle.integer.specs.Index.{all}
use Rattle.box_checks.specs.Plain.{plain_at}
use Rattle.box_checks.proofs.is_plain.Given as goal

abbrev pub invariant-loop-j : goal.invariant-loop-j
invariant-loop-j l = l.ok ≡ all l.j (plain_at l.bounds)
