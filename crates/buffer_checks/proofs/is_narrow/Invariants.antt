-- `buffer_checks::is_narrow`: the flag is `all` of the tests made so far; a difference of two bounds in range fits. Assumes nothing.
use Prim.Native.Nat.{ℕ}
use lib.IntN.{◌-ℤ◌, ℤ}
use lib.Signed.{le_z}
use mathlib.Core.Bool.{Bool}
use mathlib.Core.List.{List}
use mathlib.Core.Path.{◌≡◌}
use Rattle.integer.specs.Index.{all}
use Rattle.model.specs.Box.{lower, upper}
use Rattle.model.specs.Limits.{max_width}
use Rattle.buffer_checks.proofs.is_narrow.Given as goal

abbrev pub test : List ℤ → ℕ → Bool
test B j = le_z (upper B j -ℤ lower B j) max_width

abbrev pub invariant-loop-j : goal.invariant-loop-j
invariant-loop-j l = l.ok ≡ all l.j (test l.bounds)
