-- `buffer_checks::is_ordered`: the flag is `all` of the tests made so far. Assumes nothing.
use Prim.Native.Nat.{ℕ}
use lib.IntN.{ℤ}
use lib.Signed.{le_z}
use mathlib.Core.Bool.{Bool}
use mathlib.Core.List.{List}
use mathlib.Core.Path.{◌≡◌}
use Rattle.integer.specs.Index.{all}
use Rattle.model.specs.Box.{lower, upper}
use Rattle.buffer_checks.proofs.is_ordered.Given as goal

abbrev pub test : List ℤ → ℕ → Bool
test B j = le_z (lower B j) (upper B j)

abbrev pub invariant-loop-j : goal.invariant-loop-j
invariant-loop-j l = l.ok ≡ all l.j (test l.bounds)
