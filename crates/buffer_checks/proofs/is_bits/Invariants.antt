-- `buffer_checks::is_bits`: the flag is `all` of the tests made so far. Assumes nothing.
use Prim.Native.Nat.{ℕ}
use lib.Dec.{ltb}
use lib.ListN.{get_or}
use mathlib.Core.Bool.{Bool}
use mathlib.Core.List.{List}
use mathlib.Core.Path.{◌≡◌}
use Rattle.integer.specs.Index.{all}
use Rattle.buffer_checks.proofs.is_bits.Given as goal

abbrev pub test : List ℕ → ℕ → Bool
test t i = ltb (get_or t i 0) 2

abbrev pub invariant-loop-t : goal.invariant-loop-t
invariant-loop-t l = l.ok ≡ all l.t-index (test l.table)
