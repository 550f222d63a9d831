-- `little_endian::integers::are_in_range`: the flag is `all` of the tests made so far. Assumes nothing.
use Prim.Native.Nat.{ℕ}
use lib.IntN.{ℤ}
use lib.Signed.{le_z}
use mathlib.Core.Bool.{Bool, ◌&&◌}
use mathlib.Core.List.{List}
use mathlib.Core.Path.{◌≡◌}
use Rattle.integer.specs.Index.{all}
use Rattle.model.specs.Box.{at}
use Rattle.little_endian.specs.Bytes.{integers_at}
use Rattle.little_endian.proofs.integers.are_in_range.Given as goal

abbrev pub test : List ℤ → ℤ → ℤ → ℕ → Bool
test xs low high i = le_z low (at xs i) && le_z (at xs i) high

abbrev pub invariant-loop-k : goal.invariant-loop-k
invariant-loop-k l = (l.ok ≡ all l.k (test (integers_at l.at l.step l.count l.bytes) l.low l.high))
