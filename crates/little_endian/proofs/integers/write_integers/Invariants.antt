-- `little_endian::integers::write_integers`: after k turns the bytes of the first k numbers are written. Assumes nothing.
use Prim.Native.Nat.{ℕ}
use lib.IntN.{ℤ}
use mathlib.Core.List.{List}
use mathlib.Core.Path.{◌≡◌}
use Rattle.model.specs.Box.{at}
use Rattle.little_endian.specs.Bytes.{integer_bytes}
use Rattle.little_endian.specs.Pieces.{joined, overwrite}
use Rattle.little_endian.proofs.integers.write_integers.Given as goal

abbrev pub piece : List ℤ → ℕ → List ℕ
piece xs i = integer_bytes (at xs i)

abbrev pub invariant-loop-k : goal.invariant-loop-k
invariant-loop-k l =
    (l.bytes ≡ overwrite l.at (joined l.k (piece l.xs)) l.initial.bytes)
