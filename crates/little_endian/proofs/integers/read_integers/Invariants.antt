-- `little_endian::integers::read_integers`: after k turns the first k numbers are overwritten by those read. Assumes nothing.
use mathlib.Core.Path.{◌≡◌}
use Rattle.little_endian.specs.Bytes.{integers_at}
use Rattle.little_endian.specs.Pieces.{overwrite}
use Rattle.little_endian.proofs.integers.read_integers.Given as goal

abbrev pub invariant-loop-k : goal.invariant-loop-k
invariant-loop-k l =
    (l.xs ≡ overwrite 0 (integers_at l.at l.step l.k l.bytes) l.initial.xs)
