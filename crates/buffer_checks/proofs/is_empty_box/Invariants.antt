-- `buffer_checks::is_empty_box`: the loop passes the variables with l = 1 and u = 0, and by `is_empty-bounds` these are the empty box.
-- Assumes nothing.
use Prim.Native.Nat.{◌*◌, ◌<◌, ℕ}
use lib.IntN.{pos}
use lib.ListN.{length}
use mathlib.Core.Path.{◌≡◌}
use Rattle.model.specs.Box.{lower, upper}
use Rattle.buffer_checks.proofs.is_empty_box.Given as goal

abbrev pub invariant-loop-j : goal.invariant-loop-j
invariant-loop-j l =
    (length l.bounds ≡ 2 * l.n) × ((k : ℕ) → k < l.j → (lower l.bounds k ≡ pos 1) × (upper l.bounds k ≡ pos 0))
