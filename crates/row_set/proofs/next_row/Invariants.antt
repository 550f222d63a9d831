-- `row_set::next_row`: no row from r to the one that it stands at is in the set. Assumes nothing.
use Rattle.std.proofs.Common.{◌≡◌, ◌-◌, ◌<◌, ◌≤◌, ℕ}
use Rattle.row_set.specs.Bits.{bit_at}
use Rattle.row_set.proofs.next_row.Given as goal

abbrev pub invariant-loop-s : goal.invariant-loop-s
invariant-loop-s l = (l.r ≤ l.s) × ((i : ℕ) → l.r ≤ i → i < l.s → bit_at l.set i ≡ 0)

abbrev pub decreases-loop-s : goal.decreases-loop-s
decreases-loop-s l = l.m - l.s
