-- `row_set::add`: the words so far are the unions, the others as they were (`bit-union`). Assumes nothing.
use Rattle.std.proofs.Common.{◌≡◌, ◌<◌, ◌≤◌, ℕ, get_or}
use lib.Bits.{bit_or}
use Rattle.row_set.proofs.add.Given as goal

abbrev pub invariant-loop-i : goal.invariant-loop-i
invariant-loop-i l =
    ((q : ℕ) → q < l.i → get_or l.set q 0 ≡ bit_or (get_or l.initial.set q 0) (get_or l.more q 0))
    × ((q : ℕ) → l.i ≤ q → get_or l.set q 0 ≡ get_or l.initial.set q 0)
