-- `row_marks::next_row`: the rows before the one that it stands at are clean. Assumes nothing.
use Rattle.std.proofs.Common.{◌≡◌, ℕ, ◌<◌, ◌≤◌, get_or}
use Rattle.row_marks.proofs.next_row.Given as goal

abbrev pub invariant-loop-s : goal.invariant-loop-s
invariant-loop-s l = (i : ℕ) → l.r ≤ i → i < l.s → get_or l.marks i 0 ≡ 1
