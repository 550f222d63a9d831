-- `report::next_line`: the bytes from where it began up to the one that it stands at are not 1.
use Rattle.std.proofs.Common.{◌≡◌, ℕ, ◌+◌, ◌-◌, ◌<◌, ◌≤◌, get_or}
use Rattle.report.proofs.next_line.Given as goal

abbrev pub invariant-loop-byte : goal.invariant-loop-byte
invariant-loop-byte l = (q : ℕ) → l.i ≤ q → q < l.first + l.byte → (l.first ≤ q) × (get_or l.table (q - l.first) 0 ≡ 1 → ⊥)
