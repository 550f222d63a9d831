-- `sparse_checks::head::walk_ends`: the place is where row i starts, and lies less than the longest row beyond `end`.
-- Assumes nothing.
use Rattle.std.proofs.Common.{◌+◌, ◌≤◌, ◌≡◌}
use Rattle.sparse_layout.specs.SparseBook.{row_start}
use Rattle.sparse_checks.proofs.head.walk_ends.Given as goal

abbrev pub invariant-loop-i : goal.invariant-loop-i
invariant-loop-i l = (l.p ≡ row_start l.n l.book l.i) × (l.p ≤ l.end + 400_000)
