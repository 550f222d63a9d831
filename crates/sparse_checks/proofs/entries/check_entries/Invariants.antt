-- `sparse_checks::entries::check_entries`: the place is where row i starts, and the entries of the rows before it pass.
-- Assumes nothing.
use Rattle.std.proofs.Common.{◌≡◌}
use Rattle.model.specs.Checks.{first}
use Rattle.sparse_layout.specs.SparseBook.{row_start}
use Rattle.sparse_layout.specs.SparseChecks.{all_entry_checks}
use Rattle.sparse_checks.proofs.entries.check_entries.Given as goal

abbrev pub invariant-loop-i : goal.invariant-loop-i
invariant-loop-i l = (l.p ≡ row_start l.n l.book l.i) × (first (all_entry_checks l.n l.i l.book) ≡ 0)
