-- `sparse_checks::entries::check_row_entries`: the invariant says that the entries so far pass. Assumes nothing.
use Rattle.std.proofs.Common.{◌≡◌}
use Rattle.little_endian.specs.Pieces.{joined}
use Rattle.model.specs.Checks.{first}
use Rattle.sparse_layout.specs.SparseChecks.{entry_checks}
use Rattle.sparse_checks.proofs.entries.check_row_entries.Given as goal

abbrev pub invariant-loop-e : goal.invariant-loop-e
invariant-loop-e l = first (joined l.e (entry_checks l.n l.p l.book)) ≡ 0
