-- `two_sides::implications::record_implications`: the invariant says that the table and the count are record_to's so far, and that
-- the count is at most 4 for each variable. Assumes nothing.
use Rattle.std.proofs.Common.{◌≡◌, ◌*◌, ◌≤◌}
use Rattle.semantics.specs.Probe.{record_to}
use Rattle.two_sides.proofs.implications.record_implications.Given as goal

abbrev pub invariant-loop-j : goal.invariant-loop-j
invariant-loop-j l =
    let r = record_to l.j l.n l.k l.bounds l.zero l.one l.initial.table in
    (l.added ≤ 4 * l.j) × (l.table ≡ r.bytes) × (l.added ≡ r.added)
