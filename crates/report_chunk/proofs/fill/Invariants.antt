-- `report_chunk::fill`: the invariant says that the chunk up to `next` is written; lines that are passed over have no text. There is
-- room for one line at the start, so one is written where one is left. Assumes nothing.
use Prim.Native.Nat.{◌-◌, ◌≤◌}
use mathlib.Core.List.{[]}
use mathlib.Core.Path.{◌≡◌}
use Rattle.model.specs.Rows.{rows_of}
use Rattle.model.specs.State.{state_of}
use Rattle.report.specs.Report.{line_at}
use Rattle.text.specs.Text.{Wrote, chunk}
use Rattle.report_chunk.proofs.fill.Given as goal

abbrev pub invariant-loop-next : goal.invariant-loop-next
invariant-loop-next l =
    (l.from ≤ l.next)
    × (l.next ≤ l.count)
    × (l.next ≡ l.from → l.end ≡ 0)
    × Wrote l.initial.buf 0 (chunk (line_at l.rounds (state_of l.n l.m l.bounds (rows_of l.coefs l.rhs []) l.table)) l.from l.next) l.end l.buf

abbrev pub decreases-loop-next : goal.decreases-loop-next
decreases-loop-next l = l.count - l.next
