-- What is printed is the lines before the next one, and each line has room in the buffer.
use Rattle.std.proofs.Common.{[], ◌≡◌, ◌*◌, ◌-◌, ◌≤◌, length}
use Rattle.model.specs.Rows.{rows_of}
use Rattle.model.specs.State.{state_of}
use Rattle.report.specs.Report.{line_at}
use Rattle.text.specs.Text.{chunk}
use Rattle.printing.proofs.reduced.Given as goal

abbrev pub invariant-loop-next : goal.invariant-loop-next
invariant-loop-next g l = record {
  within : l.next ≤ l.count;
  lines :
      l.printed
      ≡ length (chunk (line_at l.rounds (state_of l.n l.m l.bounds (rows_of l.coefs l.rhs []) l.table)) 0 l.next);
  few : l.printed ≤ 65_536 * l.next;
}

abbrev pub decreases-loop-next : goal.decreases-loop-next
decreases-loop-next g l = l.count - l.next
