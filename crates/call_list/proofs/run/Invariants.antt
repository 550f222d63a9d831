-- `call_list::run`: i records are run, and the answer with the buffers is what these come to (`Running`).
use Rattle.std.proofs.Common.{length, ◌-◌, ◌≡◌, ◌≤◌}
use Rattle.model.specs.Rows.{rows_of}
use Rattle.model.specs.State.{state_of}
use Rattle.flat_list.specs.ListAnswers.{list_run}
use Rattle.call_record.proofs.Running.{Running}
use Rattle.call_list.proofs.run.Given as goal

abbrev pub invariant-loop-i : goal.invariant-loop-i
invariant-loop-i l =
    let A = rows_of l.coefs l.rhs l.kinds in
    Running (state_of l.n l.m l.fn.bounds A l.fn.table) l.calls (list_run l.answer (state_of l.n l.m l.bounds A l.table)) l.i
