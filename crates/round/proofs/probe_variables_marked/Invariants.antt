-- `round::probe_variables_marked`: the invariant says that the calls so far were made, whether a side of one was Spent, and that the marks
-- are those of the box. Assumes nothing.
use Rattle.std.proofs.Common.{◌≡◌}
use Rattle.model.specs.Rows.{rows_of}
use Rattle.model.specs.State.{state_of}
use Rattle.demands.specs.Unmoved.{any_spent}
use Rattle.probe_side.specs.Marked.{Marked}
use Rattle.rounds.specs.Round.{probe_call, upwards}
use Rattle.rounds.proofs.RoundLaws.{Turns}
use Rattle.round.proofs.probe_variables_marked.Given as goal

abbrev pub invariant-loop-k : goal.invariant-loop-k
invariant-loop-k l =
    let s = state_of l.n l.m l.initial.bounds (rows_of l.coefs l.rhs l.kinds) l.initial.table in
    record {
      turns : Turns l.n probe_call s (state_of l.n l.m l.bounds (rows_of l.coefs l.rhs l.kinds) l.table) l.changed l.k;
      marked : Marked l.n l.m l.bounds (rows_of l.coefs l.rhs l.kinds) l.across l.signs l.marks;
      spent : l.spent ≡ any_spent s (upwards l.k probe_call s);
    }
