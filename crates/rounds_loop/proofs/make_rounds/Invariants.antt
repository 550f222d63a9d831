-- `rounds_loop::make_rounds`: the invariant says that the rounds left to make from the buffers as they are now end the rounds from the
-- buffers handed in. Assumes nothing.
use Rattle.model.specs.Rows.{rows_of}
use Rattle.model.specs.State.{state_of}
use Rattle.rounds.proofs.RoundsLaws.{Rest}
use Rattle.rounds_loop.proofs.make_rounds.Given as goal

abbrev pub invariant-loop-before : goal.invariant-loop-before
invariant-loop-before l =
    Rest (state_of l.n l.m l.initial.bounds (rows_of l.initial.coefs l.initial.rhs l.initial.kinds) l.initial.table) l.limit l.before l.spent
    (state_of l.n l.m l.bounds (rows_of l.coefs l.rhs l.kinds) l.table)
