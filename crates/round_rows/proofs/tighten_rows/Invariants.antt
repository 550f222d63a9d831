-- `round_rows::tighten_rows`: the invariant says that the rows so far were tightened. Assumes nothing.
use Rattle.model.specs.Rows.{rows_of}
use Rattle.rounds.specs.Round.{tighten_row}
use Rattle.rounds.proofs.RoundLaws.{AnyTurns}
use Rattle.round_rows.proofs.tighten_rows.Given as goal

abbrev pub invariant-loop-r : goal.invariant-loop-r
invariant-loop-r l = AnyTurns l.m tighten_row l.n l.m l.bounds (rows_of l.initial.coefs l.initial.rhs l.kinds) (rows_of l.coefs l.rhs l.kinds) l.changed l.r
