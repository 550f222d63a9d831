-- `round_rows::remove_rows`: the invariant says that the rows so far had their turn, and that the box, which a removal leaves, is not empty.
-- Assumes nothing.
use Rattle.std.proofs.Common.{◌≡◌, false}
use Rattle.model.specs.Box.{is_empty}
use Rattle.model.specs.Rows.{rows_of}
use Rattle.rounds.specs.Round.{remove_call}
use Rattle.rounds.proofs.RoundLaws.{AnyTurns}
use Rattle.round_rows.proofs.remove_rows.Given as goal

abbrev pub invariant-loop-r : goal.invariant-loop-r
invariant-loop-r l = record {
  turns : AnyTurns l.m remove_call l.n l.m l.bounds (rows_of l.initial.coefs l.initial.rhs l.initial.kinds) (rows_of l.coefs l.rhs l.kinds) l.changed l.r;
  full : is_empty l.n l.bounds ≡ false;
}
