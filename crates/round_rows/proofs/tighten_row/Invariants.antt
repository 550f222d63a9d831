-- `round_rows::tighten_row`: the invariant says that the calls so far were made and that `most` is Lmax of the row as it is. Assumes nothing.
use Rattle.std.proofs.Common.{◌≡◌}
use Rattle.model.specs.Rows.{row_of, rows_of}
use Rattle.row.specs.Activity.{max_activity}
use Rattle.rounds.specs.Round.{tighten_call}
use Rattle.rounds.proofs.RoundLaws.{AnyTurns}
use Rattle.round_rows.proofs.tighten_row.Given as goal

abbrev pub invariant-loop-k : goal.invariant-loop-k
invariant-loop-k l = record {
  turns : AnyTurns l.n (tighten_call l.row) l.n l.m l.bounds (rows_of l.initial.coefs l.initial.rhs l.kinds) (rows_of l.coefs l.rhs l.kinds) l.changed l.k;
  most : l.most ≡ max_activity l.n (row_of l.n l.coefs l.row) l.bounds;
}
