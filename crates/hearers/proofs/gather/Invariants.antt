-- `hearers::gather`: the sets hold the rows so far that hear of the variable (`column-more`). Assumes nothing.
use Rattle.hearers.specs.Column.{Column}
use Rattle.hearers.proofs.gather.Given as goal

abbrev pub invariant-loop-r : goal.invariant-loop-r
invariant-loop-r l = Column l.n l.r l.coefs l.kinds l.j l.rise l.fall
