-- `hearers::write_columns`: the sets of the variables so far are written, and nothing else (`columns-more`). Assumes nothing.
use Prim.Native.Nat.{◌*◌, ◌+◌, ◌<◌, ℕ}
use Rattle.prepared_model.specs.Layout.{fall_of, rise_of}
use Rattle.prepared_model.specs.SameBut.{SameBut}
use Rattle.hearers.specs.Column.{Column}
use Rattle.hearers.proofs.write_columns.Given as goal

abbrev pub invariant-loop-j : goal.invariant-loop-j
invariant-loop-j l =
    SameBut 384 (384 + 8 * l.j) l.initial.ws l.ws × ((q : ℕ) → q < l.j → Column l.n l.m l.coefs l.kinds q (rise_of l.ws q) (fall_of l.ws q))
