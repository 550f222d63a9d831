-- `pack::pack_rows`: the words of the rows so far say them, and nothing else was written (`rows_more`). Assumes nothing.
use Prim.Native.Nat.{◌*◌, ◌+◌, ◌<◌, ℕ}
use mathlib.Core.Path.{◌≡◌}
use Rattle.model.specs.Rows.{row_of}
use Rattle.packed_row.specs.Words.{coefs_from}
use Rattle.prepared_model.specs.Layout.{row_words}
use Rattle.prepared_model.specs.SameBut.{SameBut}
use Rattle.pack.proofs.pack_rows.Given as goal

abbrev pub invariant-loop-r : goal.invariant-loop-r
invariant-loop-r l =
    SameBut 1_408 (1_408 + l.r * l.n) l.initial.ws l.ws × ((q : ℕ) → q < l.r → coefs_from (row_words l.n l.ws q) 0 ≡ row_of l.n l.coefs q)
