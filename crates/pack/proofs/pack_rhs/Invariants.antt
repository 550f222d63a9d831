-- `pack::pack_rhs`: so far the numbers say the right sides and the kinds, and nothing else was written. Assumes nothing.
use Prim.Native.Nat.{◌+◌, ◌%◌, ◌<◌, ℕ}
use lib.ListN.{get_or}
use mathlib.Core.Path.{◌≡◌}
use Rattle.model.specs.Box.{at}
use Rattle.packed_row.specs.Words.{rhs_of}
use Rattle.prepared_model.specs.Layout.{rhs_word_of}
use Rattle.prepared_model.specs.SameBut.{SameBut}
use Rattle.pack.proofs.pack_rhs.Given as goal

abbrev pub invariant-loop-r : goal.invariant-loop-r
invariant-loop-r l =
    SameBut 264 (264 + l.r) l.initial.ws l.ws
    × ((q : ℕ) → q < l.r → (rhs_of (rhs_word_of l.ws q) ≡ at l.rhs q) × (rhs_word_of l.ws q % 2 ≡ get_or l.kinds q 0))
