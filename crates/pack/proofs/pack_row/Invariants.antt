-- `pack::pack_row`: the words from coefficient j on say the rest of the row, whether its first zeros are skipped or not (`row_more`,
-- `row_zero`). Assumes nothing.
use Prim.Native.Nat.{◌+◌, ◌-◌, ◌≤◌}
use lib.ListN.{drop, length, take}
use mathlib.Core.Path.{◌≡◌}
use Rattle.packed_row.specs.Words.{coefs_from}
use Rattle.prepared_model.specs.SameBut.{SameBut}
use Rattle.pack.proofs.pack_row.Given as goal

abbrev pub invariant-loop-j : goal.invariant-loop-j
invariant-loop-j l =
    (l.zeros + l.j ≤ length l.coefs)
    × SameBut l.place (l.place + length l.coefs) l.initial.ws l.ws
    × (coefs_from (take (length l.coefs - l.j) (drop (l.place + l.j) l.ws)) l.zeros ≡ drop l.j l.coefs)
    × (coefs_from (take (length l.coefs - l.j) (drop (l.place + l.j) l.ws)) 0 ≡ drop l.j l.coefs)
