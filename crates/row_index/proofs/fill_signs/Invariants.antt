-- `row_index::fill_signs`: the invariant says that the signs so far are those of the column. Assumes nothing.
use Rattle.std.proofs.Common.{◌≡◌, ℕ, ◌*◌, ◌+◌, ◌<◌, ◌≤◌, ◌⊎◌, get_or}
use Rattle.model.specs.Box.{at}
use Rattle.row_index.specs.Index.{sign_of}
use Rattle.row_index.proofs.fill_signs.Given as goal

abbrev pub invariant-loop-r : goal.invariant-loop-r
invariant-loop-r l =
    ((i : ℕ) → i < l.r → get_or l.signs (l.start + i) 0 ≡ sign_of (at l.coefs (i * l.n + l.j)))
    × ((q : ℕ) → (q < l.start) ⊎ (l.start + l.m ≤ q) → get_or l.signs q 0 ≡ get_or l.initial.signs q 0)
