-- `workspace::keep_box`: so far the numbers in the workspace say the bounds, and nothing else was written. Assumes nothing.
use Rattle.std.proofs.Common.{◌≡◌, ◌+◌, ◌<◌, ℕ, get_or}
use Rattle.model.specs.Box.{at}
use Rattle.prepared_model.specs.Layout.{bound_of}
use Rattle.prepared_model.specs.SameBut.{SameBut}
use Rattle.workspace.proofs.keep_box.Given as goal

abbrev pub invariant-loop-i : goal.invariant-loop-i
invariant-loop-i l =
    SameBut 8 (8 + l.i) l.initial.ws l.ws × ((q : ℕ) → q < l.i → bound_of (get_or l.ws (8 + q) 0) ≡ at l.bounds q)
