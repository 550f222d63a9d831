-- `prepared_box::copy_same`: the numbers so far are copied (`copied-one`), and as long as the flag is true they are those that are kept. Assumes
-- nothing.
use Prim.Native.Nat.{◌+◌, ◌<◌, ◌≤◌, ℕ}
use lib.ListN.{get_or}
use mathlib.Core.Bool.{true}
use mathlib.Core.Path.{◌≡◌}
use Rattle.model.specs.Box.{at}
use Rattle.prepared_model.specs.Layout.{bound_of}
use Rattle.prepared_box.specs.TakenBox.{Copied}
use Rattle.prepared_box.proofs.copy_same.Given as goal

abbrev pub invariant-loop-i : goal.invariant-loop-i
invariant-loop-i l =
    Copied l.from l.i l.new l.initial.seen l.seen
    × (l.same ≡ true → (k : ℕ) → l.from ≤ k → k < l.i → bound_of (get_or l.ws (8 + k) 0) ≡ at l.new k)
