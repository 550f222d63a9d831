-- `boxes::copy_box`: the numbers so far are the same. Assumes nothing.
use Prim.Native.Nat.{◌<◌, ℕ}
use lib.IntN.{pos}
use Rattle.std.specs.Prelude.{get_or}
use mathlib.Core.Path.{◌≡◌}
use Rattle.boxes.proofs.copy_box.Given as goal

abbrev pub invariant-loop-i : goal.invariant-loop-i
invariant-loop-i l = record {
  copied : (q : ℕ) → q < l.i → get_or l.to q (pos 0) ≡ get_or l.from q (pos 0);
}
