-- `tie_call::places_fit`: the flag is `all` of the tests made so far. Assumes nothing.
use Prim.Native.Nat.{◌*◌, ℕ}
use lib.Dec.{leb}
use lib.ListN.{get_or}
use mathlib.Core.Bool.{Bool}
use mathlib.Core.List.{List}
use mathlib.Core.Path.{◌≡◌}
use Rattle.integer.specs.Index.{all}
use Rattle.tie_call.proofs.places_fit.Given as goal

abbrev pub test : ℕ → List ℕ → ℕ → Bool
test n ties i = leb (get_or ties i 0) (2 * n)

abbrev pub invariant-loop-place : goal.invariant-loop-place
invariant-loop-place l = l.ok ≡ all l.place-index (test l.n l.ties)
