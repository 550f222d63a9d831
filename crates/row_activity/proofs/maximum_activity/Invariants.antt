-- `row_activity::maximum_activity` is max_activity: the mirror of `minimum_activity`, each term with its bounds exchanged.
-- Assumes nothing.
use Prim.Native.Nat.{ℕ}
use lib.IntN.{ℤ}
use mathlib.Core.List.{List}
use mathlib.Core.Path.{◌≡◌}
use Rattle.integer.specs.Index.{sum as total}
use Rattle.model.specs.Box.{at, lower, upper}
use Rattle.row.specs.Activity.{max_term}
use Rattle.row_activity.proofs.maximum_activity.Given as goal

abbrev pub term_at : List ℤ → List ℤ → ℕ → ℤ
term_at A B j = max_term (at A j) (lower B j) (upper B j)

abbrev pub invariant-loop-j : goal.invariant-loop-j
invariant-loop-j l = l.sum ≡ total l.j (term_at l.coefs l.bounds)
