-- `row_activity::minimum_activity` is min_activity: the invariant says that the sum is that of the terms so far.
-- Assumes nothing.
use Prim.Native.Nat.{ℕ}
use lib.IntN.{ℤ}
use mathlib.Core.List.{List}
use mathlib.Core.Path.{◌≡◌}
use Rattle.integer.specs.Index.{sum as total}
use Rattle.model.specs.Box.{at, lower, upper}
use Rattle.row.specs.Activity.{min_term}
use Rattle.row_activity.proofs.minimum_activity.Given as goal

abbrev pub term_at : List ℤ → List ℤ → ℕ → ℤ
term_at A B j = min_term (at A j) (lower B j) (upper B j)

abbrev pub invariant-loop-j : goal.invariant-loop-j
invariant-loop-j l = l.sum ≡ total l.j (term_at l.coefs l.bounds)
