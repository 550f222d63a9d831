-- `plan::bounds::sum_of_spans`: the invariant says that the sum is that of the variables so far, and at most 4,096 for each.
use Prim.Native.Nat.{◌*◌, ◌≤◌, ℕ}
use lib.IntN.{◌-ℤ◌, pos, ℤ}
use mathlib.Core.List.{List}
use mathlib.Core.Path.{◌≡◌}
use Rattle.integer.specs.Index.{sum as total}
use Rattle.model.specs.Box.{lower, upper}
use Rattle.plan.proofs.bounds.sum_of_spans.Given as goal

abbrev pub span_at : List ℤ → ℕ → ℤ
span_at B j = upper B j -ℤ lower B j

abbrev pub invariant-loop-j : goal.invariant-loop-j
invariant-loop-j l = (pos l.sum ≡ total l.j (span_at l.bounds)) × (l.sum ≤ l.j * 4_096)
