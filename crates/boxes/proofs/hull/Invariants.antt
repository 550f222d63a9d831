-- `boxes::hull`: the loop writes the lesser of the lower and the greater of the upper bounds of one variable after the
-- other (`write_to`). Assumes nothing.
use Prim.Native.Nat.{ℕ}
use lib.IntN.{ℤ}
use mathlib.Core.List.{List}
use mathlib.Core.Path.{◌≡◌}
use Rattle.integer.specs.Order.{max_z, min_z}
use Rattle.model.specs.Box.{lower, upper}
use Rattle.model.proofs.BoxLoops.{write_to}
use Rattle.boxes.proofs.hull.Given as goal

abbrev pub lows : List ℤ → List ℤ → ℕ → ℤ
lows P Q j = min_z (lower P j) (lower Q j)

abbrev pub highs : List ℤ → List ℤ → ℕ → ℤ
highs P Q j = max_z (upper P j) (upper Q j)

abbrev pub invariant-loop-j : goal.invariant-loop-j
invariant-loop-j l =
    l.bounds ≡ write_to l.j (lows l.zero l.one) (highs l.zero l.one) l.initial.bounds
