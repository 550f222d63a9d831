-- `tied_row::rows_fit`: the rows so far fit. Assumes nothing.
use Prim.Native.Nat.{ℕ}
use lib.IntN.{ℤ}
use mathlib.Core.Bool.{Bool, true}
use mathlib.Core.List.{List}
use mathlib.Core.Path.{◌≡◌}
use Rattle.integer.specs.Index.{all}
use Rattle.model.specs.Box.{at}
use Rattle.model.specs.Rows.{row_of}
use Rattle.ties.specs.TiedRow.{row_fits}
use Rattle.tied_row.proofs.rows_fit.Given as goal

abbrev pub test : ℕ → List ℤ → List ℤ → ℕ → ℕ → ℕ → ℕ → Bool
test n C R k j w i = row_fits k j w (row_of n C i) (at R i)

abbrev pub invariant-loop-i : goal.invariant-loop-i
invariant-loop-i l = all l.i (test l.n l.coefs l.rhs l.k l.j l.w) ≡ true
