-- `clique_call::listing::is_different`: the rows so far are others. Assumes nothing.
use Prim.Native.Nat.{ℕ}
use lib.IntN.{ℤ}
use mathlib.Core.Bool.{Bool, not, true}
use mathlib.Core.List.{List}
use mathlib.Core.Path.{◌≡◌}
use Rattle.integer.specs.Index.{all}
use Rattle.model.specs.Box.{same_list}
use Rattle.model.specs.Rows.{row_of}
use Rattle.clique_call.proofs.listing.is_different.Given as goal

-- row i is not row k
abbrev pub test : ℕ → List ℤ → ℕ → ℕ → Bool
test n C k i = not (same_list (row_of n C i) (row_of n C k))

abbrev pub invariant-loop-i : goal.invariant-loop-i
invariant-loop-i l = all l.i (test l.n l.coefs l.k) ≡ true
