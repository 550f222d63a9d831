-- `propagation::search::first_moving`: the rows below the one that the loop stands at leave the box. Assumes nothing.
use Rattle.std.proofs.Common.{ℕ, ◌<◌}
use lib.Dec.{T}
use Rattle.model.specs.Rows.{rows_of}
use Rattle.semantics.specs.FixpointTest.{row_leaves}
use Rattle.propagation.proofs.search.first_moving.Given as goal

abbrev pub invariant-loop-r : goal.invariant-loop-r
invariant-loop-r l = (i : ℕ) → i < l.r → T (row_leaves l.n (rows_of l.coefs l.rhs l.kinds) l.bounds i)
