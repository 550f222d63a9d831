-- `search::first_moving`: where the rows that are not to be looked at are calm, the rows below the one that the loop stands at leave the
-- box. Assumes nothing.
use Rattle.std.proofs.Common.{◌-◌, ◌≤◌}
use lib.Dec.{T}
use Rattle.integer.specs.Index.{all}
use Rattle.prepared_model.specs.Layout.{decode}
use Rattle.row_set.specs.Readers.{Calm}
use Rattle.semantics.specs.FixpointTest.{row_leaves}
use Rattle.prepared_propagation.proofs.search.first_moving.Given as goal

abbrev pub invariant-loop-r : goal.invariant-loop-r
invariant-loop-r l = (l.r ≤ l.m) × (Calm l.n l.m (decode l.n l.m l.ws) l.bounds l.dirty → T (all l.r (row_leaves l.n (decode l.n l.m l.ws) l.bounds)))

abbrev pub decreases-loop-r : goal.decreases-loop-r
decreases-loop-r l = l.m - l.r
