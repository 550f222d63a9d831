-- `rest::first_unspanned_marked`: the sides of the variables below k span the box where they are free. Assumes nothing.
use Rattle.std.proofs.Common.{◌≡◌, true}
use Rattle.integer.specs.Index.{all}
use Rattle.model.specs.Rows.{rows_of}
use Rattle.row_index.specs.Index.{Index}
use Rattle.semantics.specs.RestTest.{spans_at}
use Rattle.rest.proofs.first_unspanned_marked.Given as goal

abbrev pub invariant-loop-k : goal.invariant-loop-k
invariant-loop-k l = record {
  span : all l.k (spans_at l.n l.m (rows_of l.coefs l.rhs l.kinds) l.bounds) ≡ true;
  index : Index l.n l.m l.coefs l.across l.signs;
}
