-- `sparse_checks::entries::row_count`: the two bytes are where the definition has them.
-- Assumes nothing.
use Rattle.sparse_layout.specs.SparseBook.{count_at}
use Rattle.sparse_checks.proofs.entries.row_count.Goals as goal

pub returns : goal.returns
unfolding count_at
returns c = c.read_u16.ensures
