-- `sparse::writing::is_sparse_length`: within the limits, and of m · n coefficients, the length is computed and compared.
-- Assumes nothing.
use Rattle.std.proofs.Common.{sym}
use borrow.Author.Tests.{eqb-true}
use Rattle.book.proofs.AcceptLaws.{size-passed}
use Rattle.sparse.proofs.writing.is_sparse_length.Goals as goal

pub sparse_length-requires : goal.sparse_length-requires
sparse_length-requires c =
    let h = size-passed _ _ (sym c.in-Ok.ensures) in
    (h.1, h.2, eqb-true _ _ (sym c.if-is_product.ensures))
