-- `sparse::writing::check_writing`: the model's chain of checks, in which the book's length must fit (`sparse-write-answers`).
-- Assumes nothing.
use Rattle.std.proofs.Common.{◌∙◌}
use Rattle.model.specs.Model.{model_of}
use Rattle.model.specs.Rows.{rows_of}
use Rattle.sparse_calls.proofs.SparseCallLaws.{sparse-write-answers}
use Rattle.sparse.proofs.writing.check_writing.Goals as goal

pub returns : goal.returns
returns c =
    let a = c.args in
    let M = model_of a.n a.m a.bounds.now (rows_of a.coefs.now a.rhs.now a.kinds.now) in
    c.check_model.ensures ∙ sparse-write-answers M a.book.now _ c.is_sparse_length-fits.ensures
