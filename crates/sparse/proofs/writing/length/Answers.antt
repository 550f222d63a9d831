-- `sparse::writing::length`: the model's chain of checks, and then the length, in which only the coefficients have a part.
-- Assumes nothing.
use Rattle.std.proofs.Common.{◌∙◌, ap, sym}
use Rattle.std.proofs.lemmas.Result.{err_from_is_err_and}
use Rattle.model.specs.Model.{model_of}
use Rattle.model.specs.Rows.{rows_of}
use Rattle.model.proofs.CheckLaws.{fault-none}
use Rattle.model.proofs.RefusalLaws.{number_of-ne0}
use Rattle.sparse_layout.specs.SparseBook.{sparse_length}
use Rattle.sparse_layout.proofs.WritingLaws.{length-coefs}
use Rattle.sparse_calls.specs.SparseCalls.{bytes_are, length_answer, sparse_length_call}
use Rattle.sparse_calls.proofs.SparseCallLaws.{length-accepted, length-refused}
use Rattle.sparse.proofs.writing.length.Goals as goal

pub returns-in_err-check_model : goal.returns-in_err-check_model
unfolding length_answer sparse_length_call
returns-in_err-check_model c =
    let p = err_from_is_err_and c.from_residual.result c.from_residual.ensures.1 in
    rw (p.1, p.2) (length-refused c.in_err-check_model.ensures (number_of-ne0 _) _)

-- no check fails, so the model is valid
pub sparse_length-requires : goal.sparse_length-requires
sparse_length-requires c = let v = (fault-none _).0 (sym c.in_ok-check_model.ensures) in (v.few, v.few_rows, v.coefs_len)

pub returns : goal.returns
unfolding length_answer sparse_length_call
returns c =
    let a = c.args in
    let M = model_of a.n a.m a.bounds.now (rows_of a.coefs.now a.rhs.now a.kinds.now) in
    ap bytes_are (c.sparse_length.ensures ∙ length-coefs M) ∙ length-accepted (sym c.in_ok-check_model.ensures) (sparse_length M)
