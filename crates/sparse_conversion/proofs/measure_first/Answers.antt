-- `sparse_conversion::measure_first`: what is read is the book's model, and its length is the answer. Assumes nothing.
use Rattle.std.proofs.Common.{◌∙◌, ◌≡◌, ap}
use Rattle.model.specs.Model.{model_of}
use Rattle.model.specs.Rows.{rows_of}
use Rattle.book.specs.Book.{model_in}
use Rattle.sparse_calls.specs.SparseCalls.{sparse_length_call}
use Rattle.sparse_conversion.proofs.measure_first.Goals as goal

pub returns : goal.returns
unfolding model_in
returns c =
    let a = c.args in
    let r = c.read_first.new in
    let e = c.read_first.ensures in
    let same : model_of a.n a.m r.bounds (rows_of r.coefs r.rhs a.kinds.now) ≡ model_in a.n a.m a.from.now =
    rw (e.bounds_read, e.coefs_read, e.rhs_read, c.requires.inequalities) in
    c.length.ensures ∙ ap sparse_length_call same
