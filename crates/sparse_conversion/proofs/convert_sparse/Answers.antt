-- `sparse_conversion::convert_sparse`: what is read is the book's model, and it is what is written. Assumes nothing.
use Rattle.std.proofs.Common.{◌∙◌, ◌≡◌, ap}
use Rattle.model.specs.Model.{Model, model_of}
use Rattle.model.specs.Rows.{rows_of}
use Rattle.book.specs.Answers.{book_written, write_call}
use Rattle.sparse_layout.specs.SparseBook.{sparse_model_in}
use Rattle.sparse_conversion.proofs.convert_sparse.Goals as goal

pub returns : goal.returns
unfolding sparse_model_in
returns c =
    let a = c.args in
    let r = c.read_numbers.new in
    let e = c.read_numbers.ensures in
    let same : model_of a.n a.m r.bounds (rows_of r.coefs r.rhs r.kinds) ≡ sparse_model_in a.n a.m a.from.now =
    rw (e.bounds_read, e.coefs_read, e.rhs_read, e.kinds_read) in
    let cs = a.to.now in
    record {
      answer = c.write.ensures.answer ∙ ap (λ (M : Model). write_call M cs) same;
      book_written = c.write.ensures.book_written ∙ ap (λ (M : Model). book_written M cs) same;
    }
