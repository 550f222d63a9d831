-- `sparse_conversion::read_first`: each call fills its buffer with the book's numbers. Assumes nothing.
use Rattle.std.proofs.Common.{◌*◌, ◌+◌, ℕ, ◌∙◌, ap}
use Rattle.little_endian.specs.Bytes.{integers_at}
use Rattle.book.specs.Book.{bounds_of, rhs_of, row_place}
use Rattle.sparse_conversion.proofs.read_first.Goals as goal

pub returns : goal.returns
unfolding bounds_of rhs_of row_place integers_at
returns c =
    let n = c.args.n in
    let bs = c.args.book.now in
    record {
      bounds_read = c.read_integers.ensures ∙ ap (λ (w : ℕ). integers_at 0 4 w bs) c.requires.lengths.0;
      coefs_read = c.read_coefs.ensures;
      rhs_read = c.read_integers-2.ensures ∙ ap (λ (k : ℕ). integers_at (8 * n) (4 + 4 * n) k bs) c.requires.lengths.2;
    }
