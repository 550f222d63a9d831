-- `sparse_reading::read_numbers`: each call fills its buffer with the book's numbers. Assumes nothing.
use Rattle.std.proofs.Common.{ℕ, ◌∙◌, ap, arith}
use Rattle.little_endian.specs.Bytes.{integers_at}
use Rattle.book.specs.Book.{bounds_of}
use Rattle.sparse_layout.specs.SparseBook.{sparse_kinds_of, sparse_rhs_of}
use Rattle.sparse_layout.proofs.SparseTripLaws.{start-within}
use Rattle.sparse_reading.proofs.read_numbers.Goals as goal

pub read_integers-requires : goal.read_integers-requires
read_integers-requires c = λ i h. omega (arith, c.requires.layout.0.body, c.requires.lengths.0, start-within c.args.n c.args.m c.args.book.now)

pub returns : goal.returns
unfolding bounds_of
returns c =
    let n = c.args.n in
    let bs = c.args.book.now in
    record {
      bounds_read = c.read_integers.ensures ∙ ap (λ (w : ℕ). integers_at 0 4 w bs) c.requires.lengths.0;
      coefs_read = c.read_coefs.ensures;
      rhs_read = c.read_rhs.ensures ∙ ap (λ (m : ℕ). sparse_rhs_of n m bs) c.requires.lengths.2;
      kinds_read = c.read_kinds.ensures ∙ ap (λ (m : ℕ). sparse_kinds_of n m bs) c.requires.lengths.3;
    }
