-- `book::layout::book_length`: the place of row m and the trailer after it. Assumes nothing.
use native.Mathlib.Omega.{arith}
use Rattle.book.specs.Book.{book_length, row_place}
use Rattle.book.proofs.EncodeLaws.{place-below}
use Rattle.book.proofs.layout.book_length.Goals as goal

pub overflow_add-result : goal.overflow_add-result
overflow_add-result c = omega (arith, place-below c.args.n c.args.m c.requires.0 c.requires.1)

pub returns : goal.returns
unfolding row_place book_length
returns c = omega arith
