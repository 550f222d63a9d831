-- `book::layout::row_place`: within the limits of n and i nothing overflows (`place-below`). Assumes nothing.
use mathlib.Core.Path.{refl}
use native.Mathlib.Omega.{arith}
use Rattle.book.specs.Book.{row_place}
use Rattle.book.proofs.EncodeLaws.{place-below}
use Rattle.book.proofs.layout.row_place.Goals as goal

pub overflow_mul-result-3 : goal.overflow_mul-result-3
unfolding row_place
overflow_mul-result-3 c = omega (arith, place-below c.args.n c.args.i c.requires.0 c.requires.1)

pub overflow_add-result-2 : goal.overflow_add-result-2
unfolding row_place
overflow_add-result-2 c = omega (arith, place-below c.args.n c.args.i c.requires.0 c.requires.1)

pub returns : goal.returns
unfolding row_place
returns c = refl
