-- `allocation_input::book_end`: the first place that splits the input, else the first that ends a book.
use mathlib.Core.Path.{◌∙◌}
use native.Mathlib.Omega.{arith}
use Rattle.allocation_input.proofs.InputLaws.{end-first, end_whole}
use Rattle.allocation_input.proofs.book_end.Goals as goal

pub returns-then-end-input : goal.returns-then-end-input
returns-then-end-input c = c.whole_end-end.ensures ∙ end_whole _ (omega (arith, c.whole_end-end.ensures, c.if-end-input.true))

pub returns : goal.returns
returns c = c.first_end.ensures ∙ end-first _ (omega (arith, c.whole_end-end.ensures, c.if-end-input.false))
