-- `book::layout::check_given_length`: the comparison is the test of check 2. Assumes nothing.
use Rattle.std.proofs.Common.{◌∙◌, sym}
use borrow.Author.Tests.{eq-eqb, ne_eqb}
use Rattle.model.proofs.CheckLaws.{ends, fails, past}
use Rattle.book.specs.BookChecks.{given_length_checks}
use Rattle.book.proofs.layout.check_given_length.Goals as goal

pub returns-then-read_u32-len : goal.returns-then-read_u32-len
unfolding given_length_checks
returns-then-read_u32-len c = fails _ 2 _ (ne_eqb _ _ (λ e. c.if-read_u32-len.true (c.read_u32.ensures ∙ e)))

pub returns : goal.returns
unfolding given_length_checks
returns c = past _ 2 _ (eq-eqb _ _ (sym c.read_u32.ensures ∙ c.if-read_u32-len.false)) ends
