-- `book_writing::check_first_edition`: what the call says is the test of the check. Assumes nothing.
use Rattle.std.proofs.Common.{sym}
use Rattle.model.proofs.CheckLaws.{ends, fails, past}
use Rattle.book.specs.BookChecks.{first_edition_checks}
use Rattle.book_writing.proofs.check_first_edition.Goals as goal

pub returns-then-not-are_inequalities : goal.returns-then-not-are_inequalities
unfolding first_edition_checks
returns-then-not-are_inequalities c = fails _ 17 _ (sym c.if-not-are_inequalities.ensures)

pub returns : goal.returns
unfolding first_edition_checks
returns c = past _ 17 _ (sym c.if-not-are_inequalities.ensures) ends
