-- `book_writing::check_writing`: the model's chain of checks, in which the book's length must fit (`write-answers`), and past it
-- check 17. Assumes nothing.
use Rattle.std.proofs.Common.{◌∙◌, eqb, length, List, ℕ}
use Rattle.std.proofs.lemmas.Result.{err_from_is_err_and}
use Rattle.model.specs.Checks.{Check, model_checks, none}
use Rattle.model.specs.Model.{Model, model_of}
use Rattle.model.specs.Rows.{rows_of}
use Rattle.model.proofs.CheckLaws.{accepts, refuses}
use Rattle.book.specs.Answers.{write_fault}
use Rattle.book.specs.Book.{book_length}
use Rattle.book.specs.BookChecks.{first_edition_checks, write_checks}
use Rattle.book.proofs.AcceptLaws.{model-numbered, write-answers}
use Rattle.book_writing.proofs.check_writing.Goals as goal

-- the chain of checks of the model that is lent
abbrev chain : Model → List ℕ → List Check
chain M bs = model_checks M none (eqb (length bs) (book_length M.n M.m))

-- `check_model` answers for it
pub returns-in_err-check_model : goal.returns-in_err-check_model
unfolding write_fault write_checks
returns-in_err-check_model c =
    let a = c.args in
    let M = model_of a.n a.m a.bounds.now (rows_of a.coefs.now a.rhs.now a.kinds.now) in
    let p = err_from_is_err_and c.from_residual.result c.from_residual.ensures.1 in
    rw (p.1, p.2)
    (refuses (chain M a.book.now) _ _ (c.in_err-check_model.ensures ∙ write-answers M a.book.now _ c.is_book_length-fits.ensures))

pub returns : goal.returns
unfolding write_fault write_checks
returns c =
    let a = c.args in
    let M = model_of a.n a.m a.bounds.now (rows_of a.coefs.now a.rhs.now a.kinds.now) in
    accepts (chain M a.book.now) (first_edition_checks a.kinds.now) (model-numbered M _)
    (c.in_ok-check_model.ensures ∙ write-answers M a.book.now _ c.is_book_length-fits.ensures) c.check_first_edition.ensures
