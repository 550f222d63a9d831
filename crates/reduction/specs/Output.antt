-- What the programs print for an input, as a text (01, "Book"): "It prints `refused N`, or `none`, or: `reduced n m rounds`; .."
-- No kind is printed: a first-edition book has none.
use Rattle.std.specs.Prelude.{◌*◌, ℕ, eqb, replicate, cond, List}
use Rattle.book.specs.Book.{decode}
use Rattle.book.specs.BookChecks.{book_fault}
use Rattle.report.specs.Report.{none_line, refused_line, report}
use Rattle.pages.specs.Page.{pages}
use Rattle.semantics.specs.Run.{run}
use Rattle.model.specs.State.{State}
use Rattle.rounds.specs.Rounds.{RoundsAnswer, at_limit, ended, infeasible, nothing_changed, refused_rounds, run_rounds}
use Rattle.reduction.specs.declared.Form.{Form}
use Rattle.reduction.specs.declared.Form.TheVariants.{Paper, Report}

unfoldable pub zeros : ℕ → List ℕ
zeros k = replicate k 0

-- the model of a book, whose kinds are all 0 (`kinds_of`), with a table all 0 (D-13)
unfoldable pub state_read : List ℕ → State
state_read bs = let M = decode bs in record { model = M; table = zeros (4 * (M.n * M.n)) }

-- what is printed of the model and the table that are left: 01's report; or (02, C-23) "the reduced model on paper"
unfoldable pub left_text : Form → ℕ → State → List ℕ
left_text Report rounds s = report rounds s
left_text Paper rounds s = pages s.model.n s.model.box s.table

-- what is printed of rounds that end so and leave the state s
unfoldable pub text_of : Form → RoundsAnswer → State → List ℕ
text_of form (refused_rounds number) s = refused_line number
text_of form (ended infeasible rounds spent) s = none_line
text_of form (ended nothing_changed rounds spent) s = left_text form rounds s
text_of form (ended at_limit rounds spent) s = left_text form rounds s

-- 01: "It ends after a round that changed nothing, after 8 rounds, or at None."; 02 (C-20) has two programs, one without a limit
unfoldable pub rounds_text : Form → ℕ → State → List ℕ
rounds_text form limit s = text_of form (run_rounds limit s).answer (run s (run_rounds limit s).calls)

-- the whole: refused by the first check of the book that fails, else what its rounds leave. `reduce` prints it with the limit that is
-- none: "It now goes on until a round changes nothing, or None."; "a second program, `reduce8`, still stops at 8 and prints as before".
-- `floor` has the limit that is none too, and paper.
unfoldable pub output_as : Form → ℕ → List ℕ → List ℕ
output_as form limit bs = cond (eqb (book_fault bs) 0) (rounds_text form limit (state_read bs)) (refused_line (book_fault bs))

-- of `reduce` and `reduce8`
abbrev pub output : ℕ → List ℕ → List ℕ
output limit bs = output_as Report limit bs
