-- `page_call::sheet::write_all`: the lines of the variables below k are written; with the empty ones they are the pages.
use Rattle.page_call.proofs.SheetLaws.{lines_of, lines_upto}
use Rattle.pages.specs.Page.{total}
use Rattle.pages.specs.Writing.{sheet, start}
use Rattle.text.specs.Text.{Wrote}
use mathlib.Core.Path.{◌≡◌}
use Rattle.page_call.proofs.sheet.write_all.Given as goal

abbrev pub invariant-loop-k : goal.invariant-loop-k
invariant-loop-k l =
    (l.line ≡ total l.k (lines_of l.n l.table)) × Wrote l.initial.buf 0 (sheet 0 (lines_upto l.n l.bounds l.table l.k)) (start l.line) l.buf
