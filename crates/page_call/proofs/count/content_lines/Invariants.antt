-- `page_call::count::content_lines`: the lines of the variables so far are counted, 32 at most of each.
use Rattle.page_call.proofs.SheetLaws.{lines_of}
use Rattle.pages.specs.Page.{total}
use mathlib.Core.Path.{◌≡◌}
use Rattle.page_call.proofs.count.content_lines.Given as goal

abbrev pub invariant-loop-k : goal.invariant-loop-k
invariant-loop-k l = l.lines ≡ total l.k (lines_of l.n l.table)
