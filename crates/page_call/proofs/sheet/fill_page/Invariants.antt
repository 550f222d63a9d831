-- `page_call::sheet::fill_page`: the empty lines up to `next` are written.
use Prim.Native.Nat.{◌-◌}
use Rattle.pages.specs.Page.{empty_line}
use Rattle.pages.specs.Writing.{sheet, start}
use Rattle.text.specs.Text.{Wrote}
use lib.ListN.{replicate}
use Rattle.page_call.proofs.sheet.fill_page.Given as goal

abbrev pub invariant-loop-next : goal.invariant-loop-next
invariant-loop-next l =
    Wrote l.initial.buf (start l.line) (sheet l.line (replicate (l.next - l.line) empty_line)) (start l.next) l.buf
