-- `page_call::sheet::write_variable`: the first line and i further ones are written, and the literals behind theirs are left.
use Prim.Native.Nat.{◌*◌, ◌+◌, ◌≤◌}
use Rattle.pages.specs.Page.{further_lines}
use Rattle.pages.specs.Writing.{ones_from, sheet, start}
use Rattle.text.specs.Text.{Wrote}
use lib.ListN.{drop, length}
use mathlib.Core.Path.{◌≡◌}
use Rattle.page_call.proofs.sheet.write_variable.Given as goal

abbrev pub invariant-loop-i : goal.invariant-loop-i
invariant-loop-i l =
    (l.q ≤ length l.part)
    × (ones_from l.part l.q ≡ drop (8 + 8 * l.i) (ones_from l.part 0))
    × Wrote l.initial.buf (start (l.line + 1)) (sheet (l.line + 1) (further_lines l.i (drop 8 (ones_from l.part 0)))) (start (l.line + 1 + l.i)) l.buf
