-- `page_line::line::write_slots`: after j turns j literals are written, and those from the j-th on are left.
use Prim.Native.Nat.{◌*◌, ◌+◌, ◌≤◌}
use Rattle.pages.specs.Page.{slots}
use Rattle.pages.specs.Writing.{ones_from}
use Rattle.text.specs.Text.{Wrote}
use lib.ListN.{drop, length}
use mathlib.Core.Path.{◌≡◌}
use Rattle.page_line.proofs.line.write_slots.Given as goal

abbrev pub invariant-loop-j : goal.invariant-loop-j
invariant-loop-j l =
    (l.next ≤ length l.part) × (ones_from l.part l.next ≡ drop l.j (ones_from l.part l.q)) ×
    Wrote l.initial.buf l.at (slots l.j (ones_from l.part l.q)) (l.at + 6 * l.j) l.buf
