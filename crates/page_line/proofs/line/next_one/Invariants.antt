-- `page_line::line::next_one`: the bytes that it passes over are not 1, so the ones that are left stay the same.
use Rattle.pages.specs.Writing.{ones_from}
use mathlib.Core.Path.{◌≡◌}
use Rattle.page_line.proofs.line.next_one.Given as goal

abbrev pub invariant-loop-i : goal.invariant-loop-i
invariant-loop-i l = ones_from l.part l.i ≡ ones_from l.part l.q
