-- `row_marks::unmark`: the invariant says that of the rows so far, those still marked were and read another bound. Assumes nothing.
use Rattle.std.proofs.Common.{◌≡◌, ℕ, ◌+◌, ◌<◌, ◌≤◌, get_or, false}
use Rattle.row_marks.specs.Marks.{reads}
use Rattle.row_marks.proofs.unmark.Given as goal

abbrev pub invariant-loop-r : goal.invariant-loop-r
invariant-loop-r l = record {
  passed : (i : ℕ) → i < l.r → get_or l.marks i 0 ≡ 1
      → (get_or l.initial.marks i 0 ≡ 1) × (reads (get_or l.kinds i 0) (get_or l.signs (l.start + i) 0) l.sign ≡ false);
  ahead : (i : ℕ) → l.r ≤ i → get_or l.marks i 0 ≡ get_or l.initial.marks i 0;
}
