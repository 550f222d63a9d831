-- `tied_row::tie_rows`: before row i the rows below it are done, and row i is still the old one. Assumes nothing.
use mathlib.Core.Path.{◌≡◌}
use Rattle.ties.specs.TiedRow.{tie_coefs_to, tie_rhs_to}
use Rattle.tied_row.proofs.tie_rows.Given as goal

abbrev pub invariant-loop-i : goal.invariant-loop-i
invariant-loop-i l =
    (l.coefs ≡ tie_coefs_to l.i l.n l.k l.j l.w l.initial.coefs) × (l.rhs ≡ tie_rhs_to l.i l.n l.j l.w l.initial.coefs l.initial.rhs)
