-- `verdicts::judging::hold_row`: the invariant says that the proposals so far are held against the row, and that the others' numbers are
-- as they were.
use Prim.Native.Nat.{ℕ}
use lib.IntN.{ℤ}
use mathlib.Core.List.{List}
use Rattle.model.specs.Rows.{row_with}
use Rattle.proposals.specs.Proposals.{proposal}
use Rattle.proposals.specs.Telling.{held}
use Rattle.proposals.specs.Verdict.{Verdict, meets}
use Rattle.proposals.proofs.TellingLaws.{Halfway}
use Rattle.verdicts.proofs.judging.hold_row.Given as goal

abbrev pub held_at : ℕ → List ℤ → ℤ → ℕ → ℕ → List ℤ → ℕ → Verdict → Verdict
held_at n A b kind i P d v = held i (meets n (row_with A b kind) (proposal n P d)) v

abbrev pub invariant-loop-c : goal.invariant-loop-c
invariant-loop-c l = Halfway l.initial.verdicts l.verdicts l.c (held_at l.n l.coefs l.b l.kind l.i l.proposals)
