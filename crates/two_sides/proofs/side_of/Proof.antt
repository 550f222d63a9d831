-- `two_sides::side_of`: each variant's answer is what side_of reports of it. Assumes nothing.
use borrow.Author.Rules.{rules}
use mathlib.Core.List.{[]}
use mathlib.Core.Path.{ap, sym}
use Rattle.semantics.specs.Probe.{side_of}
use Rattle.semantics.specs.Propagate.{is_spent}
use Rattle.propagation.specs.Results.{propagation_of}
use Rattle.two_sides.specs.Results.{report_of}
use Rattle.two_sides.proofs.side_of.Statement.{statement}
use Rattle.two_sides.proofs.side_of.Tie as tie

enum-known-p : tie.Need-enum_known-p
enum-known-p c = search rules

enum-known-p-2 : tie.Need-enum_known-p-in-Converged-1
enum-known-p-2 c = search rules

enum-known-p-3 : tie.Need-enum_known-p-in-BudgetSpent-1
enum-known-p-3 c = search rules

returns : tie.Need-returns-in-Infeasible
unfolding side_of propagation_of report_of is_spent
returns c = ap (λ p. side_of (propagation_of p [])) (sym c.in-Infeasible.is)

returns-2 : tie.Need-returns-in-Converged
unfolding side_of propagation_of report_of is_spent
returns-2 c = ap (λ p. side_of (propagation_of p [])) (sym c.in-Converged.is)

returns-3 : tie.Need-returns-in-BudgetSpent
unfolding side_of propagation_of report_of is_spent
returns-3 c = ap (λ p. side_of (propagation_of p [])) (sym c.in-BudgetSpent.is)

pub side_of_spec : {M : Type 1} → statement M
side_of_spec =
    tie.close (tie.spec enum-known-p enum-known-p-2 enum-known-p-3 returns returns-2 returns-3)
