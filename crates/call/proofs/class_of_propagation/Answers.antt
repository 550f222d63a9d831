-- `call::class_of_propagation`: each ending has its class; Converged and BudgetSpent by the number of bounds moved. Assumes nothing.
use lib.Dec.{eqb}
use mathlib.Core.Logic.{⊎_elim}
use Rattle.integer.proofs.Tests.{eqb-test, test-false}
use Rattle.call.specs.Classes.{class_is, propagation_class}
use Rattle.call.proofs.class_of_propagation.Goals as goal

pub returns-in-Infeasible : goal.returns-in-Infeasible
unfolding class_is propagation_class
returns-in-Infeasible c = rw c.in-Infeasible.is

pub returns-then-moved-eq0 : goal.returns-then-moved-eq0
unfolding class_is propagation_class
returns-then-moved-eq0 c =
    ⊎_elim (λ w. rw (w.1, c.if-moved-eq0.true)) (λ w. rw (w.1, c.if-moved-eq0.true)) c.in-Converged.is

pub returns-else-moved-eq0 : goal.returns-else-moved-eq0
unfolding class_is propagation_class
returns-else-moved-eq0 c =
    let e = test-false (eqb c.in-Converged.moved 0) (eqb-test _ 0) c.if-moved-eq0.false in
    ⊎_elim (λ w. rw (w.1, e)) (λ w. rw (w.1, e)) c.in-Converged.is
