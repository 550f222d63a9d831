-- What the enum that the code returns stands for in the semantics.
use Rattle.std.specs.Prelude.{ℤ, List}
use Rattle.semantics.specs.Propagate as ended
use Rattle.propagation.specs.declared.Propagation.{Propagation}
use Rattle.propagation.specs.declared.Propagation.TheVariants.{Infeasible, Converged, BudgetSpent}

-- 01's None, Settled, Spent with the passes, the bounds moved and the box that is left
unfoldable pub propagation_of : Propagation → List ℤ → ended.Propagated
propagation_of (Infeasible p k) B = record { ending = ended.infeasible; passes = p; moved = k; box = B }
propagation_of (Converged p k) B = record { ending = ended.converged; passes = p; moved = k; box = B }
propagation_of (BudgetSpent p k) B = record { ending = ended.budget_spent; passes = p; moved = k; box = B }
