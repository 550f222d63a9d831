-- How a call counts, behind the enums that the code returns.
use Rattle.std.specs.Prelude.{eqb, cond}
use Rattle.model.specs.Refusals.{number_of}
use Rattle.row.specs.Outcome.{Outcome, changed, infeasible, unchanged}
use Rattle.semantics.specs.Run as runs
use Rattle.propagation.specs.declared.Propagation.{Propagation}
use Rattle.propagation.specs.declared.Propagation.TheVariants as passes
use Rattle.call.specs.declared.Counts.{Counts}
use Rattle.call.specs.declared.CallClass.{CallClass}
use Rattle.call.specs.declared.CallClass.TheVariants.{Refused, Infeasible, Changed, Unchanged}

unfoldable pub class_is : CallClass → runs.CallClass
class_is (Refused r) = runs.refused_call (number_of r)
class_is Infeasible = runs.infeasible_call
class_is Changed = runs.changed_call
class_is Unchanged = runs.unchanged_call

-- a call on one row, by its outcome
unfoldable pub outcome_class : Outcome → runs.CallClass
outcome_class infeasible = runs.infeasible_call
outcome_class changed = runs.changed_call
outcome_class unchanged = runs.unchanged_call

-- a propagation changed a bound if it moved one
unfoldable pub propagation_class : Propagation → runs.CallClass
propagation_class (passes.Infeasible p k) = runs.infeasible_call
propagation_class (passes.Converged p k) = cond (eqb k 0) runs.unchanged_call runs.changed_call
propagation_class (passes.BudgetSpent p k) = cond (eqb k 0) runs.unchanged_call runs.changed_call

-- refused, None, changed, unchanged
unfoldable pub counts_of : Counts → runs.Counts
counts_of k = record { refusals = k.refused; infeasibles = k.infeasible; changes = k.changed; unchanges = k.unchanged }
