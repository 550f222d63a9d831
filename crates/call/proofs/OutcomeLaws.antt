-- A call on one row counts by its outcome, whichever call it is: the class that the code gives is the outcome's. Assumes nothing.
use mathlib.Core.Path.{◌≡◌}
use Rattle.row.specs.Outcome.{Outcome, changed, infeasible, unchanged}
use Rattle.call.specs.Classes.{class_is, outcome_class}
use Rattle.call.specs.declared.CallClass.TheVariants.{Changed, Infeasible, Unchanged}

-- x is the code's answer, and f says which outcome it is
module _ {X : Type 0} (f : X → Outcome) {x y : X} (e : x ≡ y) where
  pub counts-infeasible : f y ≡ infeasible → class_is Infeasible ≡ outcome_class (f x)
  unfolding class_is outcome_class
  counts-infeasible o = rw (e, o)

  pub counts-changed : f y ≡ changed → class_is Changed ≡ outcome_class (f x)
  unfolding class_is outcome_class
  counts-changed o = rw (e, o)

  pub counts-unchanged : f y ≡ unchanged → class_is Unchanged ≡ outcome_class (f x)
  unfolding class_is outcome_class
  counts-unchanged o = rw (e, o)
