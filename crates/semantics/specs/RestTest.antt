-- A computable test for a probing fixpoint (01's rest call), what it finds in another box (02, C-13), and the call's own checks.
use Rattle.std.specs.Prelude.{ℕ, ltb, ℤ, Bool, ◌&&◌, ◌||◌, cond, not, true, List}
use Rattle.integer.specs.Index.{all}
use Rattle.model.specs.Box.{is_empty, is_free, same_list}
use Rattle.model.specs.Checks.{model_fault, none}
use Rattle.model.specs.Rows.{Rows}
use Rattle.model.specs.State.{State}
use Rattle.semantics.specs.CallChecks.{max_budget}
use Rattle.semantics.specs.FixpointTest.{first_moving, is_fixpoint}
use Rattle.semantics.specs.Lowest.{lowest}
use Rattle.semantics.specs.Probe.{fix, hull}
use Rattle.semantics.specs.Propagate.{is_none, propagate}

-- both sides of k, propagated to their end, are not empty and span the box
unfoldable pub sides_span : ℕ → ℕ → Rows → List ℤ → ℕ → Bool
sides_span n m A B k =
    not (is_none (propagate max_budget n m A (fix n B k 0)).ending)
    && not (is_none (propagate max_budget n m A (fix n B k 1)).ending)
    && same_list (hull n (propagate max_budget n m A (fix n B k 0)).box (propagate max_budget n m A (fix n B k 1)).box) B

-- the same where k is free 0-1; of another variable nothing is asked
abbrev pub spans_at : ℕ → ℕ → Rows → List ℤ → ℕ → Bool
spans_at n m A B k = not (is_free B k) || sides_span n m A B k

-- "The rest call says yes exactly when the box is at rest": the largest budget is never spent (`propagate-ends`)
unfoldable pub is_probing_fixpoint : ℕ → ℕ → Rows → List ℤ → Bool
is_probing_fixpoint n m A B = is_empty n B || (is_fixpoint n m A B && all n (spans_at n m A B))

-- ---- what a no carries

-- 02 (C-13): "the lowest free 0-1 variable whose two sides fail 01's test"; n where none does
unfoldable pub first_unspanned : ℕ → ℕ → Rows → List ℤ → ℕ
first_unspanned n m A B = lowest n (spans_at n m A B)

-- "The yes or no stays, and a no now carries what it found": a row or a variable
pub data Rest : Type 0 where
  at_rest : Rest
  by_row by_variable : ℕ → Rest

-- "the lowest row whose visit changes the box or, if none does, the lowest free 0-1 variable whose two sides fail 01's test". The
-- void box is at rest. It is `at_rest` exactly where `is_probing_fixpoint` is true (`rest-yes`).
unfoldable pub rest_of : ℕ → ℕ → Rows → List ℤ → Rest
rest_of n m A B =
    cond (is_empty n B) at_rest
    (cond (ltb (first_moving n m A B) m) (by_row (first_moving n m A B))
    (cond (ltb (first_unspanned n m A B) n) (by_variable (first_unspanned n m A B)) at_rest))

-- ---- the checks

-- the rest call is lent no table: the checks of the model alone
unfoldable pub rest_fault : State → ℕ
rest_fault s = model_fault s.model none true
