-- Propagate (01's settle): passes over the rows until nothing moves, the budget is spent or a row is infeasible.
use Rattle.std.specs.Prelude.{◌+◌, suc, zero, ℕ, ltb, ℤ, Bool, cond, false, true, List}
use Rattle.model.specs.Box.{is_empty}
use Rattle.model.specs.Rows.{Rows, row_at}
use Rattle.row.specs.Outcome.{is_infeasible}
use Rattle.row.specs.Kinds.{propagate_row_of}
use Rattle.row.specs.Propagation.{PropagatedRow}
use Rattle.semantics.specs.FixpointTest.{first_moving}

-- a pass, as far as it has come: whether a row answered None, how many bounds its rows moved, and the box
pub record Pass : Type 0 where
  pub ended : Bool
  pub moved : ℕ
  pub box : List ℤ

-- "A pass ends at the first row that answers None": after that, no row changes it
unfoldable pub pass_row : Pass → PropagatedRow → Pass
pass_row p v =
    cond p.ended p (record { ended = is_infeasible v.outcome; moved = p.moved + v.moved; box = v.box })

-- "a pass visits rows 0 to m − 1": the pass over rows 0 to i − 1 of A, each by its kind
unfoldable pub pass_to : ℕ → ℕ → Rows → List ℤ → Pass
pass_to n zero A B = record { ended = false; moved = 0; box = B }
pass_to n (suc i) A B = pass_row (pass_to n i A B) (propagate_row_of n (row_at n A i) (pass_to n i A B).box)

-- how a settle ends: None, Settled, Spent
pub data Ending : Type 0 where
  infeasible converged budget_spent : Ending

-- "The answer carries the passes made". 02 (C-11): "A settle carries the sum over its visits, including those of a pass that ended
-- in None."
pub record Propagated : Type 0 where
  pub ending : Ending
  pub passes : ℕ
  pub moved : ℕ
  pub box : List ℤ

-- how a settle ends whose budget's passes are made, the last of which moved a bound. 02 (C-15): "From now on any other answer [than
-- None] is Spent exactly when the budget's passes are made and some visit would still move a bound or answer None; otherwise it is
-- Settled." A look at the rows, which is no pass and moves nothing, decides.
unfoldable pub last_look : ℕ → ℕ → Rows → List ℤ → Ending
last_look n m A B = cond (ltb (first_moving n m A B) m) budget_spent converged

-- `left` passes may still be made, `made` are made and moved `sum` bounds; the last of them moved one, or there was none yet.
-- 01: "None; Settled, when the last pass moved nothing; Spent, exactly when the budget's passes are made and the last moved a bound."
-- The last half sentence is 02's now (C-15). A pass that None breaks off counts as made.
unfoldable pub propagate_from : (left made sum : ℕ) → ℕ → ℕ → Rows → List ℤ → Propagated
propagate_from zero made sum n m A B = record { ending = last_look n m A B; passes = made; moved = sum; box = B }
propagate_from (suc left) made sum n m A B =
    let p = pass_to n m A B in
    let again : Propagated = propagate_from left (suc made) (sum + p.moved) n m A p.box in
    cond p.ended (record { ending = infeasible; passes = suc made; moved = sum + p.moved; box = p.box })
    (cond (ltb 0 p.moved) again (record { ending = converged; passes = suc made; moved = sum; box = p.box }))

-- "On the void box all five calls answer None (a settle with 1 pass ..) and change nothing."
-- "With m = 0 a box that is not void is Settled after 1": its one pass moves nothing.
unfoldable pub propagate : ℕ → ℕ → ℕ → Rows → List ℤ → Propagated
propagate budget n m A B =
    cond (is_empty n B) (record { ending = infeasible; passes = 1; moved = 0; box = B }) (propagate_from budget 0 0 n m A B)

unfoldable pub is_none : Ending → Bool
is_none infeasible = true
is_none converged = false
is_none budget_spent = false

unfoldable pub is_spent : Ending → Bool
is_spent infeasible = false
is_spent converged = false
is_spent budget_spent = true
