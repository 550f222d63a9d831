-- The starred worked books of 01 about one row, as one table with one test (`worked-books-agree`). Variables are free 0-1 unless a
-- box is given.
use Rattle.std.specs.Prelude.{eqb, negsuc, pos, ℤ, length, Bool, ◌&&◌, false, true, List, [], ◌∷◌}
use Rattle.integer.specs.Order.{eq_z}
use Rattle.model.specs.Box.{same_list}
use Rattle.row.specs.Outcome.{Outcome, changed, infeasible, unchanged}
use Rattle.row.specs.Propagation.{PropagatedRow, propagate_row}
use Rattle.row.specs.Redundancy.{remove_redundant_row}
use Rattle.row.specs.Tightening.{NewRow, tighten_coefficient}

-- a call on a row (coefficients, right side, box), and what 01 says it gives
pub data WorkedBook : Type 0 where
  propagation : List ℤ → ℤ → List ℤ → PropagatedRow → WorkedBook
  tightening_at_first : List ℤ → ℤ → List ℤ → NewRow → WorkedBook
  removal : List ℤ → ℤ → List ℤ → NewRow → WorkedBook

unfoldable pub same_outcome : Outcome → Outcome → Bool
same_outcome infeasible infeasible = true
same_outcome changed changed = true
same_outcome unchanged unchanged = true
same_outcome infeasible changed = false
same_outcome infeasible unchanged = false
same_outcome changed infeasible = false
same_outcome changed unchanged = false
same_outcome unchanged infeasible = false
same_outcome unchanged changed = false

unfoldable pub same_propagated : PropagatedRow → PropagatedRow → Bool
same_propagated p q = same_outcome p.outcome q.outcome && eqb p.moved q.moved && same_list p.box q.box

unfoldable pub same_row : NewRow → NewRow → Bool
same_row p q = same_outcome p.outcome q.outcome && same_list p.coefs q.coefs && eq_z p.rhs q.rhs

unfoldable pub agrees : WorkedBook → Bool
agrees (propagation A b B r) = same_propagated (propagate_row (length A) A b B) r
agrees (tightening_at_first A b B r) = same_row (tighten_coefficient (length A) A b B 0) r
agrees (removal A b B r) = same_row (remove_redundant_row (length A) A b B) r

unfoldable pub all_agree : List WorkedBook → Bool
all_agree [] = true
all_agree (w ∷ ws) = agrees w && all_agree ws

unfoldable pub binary2 : List ℤ
binary2 = pos 0 ∷ pos 1 ∷ pos 0 ∷ pos 1 ∷ []

unfoldable pub worked_books : List WorkedBook
worked_books =
    -- 2x ≤ 5, x 0..5: visit gives 0..2; again, Same
    propagation (pos 2 ∷ []) (pos 5) (pos 0 ∷ pos 5 ∷ []) (record { outcome = changed; moved = 1; box = pos 0 ∷ pos 2 ∷ [] })
    ∷ propagation (pos 2 ∷ []) (pos 5) (pos 0 ∷ pos 2 ∷ []) (record { outcome = unchanged; moved = 0; box = pos 0 ∷ pos 2 ∷ [] })
    -- −2x ≤ −3, x 0..5: 2..5
    ∷ propagation (negsuc 1 ∷ []) (negsuc 2) (pos 0 ∷ pos 5 ∷ []) (record { outcome = changed; moved = 1; box = pos 2 ∷ pos 5 ∷ [] })
    -- 2x ≤ −3, x −5..5: −5..−2
    ∷ propagation (pos 2 ∷ []) (negsuc 2) (negsuc 4 ∷ pos 5 ∷ []) (record { outcome = changed; moved = 1; box = negsuc 4 ∷ negsuc 1 ∷ [] })
    -- All zero: b = −1 None; b = 0 Same
    ∷ propagation (pos 0 ∷ pos 0 ∷ []) (negsuc 0) binary2 (record { outcome = infeasible; moved = 0; box = pos 1 ∷ pos 0 ∷ pos 1 ∷ pos 0 ∷ [] })
    ∷ propagation (pos 0 ∷ pos 0 ∷ []) (pos 0) binary2 (record { outcome = unchanged; moved = 0; box = binary2 })
    -- −x−y ≤ −2: both 1; ≤ −3: None
    ∷ propagation (negsuc 0 ∷ negsuc 0 ∷ []) (negsuc 1) binary2 (record { outcome = changed; moved = 2; box = pos 1 ∷ pos 1 ∷ pos 1 ∷ pos 1 ∷ [] })
    ∷ propagation (negsuc 0 ∷ negsuc 0 ∷ []) (negsuc 2) binary2 (record { outcome = infeasible; moved = 0; box = pos 1 ∷ pos 0 ∷ pos 1 ∷ pos 0 ∷ [] })
    -- 3x+2y ≤ 4 sharpened at x: x+2y ≤ 2
    ∷ tightening_at_first (pos 3 ∷ pos 2 ∷ []) (pos 4) binary2 (record { outcome = changed; coefs = pos 1 ∷ pos 2 ∷ []; rhs = pos 2 })
    -- 2y−5x ≤ 1 at x: 2y−x ≤ 1
    ∷ tightening_at_first (negsuc 4 ∷ pos 2 ∷ []) (pos 1) binary2 (record { outcome = changed; coefs = negsuc 0 ∷ pos 2 ∷ []; rhs = pos 1 })
    -- 3x+2y ≤ 5: sharpen Same; drop zeroes it
    ∷ tightening_at_first (pos 3 ∷ pos 2 ∷ []) (pos 5) binary2 (record { outcome = unchanged; coefs = pos 3 ∷ pos 2 ∷ []; rhs = pos 5 })
    ∷ removal (pos 3 ∷ pos 2 ∷ []) (pos 5) binary2 (record { outcome = changed; coefs = pos 0 ∷ pos 0 ∷ []; rhs = pos 0 })
    -- x+y ≤ 1: both Same
    ∷ tightening_at_first (pos 1 ∷ pos 1 ∷ []) (pos 1) binary2 (record { outcome = unchanged; coefs = pos 1 ∷ pos 1 ∷ []; rhs = pos 1 })
    ∷ removal (pos 1 ∷ pos 1 ∷ []) (pos 1) binary2 (record { outcome = unchanged; coefs = pos 1 ∷ pos 1 ∷ []; rhs = pos 1 })
    ∷ []
