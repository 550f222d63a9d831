-- Two facts about = rows, computed: a second visit can move more, and None does not rule out fractional points.
use lib.IntN.{negsuc, pos}
use mathlib.Core.List.{[], ◌∷◌}
use mathlib.Core.Path.{◌≡◌, refl}
use Rattle.integer.specs.Division.{ceil_div, floor_div}
use Rattle.integer.specs.Index.{all, sum}
use Rattle.integer.specs.Order.{eq_z, max_z, min_z}
use Rattle.model.specs.Box.{box_of, empty_box, is_empty, same_list}
use Rattle.model.specs.Point.{MeetsOver, dot}
use Rattle.model.specs.Rows.{Row, is_equality, negated, negated_coefs}
use Rattle.row.specs.Activity.{min_activity, min_term}
use Rattle.row.specs.Kinds.{and_then, propagate_row_of}
use Rattle.row.specs.Moved.{differs, moved_bounds}
use Rattle.row.specs.Outcome.{changed, infeasible, is_changed, is_infeasible}
use Rattle.row.specs.Propagation.{implied_box, new_lower, new_upper, propagate_row, stays}

-- −2x + y = 0
abbrev double : Row
double = record { coefs = negsuc 1 ∷ pos 1 ∷ []; rhs = pos 0; kind = 1 }

-- x and y free 0-1: the first visit gives x 0..0 and leaves y 0..1, the second gives y 0..0
pub not-idempotent :
    (propagate_row_of 2 double (pos 0 ∷ pos 1 ∷ pos 0 ∷ pos 1 ∷ []) ≡ record { outcome = changed; moved = 1; box = pos 0 ∷ pos 0 ∷ pos 0 ∷ pos 1 ∷ [] })
    × (propagate_row_of 2 double (pos 0 ∷ pos 0 ∷ pos 0 ∷ pos 1 ∷ []) ≡ record { outcome = changed; moved = 1; box = pos 0 ∷ pos 0 ∷ pos 0 ∷ pos 0 ∷ [] })
unfolding moved_bounds differs propagate_row_of and_then is_equality negated negated_coefs is_changed is_infeasible propagate_row implied_box new_lower new_upper stays min_activity min_term same_list is_empty empty_box box_of sum all eq_z min_z max_z floor_div ceil_div
not-idempotent = (refl, refl)

-- 2x = 5
abbrev half : Row
half = record { coefs = pos 2 ∷ []; rhs = pos 5; kind = 1 }

-- 2x = 6
abbrev three : Row
three = record { coefs = pos 2 ∷ []; rhs = pos 6; kind = 1 }

-- x 0..5: 2x = 5 is infeasible, though x = 5/2 meets it
pub half-lost : (propagate_row_of 1 half (pos 0 ∷ pos 5 ∷ []) ≡ record { outcome = infeasible; moved = 0; box = pos 1 ∷ pos 0 ∷ [] })
    × MeetsOver 1 half (pos 5 ∷ []) 2
    -- no bound is counted, though the ≤ form moved one; of 2x = 6 both forms' are
    × ((propagate_row_of 1 three (pos 0 ∷ pos 5 ∷ [])).moved ≡ 2)
unfolding propagate_row_of and_then is_equality negated negated_coefs is_changed is_infeasible propagate_row implied_box new_lower new_upper stays min_activity min_term same_list is_empty empty_box box_of sum all eq_z min_z max_z floor_div ceil_div dot moved_bounds differs
half-lost = (refl, record { le = λ z. absurd z; eq = λ _. refl }, refl)
