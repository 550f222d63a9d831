-- What the calls that may change a row do to = rows, computed.
use lib.IntN.{pos}
use mathlib.Core.List.{[], ◌∷◌}
use mathlib.Core.Path.{◌≡◌, refl}
use Rattle.integer.specs.Index.{sum}
use Rattle.integer.specs.Order.{eq_z}
use Rattle.model.specs.Box.{box_of, empty_box, is_empty, same_list}
use Rattle.model.specs.Rows.{Row, is_equality}
use Rattle.row.specs.Activity.{max_activity, max_term, min_activity, min_term}
use Rattle.row.specs.KindChanges.{remove_row_of, tighten_row_of}
use Rattle.row.specs.Outcome.{changed, unchanged}
use Rattle.row.specs.Redundancy.{zero_row}

-- 3x + 2y = 5 over free 0-1 variables: Lmax ≤ b alone does not drop it; with x and y at 1 it is dropped, kind and all; 0 = 0 is dropped
-- for its kind
abbrev sum_is_five : Row
sum_is_five = record { coefs = pos 3 ∷ pos 2 ∷ []; rhs = pos 5; kind = 1 }

pub removals :
    (remove_row_of 2 sum_is_five (pos 0 ∷ pos 1 ∷ pos 0 ∷ pos 1 ∷ []) ≡ record { outcome = unchanged; row = sum_is_five })
    × (remove_row_of 2 sum_is_five (pos 1 ∷ pos 1 ∷ pos 1 ∷ pos 1 ∷ [])
    ≡ record { outcome = changed; row = record { coefs = pos 0 ∷ pos 0 ∷ []; rhs = pos 0; kind = 0 } })
    × (remove_row_of 1 (record { coefs = pos 0 ∷ []; rhs = pos 0; kind = 1 }) (pos 0 ∷ pos 1 ∷ [])
    ≡ record { outcome = changed; row = record { coefs = pos 0 ∷ []; rhs = pos 0; kind = 0 } })
    × (tighten_row_of 2 (record { coefs = pos 3 ∷ pos 2 ∷ []; rhs = pos 4; kind = 1 }) (pos 0 ∷ pos 1 ∷ pos 0 ∷ pos 1 ∷ []) 0
    ≡ record { outcome = unchanged; row = record { coefs = pos 3 ∷ pos 2 ∷ []; rhs = pos 4; kind = 1 } })
unfolding remove_row_of tighten_row_of is_equality min_activity min_term max_activity max_term same_list is_empty empty_box box_of sum eq_z zero_row
removals = (refl, refl, refl, refl)
