-- Propagating one row, by its kind (02, C-14, "Equality rows"): it is that of a ≤ row where the row is one, and what 02 says where it is
-- an = row.
use Rattle.std.specs.Prelude.{ℕ, ◌*ℤ◌, ℤ, Bool, ◌||◌, cond, not, List, [], ◌∷◌}
use Rattle.model.specs.Rows.{Row, is_equality, negated}
use Rattle.row.specs.Moved.{moved_bounds}
use Rattle.row.specs.Outcome.{changed, is_changed, is_infeasible, is_unchanged, unchanged}
use Rattle.row.specs.Propagation.{PropagatedRow, propagate_row}

-- the ≤ row with this row's coefficients and right side, propagated
abbrev pub propagate_form : ℕ → Row → List ℤ → PropagatedRow
propagate_form n r B = propagate_row n r.coefs r.rhs B

-- u of the box B, then v of the box that u left: "it ends at the first of them that answers None, is then None as a whole and counts no
-- bound, and otherwise may report up to 2n bounds moved"; it answers Narrowed where one of them did
unfoldable pub and_then : ℕ → List ℤ → PropagatedRow → PropagatedRow → PropagatedRow
and_then n B u v =
    cond (is_infeasible u.outcome) u
    (cond (is_infeasible v.outcome) v
    (record {
      outcome = cond (is_changed u.outcome || is_changed v.outcome) changed unchanged;
      moved = moved_bounds n B v.box;
      box = v.box;
    }))

-- "A visit of an = row is a visit of its ≤ form and then of its negated form". It is not idempotent: −2x + y = 0 with x
-- and y free 0-1 gives x 0..0 (by the negated form) and, visited again, y 0..0 (by the ≤ form; `not-idempotent`).
unfoldable pub propagate_row_of : ℕ → Row → List ℤ → PropagatedRow
propagate_row_of n r B =
    cond (is_equality r)
    (and_then n B (propagate_form n r B) (propagate_form n (negated r) (propagate_form n r B).box))
    (propagate_form n r B)

-- whether propagating the row answers other than Same: it moves a bound, or no point of the box meets it
unfoldable pub row_moves_of : ℕ → Row → List ℤ → Bool
row_moves_of n r B = not (is_unchanged (propagate_row_of n r B).outcome)

-- ---- a form read in place

-- s × a of each coefficient a: the row itself for s = 1, its negated form's coefficients for s = −1 (`signed-one`, `signed-negated`)
unfoldable pub signed : ℤ → List ℤ → List ℤ
signed s [] = []
signed s (a ∷ A) = (s *ℤ a) ∷ signed s A
