-- Propagate a row (01's visit; 000, 1.1 and 1.3, "improvement of bounds").
use Rattle.std.specs.Prelude.{ℕ, ◌*ℤ◌, ◌+ℤ◌, ◌-ℤ◌, neg_ℤ, pos, ℤ, Bool, ◌&&◌, cond, not, List}
use Rattle.std.specs.Int.Signed.{lt_z}
use Rattle.integer.specs.Division.{ceil_div, floor_div}
use Rattle.integer.specs.Index.{all}
use Rattle.integer.specs.Order.{eq_z, max_z, min_z}
use Rattle.model.specs.Box.{at, box_of, empty_box, is_empty, lower, upper}
use Rattle.row.specs.Activity.{min_activity}
use Rattle.row.specs.Moved.{moved_bounds}
use Rattle.row.specs.Outcome.{Outcome, changed, infeasible, is_unchanged, unchanged}

-- "for each a > 0, u becomes the lesser of u and floor((b − Lmin + a×l) / a)"; L is Lmin
unfoldable pub new_upper : ℤ → ℤ → ℤ → ℤ → ℤ → ℤ
new_upper a b L l u = cond (lt_z (pos 0) a) (min_z u (floor_div (b -ℤ L +ℤ a *ℤ l) a)) u

-- "for each a < 0 with g = −a, l becomes the greater of l and ceiling((Lmin + g×u − b) / g)"
unfoldable pub new_lower : ℤ → ℤ → ℤ → ℤ → ℤ → ℤ
new_lower a b L l u = cond (lt_z a (pos 0)) (max_z l (ceil_div (L +ℤ neg_ℤ a *ℤ u -ℤ b) (neg_ℤ a))) l

-- The box with the bounds that the row implies. L reads only bounds that the rule does not move (lower ones where a > 0, upper
-- ones where a < 0), so it is the same before, while and after bounds move (`min_activity-implied`), and no variable waits for another.
unfoldable pub implied_box : ℕ → List ℤ → ℤ → ℤ → List ℤ → List ℤ
implied_box n A b L B =
    box_of n (λ j. new_lower (at A j) b L (lower B j) (upper B j)) (λ j. new_upper (at A j) b L (lower B j) (upper B j))

-- neither bound of a variable moves
unfoldable pub stays : ℤ → ℤ → ℤ → ℤ → ℤ → Bool
stays a b L l u = eq_z (new_lower a b L l u) l && eq_z (new_upper a b L l u) u

abbrev pub stays_at : List ℤ → ℤ → ℤ → List ℤ → ℕ → Bool
stays_at A b L B j = stays (at A j) b L (lower B j) (upper B j)

-- 02 (C-11): "A visit answers Narrowed with the number of bounds that it moved, from 1 to n."
pub record PropagatedRow : Type 0 where
  pub outcome : Outcome
  pub moved : ℕ
  pub box : List ℤ

-- "Lmin > b: the box becomes void, answer None. Otherwise .. Answer Narrowed if a bound moved, else Same."
-- "On the void box all five calls answer None .. and change nothing." 02 (C-11): "a visit that answers None adds nothing".
unfoldable pub propagate_row : ℕ → List ℤ → ℤ → List ℤ → PropagatedRow
propagate_row n A b B =
    cond (is_empty n B) (record { outcome = infeasible; moved = 0; box = B })
    (cond (lt_z b (min_activity n A B)) (record { outcome = infeasible; moved = 0; box = empty_box n })
    (record {
      outcome = cond (all n (stays_at A b (min_activity n A B) B)) unchanged changed;
      moved = moved_bounds n B (implied_box n A b (min_activity n A B) B);
      box = implied_box n A b (min_activity n A B) B;
    }))

-- whether propagating the row answers other than Same: it moves a bound, or no point of the box meets it
unfoldable pub row_moves : ℕ → List ℤ → ℤ → List ℤ → Bool
row_moves n A b B = not (is_unchanged (propagate_row n A b B).outcome)
