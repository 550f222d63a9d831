-- Corner cases of the largest quiet box (02, C-24), computed (proved as `rest-corners-hold`): a box that a probe with too few passes leaves
-- as it was though it is not at rest, and budgets at the total width.
use Rattle.std.specs.Prelude.{ℕ, negsuc, pos, false, true, List, [], ◌∷◌}
use Rattle.model.specs.State.{State}
use Rattle.semantics.specs.Books.{Line, boxed, fresh, is, kept, probe_call, propagate_call}
use Rattle.semantics.specs.Corners.{rest_in, spent_side, unspent}
use Rattle.semantics.specs.Perform.{perform, probed, propagated}
use Rattle.semantics.specs.Probe.{both_feasible, fixed}
use Rattle.semantics.specs.Propagate.{budget_spent, infeasible}
use Rattle.semantics.specs.RestTest.{by_variable}
use Rattle.demands.specs.Passes.{enough_budget}
use Rattle.demands.specs.Unmoved.{any_spent, side_spent}

-- x + z ≤ y and y ≤ x, x and y from 0 to u, z free 0-1: with z at 1 there is no point, and each pass moves four bounds by 1
unfoldable pub trap : ℕ → State
trap u =
    fresh 3 2 (pos 0 ∷ pos u ∷ pos 0 ∷ pos u ∷ pos 0 ∷ pos 1 ∷ []) (pos 1 ∷ negsuc 0 ∷ pos 1 ∷ negsuc 0 ∷ pos 1 ∷ pos 0 ∷ []) (pos 0 ∷ pos 0 ∷ [])

-- x + 1 ≤ y and y ≤ x, x and y from 0 to 3
unfoldable pub none : State
none = fresh 2 2 (pos 0 ∷ pos 3 ∷ pos 0 ∷ pos 3 ∷ []) (pos 1 ∷ negsuc 0 ∷ negsuc 0 ∷ pos 1 ∷ []) (negsuc 0 ∷ pos 0 ∷ [])

unfoldable pub rest_corners : List Line
rest_corners =
    -- two passes do not show it: the smallest box around the sides is the box, one of them is Spent, and the box is not at rest
    (let s = trap 6 in is (perform s (probe_call s 2 2)) (kept s (probed (both_feasible 0) (unspent 1 0) (spent_side 2 8))))
    ∷ (let s = trap 6 in is (any_spent s (probe_call s 2 2 ∷ [])) true)
    ∷ is (rest_in (trap 6)) (by_variable 2)
    -- four do, and no side is Spent
    ∷ (let s = trap 6 in
    is (perform s (probe_call s 2 4)) (boxed s (probed (fixed 0) (unspent 1 0) (unspent 4 12)) (pos 0 ∷ pos 6 ∷ pos 0 ∷ pos 6 ∷ pos 0 ∷ pos 0 ∷ [])))
    ∷ (let s = trap 6 in is (any_spent s (probe_call s 2 4 ∷ [])) false)
    -- a settle that is Spent is no side of a probe
    ∷ (let s = none in is (side_spent (perform s (propagate_call s 1)).answer) false)
    ∷ (let s = none in is (perform s (propagate_call s 1)) (boxed s (propagated budget_spent 1 4) (pos 1 ∷ pos 2 ∷ pos 1 ∷ pos 2 ∷ [])))
    -- with the total width plus 1 it is None: there is no quiet box inside
    ∷ is (enough_budget 2 (pos 0 ∷ pos 3 ∷ pos 0 ∷ pos 3 ∷ [])) 7
    ∷ (let s = none in is (perform s (propagate_call s 7)) (boxed s (propagated infeasible 2 6) (pos 1 ∷ pos 0 ∷ pos 1 ∷ pos 0 ∷ [])))
    ∷ []
