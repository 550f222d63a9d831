-- Corner cases of the measure by which rounds end (02, C-20), computed (proved as `measure-corners-hold`): what each change takes off it,
-- the two changes that 02's own numbers do not count, and None.
use Rattle.std.specs.Prelude.{negsuc, pos, List, [], ◌∷◌}
use Rattle.model.specs.State.{State}
use Rattle.row.specs.Outcome.{changed}
use Rattle.semantics.specs.Books.{Line, fresh, is, probe_call, propagate_call, remove_call, rowed, tighten_call}
use Rattle.semantics.specs.Corners.{exact_pair, falling}
use Rattle.semantics.specs.Perform.{perform, tightened}
use Rattle.semantics.specs.Run.{class_of, infeasible_call, step}
use Rattle.semantics.specs.WorkedBooks.{binary2, pair, single}
use Rattle.demands.specs.Measure.{changes_made, measure}

-- 3x + y ≤ −2, x free 0-1, y from −6 to −3
unfoldable pub raised : State
raised = fresh 2 1 (pos 0 ∷ pos 1 ∷ negsuc 5 ∷ negsuc 2 ∷ []) (pos 3 ∷ pos 1 ∷ []) (negsuc 1 ∷ [])

unfoldable pub measure_corners : List Line
measure_corners =
    -- a sharpen that takes 1 off |a| and adds 1 to |b|: (1 + 3) + 16 + (3 + 1) + 1 becomes 1 less
    is (perform raised (tighten_call raised 0 0)) (rowed raised (tightened changed) (pos 2 ∷ pos 1 ∷ []) (negsuc 2))
    ∷ is (measure raised) 25
    ∷ is (measure (step raised (tighten_call raised 0 0))) 24
    -- a drop of 0 = 0 changes a kind byte alone, and one of 0 ≤ 5 a right side alone
    ∷ (let s = exact_pair (pos 0) (pos 0) (pos 0) binary2 in is (measure s) 19)
    ∷ (let s = exact_pair (pos 0) (pos 0) (pos 0) binary2 in is (measure (step s (remove_call s 0))) 18)
    ∷ (let s = pair (pos 0) (pos 0) (pos 5) in is (measure s) 19)
    ∷ (let s = pair (pos 0) (pos 0) (pos 5) in is (measure (step s (remove_call s 0))) 18)
    -- a probe of x + y ≤ 1 leaves the box and takes two zeros off the table
    ∷ (let s = pair (pos 1) (pos 1) (pos 1) in is (measure s) 21)
    ∷ (let s = pair (pos 1) (pos 1) (pos 1) in is (measure (step s (probe_call s 0 9))) 19)
    -- a settle takes off the width that the box loses; the next one changes nothing
    ∷ is (measure falling) 32
    ∷ is (measure (step falling (propagate_call falling 9))) 26
    ∷ is (changes_made falling (propagate_call falling 9 ∷ propagate_call falling 9 ∷ [])) 1
    -- None of a box of width 0, x ≤ −1 at x = 0, makes it empty and takes nothing off
    ∷ (let s = single (pos 1) (negsuc 0) (pos 0) (pos 0) in is (class_of s (propagate_call s 9)) infeasible_call)
    ∷ (let s = single (pos 1) (negsuc 0) (pos 0) (pos 0) in is (measure s) 6)
    ∷ (let s = single (pos 1) (negsuc 0) (pos 0) (pos 0) in is (measure (step s (propagate_call s 9))) 6)
    ∷ []
