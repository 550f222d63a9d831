-- The starred worked books of 01, all of them, through `perform` with buffers of the right lengths (proved as `worked-books-hold`),
-- with the number of bounds moved that 02 (C-11) adds, and with the ending that 02 (C-15) gives to the one for budget 1.
use Rattle.std.specs.Prelude.{ℕ, negsuc, pos, ℤ, Bool, false, true, List, [], ◌∷◌}
use Rattle.model.specs.State.{State}
use Rattle.row.specs.Outcome.{changed, infeasible, unchanged}
use Rattle.semantics.specs.Books.{Line, boxed, fresh, is, kept, probe_call, propagate_call, propagate_row_call, remove_call, rowed, tighten_call}
use Rattle.semantics.specs.Perform.{perform, probed, propagated, propagated_row, removed, tightened}
use Rattle.semantics.specs.Probe.{fixed, ones}
use Rattle.semantics.specs.Propagate.{converged}
use Rattle.semantics.specs.RestTest.{is_probing_fixpoint}
use Rattle.semantics.specs.Run.{run}

unfoldable pub binary2 : List ℤ
binary2 = pos 0 ∷ pos 1 ∷ pos 0 ∷ pos 1 ∷ []

unfoldable pub empty2 : List ℤ
empty2 = pos 1 ∷ pos 0 ∷ pos 1 ∷ pos 0 ∷ []

-- a x ≤ b with x from l to u; a x + c y ≤ b with x and y free 0-1
unfoldable pub single : ℤ → ℤ → ℤ → ℤ → State
single a b l u = fresh 1 1 (l ∷ u ∷ []) (a ∷ []) (b ∷ [])

unfoldable pub pair : ℤ → ℤ → ℤ → State
pair a c b = fresh 2 1 binary2 (a ∷ c ∷ []) (b ∷ [])

-- x − y ≤ 0, x + y ≤ 1
unfoldable pub crossed : State
crossed = fresh 2 2 binary2 (pos 1 ∷ negsuc 0 ∷ pos 1 ∷ pos 1 ∷ []) (pos 0 ∷ pos 1 ∷ [])

-- A: 2x ≤ 5, B: y − x ≤ 0, both 0..5
unfoldable pub chained : State
chained =
    fresh 2 2 (pos 0 ∷ pos 5 ∷ pos 0 ∷ pos 5 ∷ []) (pos 2 ∷ pos 0 ∷ negsuc 0 ∷ pos 1 ∷ []) (pos 5 ∷ pos 0 ∷ [])

-- the box after visits of the given rows, one after the other
unfoldable pub box_after : State → List ℕ → List ℤ
box_after s [] = s.model.box
box_after s (r ∷ rs) = box_after (perform s (propagate_row_call s r)).state rs

unfoldable pub at_rest : State → List ℤ → Bool
at_rest s B = is_probing_fixpoint s.model.n s.model.m s.model.rows B

-- 000's four-row clique example (2.2.2): 4 x0 + x1 − 3 x3 ≤ 2, 2 x0 + 3 x1 + 3 x3 ≤ 7, x0 + 4 x1 + 2 x2 ≤ 5, 3 x0 + x1 + 5 x2 ≤ 6
unfoldable pub clique : State
clique =
    fresh 4 4 (pos 0 ∷ pos 1 ∷ pos 0 ∷ pos 1 ∷ pos 0 ∷ pos 1 ∷ pos 0 ∷ pos 1 ∷ [])
    (pos 4 ∷ pos 1 ∷ pos 0 ∷ negsuc 2 ∷ pos 2 ∷ pos 3 ∷ pos 0 ∷ pos 3 ∷ pos 1 ∷ pos 4 ∷ pos 2 ∷ pos 0 ∷ pos 3 ∷ pos 1 ∷ pos 5 ∷ pos 0 ∷ [])
    (pos 2 ∷ pos 7 ∷ pos 5 ∷ pos 6 ∷ [])

unfoldable pub worked_books : List Line
worked_books =
    -- 2x ≤ 5, x 0..5: visit gives 0..2; again, Same
    (let s = single (pos 2) (pos 5) (pos 0) (pos 5) in
    is (perform s (propagate_row_call s 0)) (boxed s (propagated_row changed 1) (pos 0 ∷ pos 2 ∷ [])))
    ∷ (let s = single (pos 2) (pos 5) (pos 0) (pos 2) in is (perform s (propagate_row_call s 0)) (kept s (propagated_row unchanged 0)))
    -- −2x ≤ −3, x 0..5: 2..5
    ∷ (let s = single (negsuc 1) (negsuc 2) (pos 0) (pos 5) in
    is (perform s (propagate_row_call s 0)) (boxed s (propagated_row changed 1) (pos 2 ∷ pos 5 ∷ [])))
    -- 2x ≤ −3, x −5..5: −5..−2
    ∷ (let s = single (pos 2) (negsuc 2) (negsuc 4) (pos 5) in
    is (perform s (propagate_row_call s 0)) (boxed s (propagated_row changed 1) (negsuc 4 ∷ negsuc 1 ∷ [])))
    -- All zero: b = −1 None; b = 0 Same
    ∷ (let s = pair (pos 0) (pos 0) (negsuc 0) in is (perform s (propagate_row_call s 0)) (boxed s (propagated_row infeasible 0) empty2))
    ∷ (let s = pair (pos 0) (pos 0) (pos 0) in is (perform s (propagate_row_call s 0)) (kept s (propagated_row unchanged 0)))
    -- −x−y ≤ −2: both 1; ≤ −3: None
    ∷ (let s = pair (negsuc 0) (negsuc 0) (negsuc 1) in
    is (perform s (propagate_row_call s 0)) (boxed s (propagated_row changed 2) (pos 1 ∷ pos 1 ∷ pos 1 ∷ pos 1 ∷ [])))
    ∷ (let s = pair (negsuc 0) (negsuc 0) (negsuc 2) in is (perform s (propagate_row_call s 0)) (boxed s (propagated_row infeasible 0) empty2))
    -- 3x+2y ≤ 4 sharpened at x: x+2y ≤ 2
    ∷ (let s = pair (pos 3) (pos 2) (pos 4) in is (perform s (tighten_call s 0 0)) (rowed s (tightened changed) (pos 1 ∷ pos 2 ∷ []) (pos 2)))
    -- 2y−5x ≤ 1 at x: 2y−x ≤ 1
    ∷ (let s = pair (negsuc 4) (pos 2) (pos 1) in
    is (perform s (tighten_call s 0 0)) (rowed s (tightened changed) (negsuc 0 ∷ pos 2 ∷ []) (pos 1)))
    -- 3x+2y ≤ 5: sharpen Same; drop zeroes it
    ∷ (let s = pair (pos 3) (pos 2) (pos 5) in is (perform s (tighten_call s 0 0)) (kept s (tightened unchanged)))
    ∷ (let s = pair (pos 3) (pos 2) (pos 5) in is (perform s (remove_call s 0)) (rowed s (removed changed) (pos 0 ∷ pos 0 ∷ []) (pos 0)))
    -- x+y ≤ 1: both Same
    ∷ (let s = pair (pos 1) (pos 1) (pos 1) in is (perform s (tighten_call s 0 0)) (kept s (tightened unchanged)))
    ∷ (let s = pair (pos 1) (pos 1) (pos 1) in is (perform s (remove_call s 0)) (kept s (removed unchanged)))
    -- 2x ≤ 5, x 0..5: settle, budget 1, Spent; budget 2, Settled(2). 02 (C-15): "The starred line for budget 1 reads Settled(1)."
    ∷ (let s = single (pos 2) (pos 5) (pos 0) (pos 5) in
    is (perform s (propagate_call s 1)) (boxed s (propagated converged 1 1) (pos 0 ∷ pos 2 ∷ [])))
    ∷ (let s = single (pos 2) (pos 5) (pos 0) (pos 5) in
    is (perform s (propagate_call s 2)) (boxed s (propagated converged 2 1) (pos 0 ∷ pos 2 ∷ [])))
    -- x−y ≤ 0, x+y ≤ 1: visits Same, rest no, probe of x Fixed 0
    ∷ is (perform crossed (propagate_row_call crossed 0)) (kept crossed (propagated_row unchanged 0))
    ∷ is (perform crossed (propagate_row_call crossed 1)) (kept crossed (propagated_row unchanged 0))
    ∷ is (at_rest crossed crossed.model.box) false
    ∷ is (perform crossed (probe_call crossed 0 1000))
    (boxed crossed (probed (fixed 0) (record { passes = 1; spent = false; moved = 0 }) (record { passes = 1; spent = false; moved = 1 })) (pos 0 ∷ pos 0 ∷ pos 0 ∷ pos 1 ∷ []))
    -- A: 2x ≤ 5, B: y−x ≤ 0, both 0..5: A B and B A B end at x, y 0..2; B A leaves y 0..5, not at rest
    ∷ is (box_after chained (0 ∷ 1 ∷ [])) (pos 0 ∷ pos 2 ∷ pos 0 ∷ pos 2 ∷ [])
    ∷ is (box_after chained (1 ∷ 0 ∷ 1 ∷ [])) (pos 0 ∷ pos 2 ∷ pos 0 ∷ pos 2 ∷ [])
    ∷ is (at_rest chained (pos 0 ∷ pos 2 ∷ pos 0 ∷ pos 2 ∷ [])) true
    ∷ is (box_after chained (1 ∷ 0 ∷ [])) (pos 0 ∷ pos 2 ∷ pos 0 ∷ pos 5 ∷ [])
    ∷ is (at_rest chained (pos 0 ∷ pos 2 ∷ pos 0 ∷ pos 5 ∷ [])) false
    -- 000's four-row clique example: probing each variable once, upwards, from an empty table with budget 1,000 gives 8 table bytes
    ∷ is (ones (run clique (probe_call clique 0 1000 ∷ probe_call clique 1 1000 ∷ probe_call clique 2 1000 ∷ probe_call clique 3 1000 ∷ [])).table) 8
    ∷ []
