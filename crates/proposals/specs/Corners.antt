-- Corner cases of proposed allocations (02, C-21), computed (proved as `allocation-corners-hold`).
use Rattle.std.specs.Prelude.{negsuc, pos, replicate, List, [], ◌∷◌, ℕ}
use Rattle.model.specs.Model.{Model, model_of}
use Rattle.model.specs.Rows.{rows_of}
use Rattle.semantics.specs.Books.{Line, is}
use Rattle.proposals.specs.Call.{allocation_fault, verdicts_left}
use Rattle.proposals.specs.Verdict.{breaks, inside, outside_at, verdict}

-- x − y = 0 and x + 2y ≤ 4, x and y from 0 to 3
unfoldable pub exact : Model
exact =
    model_of 2 2 (pos 0 ∷ pos 3 ∷ pos 0 ∷ pos 3 ∷ [])
    (rows_of (pos 1 ∷ negsuc 0 ∷ pos 1 ∷ pos 2 ∷ []) (pos 0 ∷ pos 4 ∷ []) (1 ∷ 0 ∷ []))

-- one variable from 0 to 1 and no row
unfoldable pub bare : Model
bare = model_of 1 0 (pos 0 ∷ pos 1 ∷ []) (rows_of [] [] [])

-- the empty box, with a row that nothing meets
unfoldable pub emptied : Model
emptied = model_of 1 1 (pos 1 ∷ pos 0 ∷ []) (rows_of (pos 0 ∷ []) (negsuc 0 ∷ []) (0 ∷ []))

-- so many proposals of the number 1 each, and room for as many verdicts
unfoldable pub fault_of : ℕ → ℕ → ℕ → ℕ
fault_of count proposals room = allocation_fault bare (replicate proposals (pos 1)) count (replicate room 0)

unfoldable pub allocation_corners : List Line
allocation_corners =
    is (verdict exact (pos 1 ∷ pos 1 ∷ [])) inside
    -- the lowest variable outside the box, whatever the rows say
    ∷ is (verdict exact (pos 4 ∷ pos 4 ∷ [])) (outside_at 0)
    ∷ is (verdict exact (pos 0 ∷ negsuc 0 ∷ [])) (outside_at 1)
    ∷ is (verdict exact (pos 3 ∷ pos 4 ∷ [])) (outside_at 1)
    -- the lowest row broken: both; the = row from below and from above; the ≤ row alone
    ∷ is (verdict exact (pos 0 ∷ pos 3 ∷ [])) (breaks 0)
    ∷ is (verdict exact (pos 0 ∷ pos 1 ∷ [])) (breaks 0)
    ∷ is (verdict exact (pos 1 ∷ pos 0 ∷ [])) (breaks 0)
    ∷ is (verdict exact (pos 2 ∷ pos 2 ∷ [])) (breaks 1)
    -- against the empty box: outside, at variable 0
    ∷ is (verdict emptied (pos 1 ∷ [])) (outside_at 0)
    ∷ is (verdict emptied (pos 0 ∷ [])) (outside_at 0)
    -- counts at their edges, with the lengths that they give; 22 comes straight before 5
    ∷ is (fault_of 0 0 0) 22
    ∷ is (fault_of 1 1 2) 0
    ∷ is (fault_of 64 64 128) 0
    ∷ is (fault_of 65 65 130) 22
    ∷ is (fault_of 65 0 0) 22
    ∷ is (fault_of 2 1 4) 5
    ∷ is (fault_of 2 2 3) 5
    -- three verdicts in six numbers, each of its own proposal; what is lent stays where the call is refused
    ∷ is (verdicts_left exact (pos 2 ∷ pos 2 ∷ pos 1 ∷ pos 1 ∷ pos 3 ∷ pos 9 ∷ []) 3 (7 ∷ 7 ∷ 7 ∷ 7 ∷ 7 ∷ 7 ∷ [])) (2 ∷ 1 ∷ 0 ∷ 0 ∷ 1 ∷ 1 ∷ [])
    ∷ is (verdicts_left exact (pos 2 ∷ pos 2 ∷ []) 2 (7 ∷ 7 ∷ 7 ∷ 7 ∷ [])) (7 ∷ 7 ∷ 7 ∷ 7 ∷ [])
    ∷ []
