-- Corner cases of the passes told beforehand (02, C-17), computed (proved as `passes-corners-hold`): passes made, and their limit.
use Rattle.std.specs.Prelude.{negsuc, pos, List, [], ◌∷◌}
use Rattle.semantics.specs.Books.{Line, is}
use Rattle.semantics.specs.CallList.{calls_made}
use Rattle.semantics.specs.Corners.{either, emptied, falling}
use Rattle.semantics.specs.WorkedBooks.{empty2, single}
use Rattle.demands.specs.Passes.{enough_budget, pass_limit, passes_made, total_width}

unfoldable pub passes_corners : List Line
passes_corners =
    -- 0..5 and −3..4 are 5 + 7 wide; a point and the empty box are 0 wide, and 1 pass is enough
    is (total_width 2 (pos 0 ∷ pos 5 ∷ negsuc 2 ∷ pos 4 ∷ [])) 12
    ∷ is (enough_budget 2 (pos 0 ∷ pos 5 ∷ negsuc 2 ∷ pos 4 ∷ [])) 13
    ∷ is (total_width 1 (pos 7 ∷ pos 7 ∷ [])) 0
    ∷ is (total_width 2 empty2) 0
    ∷ is (enough_budget 2 empty2) 1
    -- a settle counts its budget where that is less, else the width plus 1; a probe counts twice that
    ∷ is (pass_limit 12 (2 ∷ 0 ∷ 0 ∷ 9 ∷ [])) 9
    ∷ is (pass_limit 12 (2 ∷ 0 ∷ 0 ∷ 13 ∷ [])) 13
    ∷ is (pass_limit 12 (2 ∷ 0 ∷ 0 ∷ 14 ∷ [])) 13
    ∷ is (pass_limit 12 (3 ∷ 0 ∷ 0 ∷ 9 ∷ [])) 18
    ∷ is (pass_limit 12 (3 ∷ 0 ∷ 0 ∷ 1_000 ∷ [])) 26
    -- "refused or not": budgets 0 and 8,388,482, variable 999
    ∷ is (pass_limit 12 (2 ∷ 0 ∷ 0 ∷ 0 ∷ [])) 0
    ∷ is (pass_limit 12 (2 ∷ 0 ∷ 0 ∷ 8_388_482 ∷ [])) 13
    ∷ is (pass_limit 12 (3 ∷ 0 ∷ 999 ∷ 1_000 ∷ [])) 26
    -- other kinds, known or not, count nothing; no list, nothing; records add up
    ∷ is (pass_limit 12 (1 ∷ 0 ∷ 0 ∷ 9 ∷ 4 ∷ 0 ∷ 0 ∷ 9 ∷ 5 ∷ 0 ∷ 0 ∷ 9 ∷ 0 ∷ 0 ∷ 0 ∷ 9 ∷ 6 ∷ 0 ∷ 0 ∷ 9 ∷ [])) 0
    ∷ is (pass_limit 12 []) 0
    ∷ is (pass_limit 12 (2 ∷ 0 ∷ 0 ∷ 9 ∷ 3 ∷ 0 ∷ 0 ∷ 4 ∷ 2 ∷ 0 ∷ 0 ∷ 1 ∷ [])) 18
    -- 2x ≤ 1, x 0..1: the second pass moves nothing, and the limit is reached
    ∷ (let s = single (pos 2) (pos 1) (pos 0) (pos 1) in is (passes_made s (calls_made s (2 ∷ 0 ∷ 0 ∷ 9 ∷ []))) 2)
    ∷ is (pass_limit (total_width 1 (pos 0 ∷ pos 1 ∷ [])) (2 ∷ 0 ∷ 0 ∷ 9 ∷ [])) 2
    -- each call on the state that the one before it left: 3 passes, then 1
    ∷ is (passes_made falling (calls_made falling (2 ∷ 0 ∷ 0 ∷ 9 ∷ 2 ∷ 0 ∷ 0 ∷ 9 ∷ []))) 4
    -- both sides of a probe; a refused call and a visit make none
    ∷ is (passes_made either (calls_made either (3 ∷ 0 ∷ 0 ∷ 9 ∷ []))) 4
    ∷ is (passes_made either (calls_made either (3 ∷ 0 ∷ 999 ∷ 9 ∷ 2 ∷ 0 ∷ 0 ∷ 0 ∷ 1 ∷ 0 ∷ 0 ∷ 0 ∷ []))) 0
    -- on the empty box a settle makes 1 pass, a probe none
    ∷ is (passes_made emptied (calls_made emptied (2 ∷ 0 ∷ 0 ∷ 9 ∷ []))) 1
    ∷ is (passes_made emptied (calls_made emptied (3 ∷ 0 ∷ 0 ∷ 9 ∷ []))) 0
    -- a list that is refused as a whole makes none
    ∷ is (passes_made falling (calls_made falling (2 ∷ 0 ∷ 0 ∷ 9 ∷ 2 ∷ []))) 0
    ∷ []
