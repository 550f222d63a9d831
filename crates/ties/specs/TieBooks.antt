-- Worked books of the tie call, through `perform_tie` with buffers of the right lengths (proved as `tie-books-hold`).
use Rattle.std.specs.Prelude.{◌*◌, suc, zero, ℕ, negsuc, pos, ℤ, replicate, List, [], ◌∷◌}
use Rattle.model.specs.Rows.{rows_of}
use Rattle.model.specs.State.{State, state_of}
use Rattle.semantics.specs.Books.{Line, fresh, fresh_kinds, is, probe_call}
use Rattle.ties.specs.TieCall.{TieAnswer, TiePerformed, perform_tie, refused, same, tie_call_of, tied}
use Rattle.ties.specs.TiedRun.{other, run_tied}
use Rattle.ties.specs.Ties.{TiedState}

unfoldable pub binary : ℕ → List ℤ
binary zero = []
binary (suc n) = pos 0 ∷ pos 1 ∷ binary n

-- no tie yet; a list from elsewhere
unfoldable pub no_ties : State → TiedState
no_ties s = record { state = s; ties = replicate s.model.n 0 }

unfoldable pub with_places : State → List ℕ → TiedState
with_places s places = record { state = s; ties = places }

-- a tie of k and j on s, with buffers of the right lengths
unfoldable pub tie_of : TiedState → ℕ → ℕ → TiePerformed
tie_of s k j = perform_tie s (tie_call_of s k j)

-- Tied: other rows, of the same kinds, and another tie list
unfoldable pub rewritten : TiedState → List ℤ → List ℤ → List ℕ → TiePerformed
rewritten s C R places =
    let M = s.state.model in
    record {
      answer = tied;
      state = record { state = state_of M.n M.m M.box (rows_of C R M.rows.kinds) s.state.table; ties = places };
    }

unfoldable pub stays : TiedState → TieAnswer → TiePerformed
stays s a = record { answer = a; state = s }

-- the same model with another table; with one that says everything, which no probe makes
unfoldable pub tabled : State → List ℕ → State
tabled s t = record { model = s.model; table = t }

unfoldable pub foreign : State → State
foreign s = tabled s (replicate (4 * (s.model.n * s.model.n)) 1)

-- two receipts of one car, x − y = 0, and 2x + 3y + z ≤ 5; x + y = 1 as two ≤ rows, and 2x + 3y + z ≤ 4
unfoldable pub equal : State
equal =
    fresh_kinds 3 2 (binary 3) (pos 1 ∷ negsuc 0 ∷ pos 0 ∷ pos 2 ∷ pos 3 ∷ pos 1 ∷ []) (pos 0 ∷ pos 5 ∷ []) (1 ∷ 0 ∷ [])

unfoldable pub opposite : State
opposite =
    fresh 3 3 (binary 3) (pos 1 ∷ pos 1 ∷ pos 0 ∷ negsuc 0 ∷ negsuc 0 ∷ pos 0 ∷ pos 2 ∷ pos 3 ∷ pos 1 ∷ []) (pos 1 ∷ negsuc 0 ∷ pos 4 ∷ [])

-- with the table that a probe of x gives: a line of 6 bytes for each literal x 0, x 1, y 0, y 1, z 0, z 1
unfoldable pub equal_probed : TiedState
equal_probed = no_ties (tabled equal
    (0 ∷ 0 ∷ 1 ∷ 0 ∷ 0 ∷ 0
    ∷ 0 ∷ 0 ∷ 0 ∷ 1 ∷ 1 ∷ 0
    ∷ 1 ∷ 0 ∷ 0 ∷ 0 ∷ 0 ∷ 0
    ∷ 0 ∷ 1 ∷ 0 ∷ 0 ∷ 0 ∷ 0
    ∷ 0 ∷ 0 ∷ 0 ∷ 0 ∷ 0 ∷ 0
    ∷ 1 ∷ 0 ∷ 0 ∷ 0 ∷ 0 ∷ 0 ∷ []))

unfoldable pub opposite_probed : TiedState
opposite_probed = no_ties (tabled opposite
    (0 ∷ 0 ∷ 0 ∷ 1 ∷ 0 ∷ 0
    ∷ 0 ∷ 0 ∷ 1 ∷ 0 ∷ 0 ∷ 0
    ∷ 0 ∷ 1 ∷ 0 ∷ 0 ∷ 0 ∷ 0
    ∷ 1 ∷ 0 ∷ 0 ∷ 0 ∷ 0 ∷ 0
    ∷ 0 ∷ 0 ∷ 0 ∷ 0 ∷ 0 ∷ 0
    ∷ 0 ∷ 0 ∷ 0 ∷ 0 ∷ 0 ∷ 0 ∷ []))

-- one row a x + c y ≤ b
unfoldable pub pair_of : ℤ → ℤ → ℤ → State
pair_of a c b = foreign (fresh 2 1 (binary 2) (a ∷ c ∷ []) (b ∷ []))

-- a table of x and y that says j is 1 − k alone, and one row 2x + 3y = 3
unfoldable pub opposed : State
opposed = tabled (fresh_kinds 2 1 (binary 2) (pos 2 ∷ pos 3 ∷ []) (pos 3 ∷ []) (1 ∷ []))
    (0 ∷ 0 ∷ 0 ∷ 1 ∷ 0 ∷ 0 ∷ 1 ∷ 0 ∷ 0 ∷ 1 ∷ 0 ∷ 0 ∷ 1 ∷ 0 ∷ 0 ∷ 0 ∷ [])

-- three variables in x + 2y + 4z ≤ 5
unfoldable pub three_of : List ℕ → TiedState
three_of places = with_places (foreign (fresh 3 1 (binary 3) (pos 1 ∷ pos 2 ∷ pos 4 ∷ []) (pos 5 ∷ []))) places

unfoldable pub tie_books : List Line
tie_books =
    -- the probes
    is (run_tied (no_ties equal) (other (probe_call equal 0 1000) ∷ [])) equal_probed
    ∷ is (run_tied (no_ties opposite) (other (probe_call opposite 0 1000) ∷ [])) opposite_probed
    -- y is x: 0 = 0 of kind 1, 5x + z ≤ 5, and place 1 is 1 + (literal 1, "variable 0 is 1")
    ∷ (let s = equal_probed in is (tie_of s 0 1) (rewritten s (pos 0 ∷ pos 0 ∷ pos 0 ∷ pos 5 ∷ pos 0 ∷ pos 1 ∷ []) (pos 0 ∷ pos 5 ∷ []) (0 ∷ 2 ∷ 0 ∷ [])))
    -- y is 1 − x: −x + z ≤ 1, and place 1 is 1 + (literal 0, "variable 0 is 0")
    ∷ (let s = opposite_probed in is (tie_of s 0 1)
    (rewritten s (pos 0 ∷ pos 0 ∷ pos 0 ∷ pos 0 ∷ pos 0 ∷ pos 0 ∷ negsuc 0 ∷ pos 0 ∷ pos 1 ∷ []) (pos 0 ∷ pos 0 ∷ pos 1 ∷ []) (0 ∷ 1 ∷ 0 ∷ [])))
    -- so in an = row: −x = 0, which stays one
    ∷ (let s = no_ties opposed in is (tie_of s 0 1) (rewritten s (negsuc 0 ∷ pos 0 ∷ []) (pos 0 ∷ []) (0 ∷ 1 ∷ [])))
    -- of z the table says only half
    ∷ (let s = equal_probed in is (tie_of s 0 2) (stays s same))
    -- nothing at all without a probe
    ∷ (let s = no_ties equal in is (tie_of s 0 1) (stays s same))
    -- "Where the table says both, w is 0"
    ∷ (let s = no_ties (pair_of (pos 2) (pos 3) (pos 4)) in is (tie_of s 1 0) (rewritten s (pos 0 ∷ pos 5 ∷ []) (pos 4 ∷ []) (4 ∷ 0 ∷ [])))
    -- also where w = 0 leaves the limits and w = 1 would not
    ∷ (let s = no_ties (pair_of (pos 600_000) (pos 600_000) (pos 4)) in is (tie_of s 0 1) (stays s same))
    -- k is j
    ∷ (let s = no_ties (pair_of (pos 2) (pos 3) (pos 4)) in is (tie_of s 1 1) (stays s same))
    -- either is replaced already, be it by a foreign list that ties a variable to itself
    ∷ (let s = with_places (pair_of (pos 2) (pos 3) (pos 4)) (0 ∷ 2 ∷ []) in is (tie_of s 0 1) (stays s same))
    ∷ (let s = with_places (pair_of (pos 2) (pos 3) (pos 4)) (1 ∷ 0 ∷ []) in is (tie_of s 0 1) (stays s same))
    -- a chain: y is x, and then x is z
    ∷ (let s = three_of (0 ∷ 0 ∷ 0 ∷ []) in is (tie_of s 0 1) (rewritten s (pos 3 ∷ pos 0 ∷ pos 4 ∷ []) (pos 5 ∷ []) (0 ∷ 2 ∷ 0 ∷ [])))
    ∷ (let s = (tie_of (three_of (0 ∷ 0 ∷ 0 ∷ [])) 0 1).state in is (tie_of s 2 0) (rewritten s (pos 0 ∷ pos 0 ∷ pos 7 ∷ []) (pos 5 ∷ []) (6 ∷ 2 ∷ 0 ∷ [])))
    -- a variable that is not free 0-1; the empty box
    ∷ (let s = no_ties (foreign (fresh 2 0 (pos 0 ∷ pos 1 ∷ pos 0 ∷ pos 2 ∷ []) [] [])) in is (tie_of s 0 1) (stays s same))
    ∷ (let s = no_ties (foreign (fresh 2 0 (pos 1 ∷ pos 0 ∷ pos 1 ∷ pos 0 ∷ []) [] [])) in is (tie_of s 0 1) (stays s same))
    -- no row: only the place is set
    ∷ (let s = no_ties (foreign (fresh 2 0 (binary 2) [] [])) in is (tie_of s 0 1) (rewritten s [] [] (0 ∷ 2 ∷ [])))
    -- 21 a place above 2n, before 13; 13 a variable that is none; 5 a list that is too short
    ∷ (let s = with_places (pair_of (pos 2) (pos 3) (pos 4)) (0 ∷ 5 ∷ []) in is (tie_of s 9 9) (stays s (refused 21)))
    ∷ (let s = with_places (pair_of (pos 2) (pos 3) (pos 4)) (0 ∷ 4 ∷ []) in is (tie_of s 0 2) (stays s (refused 13)))
    ∷ (let s = with_places (pair_of (pos 2) (pos 3) (pos 4)) (0 ∷ []) in is (tie_of s 0 1) (stays s (refused 5)))
    ∷ []
