-- Corner cases, as a table like that of the worked books (proved as `corners-hold`): what 01 and 02 say in half a sentence, computed.
use Rattle.std.specs.Prelude.{ℕ, negsuc, neg_ℤ, pos, ℤ, replicate, set, false, true, List, [], ◌∷◌}
use Rattle.model.specs.State.{State, with_box}
use Rattle.row.specs.Outcome.{changed, infeasible, unchanged}
use Rattle.semantics.specs.Books.{Line, boxed, call_on, fresh, fresh_kinds, is, kept, probe_call, propagate_call, propagate_row_call, remove_call, rowed, tighten_call}
use Rattle.semantics.specs.Call.{Call, Lengths, call_of}
use Rattle.semantics.specs.CallList.{calls_made, ran, refused_list, run_list}
use Rattle.semantics.specs.Perform.{perform, probed, propagated, propagated_row, refused, removed, tightened}
use Rattle.semantics.specs.Probe.{Side, both_feasible, fixed, infeasible as both_infeasible}
use Rattle.semantics.specs.Propagate.{budget_spent, converged, infeasible as none}
use Rattle.semantics.specs.RestTest.{Rest, at_rest, by_row, by_variable, is_probing_fixpoint, rest_fault, rest_of}
use Rattle.semantics.specs.Run.{changed_call, class_listed, class_of, infeasible_call, no_counts, refused_call, step, tally, unchanged_call}
use Rattle.semantics.specs.WorkedBooks.{binary2, chained, crossed, empty2, pair, single}

-- x + y ≤ 1 on the empty box
unfoldable pub emptied : State
emptied = fresh 2 1 empty2 (pos 1 ∷ pos 1 ∷ []) (pos 1 ∷ [])

-- x + y ≤ 1, y too wide by 1
unfoldable pub wide : State
wide = fresh 2 1 (pos 0 ∷ pos 1 ∷ pos 0 ∷ pos 4_097 ∷ []) (pos 1 ∷ pos 1 ∷ []) (pos 1 ∷ [])

-- −y ≤ −1: both sides of x fix y at 1
unfoldable pub alike : State
alike = pair (pos 0) (negsuc 0) (negsuc 0)

-- x + y ≥ 1 and x + y ≤ 1: each side of x moves y in its one pass
unfoldable pub either : State
either = fresh 2 2 binary2 (negsuc 0 ∷ negsuc 0 ∷ pos 1 ∷ pos 1 ∷ []) (negsuc 0 ∷ pos 1 ∷ [])

-- x + y ≥ 2 and x + y ≤ 1: no side of x survives, the one by the first row, the other by the second
unfoldable pub neither : State
neither = fresh 2 2 binary2 (negsuc 0 ∷ negsuc 0 ∷ pos 1 ∷ pos 1 ∷ []) (negsuc 1 ∷ pos 1 ∷ [])

-- 2 x ≤ 9 and x ≤ 3, x 0..5
unfoldable pub twice : State
twice = fresh 1 2 (pos 0 ∷ pos 5 ∷ []) (pos 2 ∷ pos 1 ∷ []) (pos 9 ∷ pos 3 ∷ [])

-- y − x ≤ 0 and 2 x ≤ 5, both 0..5: the second row moves x, and the first y in the next pass
unfoldable pub falling : State
falling = fresh 2 2 (pos 0 ∷ pos 5 ∷ pos 0 ∷ pos 5 ∷ []) (negsuc 0 ∷ pos 1 ∷ pos 2 ∷ pos 0 ∷ []) (pos 0 ∷ pos 5 ∷ [])

-- the same behind x + y ≤ 10, a row that moves nothing
unfoldable pub falling_behind : State
falling_behind =
    fresh 2 3 (pos 0 ∷ pos 5 ∷ pos 0 ∷ pos 5 ∷ []) (pos 1 ∷ pos 1 ∷ negsuc 0 ∷ pos 1 ∷ pos 2 ∷ pos 0 ∷ []) (pos 10 ∷ pos 0 ∷ pos 5 ∷ [])

-- z − y ≤ 0 and x + y ≤ 1: at x = 1 the second row moves y, and the first z in the next pass
unfoldable pub behind : State
behind =
    fresh 3 2 (pos 0 ∷ pos 1 ∷ pos 0 ∷ pos 1 ∷ pos 0 ∷ pos 1 ∷ []) (pos 0 ∷ negsuc 0 ∷ pos 1 ∷ pos 1 ∷ pos 1 ∷ pos 0 ∷ []) (pos 0 ∷ pos 1 ∷ [])

-- y − x ≤ 0 and 2 x ≤ 5 with y ≥ 3: the first pass moves x and y, and in the second the first row is infeasible
unfoldable pub later_none : State
later_none =
    fresh 2 3 (pos 0 ∷ pos 5 ∷ pos 0 ∷ pos 5 ∷ []) (negsuc 0 ∷ pos 1 ∷ pos 2 ∷ pos 0 ∷ pos 0 ∷ negsuc 0 ∷ [])
    (pos 0 ∷ pos 5 ∷ negsuc 2 ∷ [])

-- 3 x + 10⁶ y + z, y = −1,000, z = w: Lmax − 3 is −10⁹ + w
unfoldable pub deep : ℤ → ℤ → State
deep w b =
    fresh 3 1 (pos 0 ∷ pos 1 ∷ negsuc 999 ∷ negsuc 999 ∷ w ∷ w ∷ []) (pos 3 ∷ pos 1_000_000 ∷ pos 1 ∷ []) (b ∷ [])

-- 3 x + 2 y ≤ 4 and x + y ≥ 3, a list's own model
unfoldable pub listed : State
listed = fresh 2 2 binary2 (pos 3 ∷ pos 2 ∷ negsuc 0 ∷ negsuc 0 ∷ []) (pos 4 ∷ negsuc 2 ∷ [])

-- a x = b with x from l to u (02, C-14)
unfoldable pub exact : ℤ → ℤ → ℤ → ℤ → State
exact a b l u = fresh_kinds 1 1 (l ∷ u ∷ []) (a ∷ []) (b ∷ []) (1 ∷ [])

-- a x + c y = b in the box B
unfoldable pub exact_pair : ℤ → ℤ → ℤ → List ℤ → State
exact_pair a c b B = fresh_kinds 2 1 B (a ∷ c ∷ []) (b ∷ []) (1 ∷ [])

-- y = 2x, and the same as two ≤ rows
unfoldable pub doubled : State
doubled = exact_pair (negsuc 1) (pos 1) (pos 0) binary2

unfoldable pub doubled_forms : State
doubled_forms = fresh 2 2 binary2 (negsuc 1 ∷ pos 1 ∷ pos 2 ∷ negsuc 0 ∷ []) (pos 0 ∷ pos 0 ∷ [])

-- x with right side b, the kind byte k and every table byte t
unfoldable pub of_kind : ℕ → ℤ → ℕ → State
of_kind k b t = with_box (fresh_kinds 1 1 (pos 0 ∷ pos 1 ∷ []) (pos 1 ∷ []) (b ∷ []) (k ∷ [])) (pos 0 ∷ pos 1 ∷ []) (t ∷ t ∷ t ∷ t ∷ [])

unfoldable pub with_lengths : Call → Lengths → Call
with_lengths c l = record { kind = c.kind; row = c.row; variable = c.variable; budget = c.budget; n = c.n; m = c.m; lengths = l }

-- lent no table: its length is 0
unfoldable pub unlent : Call → Call
unlent c = with_lengths c (record { box = c.lengths.box; coefs = c.lengths.coefs; rhs = c.lengths.rhs; kinds = c.lengths.kinds; table = 0 })

unfoldable pub with_sizes : Call → ℕ → ℕ → Call
with_sizes c n m = record { kind = c.kind; row = c.row; variable = c.variable; budget = c.budget; n = n; m = m; lengths = c.lengths }

-- a side with p passes in which k bounds moved
unfoldable pub unspent : (p k : ℕ) → Side
unspent p k = record { passes = p; spent = false; moved = k }

unfoldable pub spent_side : (p k : ℕ) → Side
spent_side p k = record { passes = p; spent = true; moved = k }

-- what the rest call finds in s
unfoldable pub rest_in : State → Rest
rest_in s = rest_of s.model.n s.model.m s.model.rows s.model.box

-- y − z ≤ 0 and y + z ≤ 1 with y and z free 0-1, and a third row a x ≤ b with x from 0 to u
unfoldable pub later : ℤ → ℤ → ℤ → State
later u a b =
    fresh 3 3 (pos 0 ∷ u ∷ pos 0 ∷ pos 1 ∷ pos 0 ∷ pos 1 ∷ [])
    (pos 0 ∷ pos 1 ∷ negsuc 0 ∷ pos 0 ∷ pos 1 ∷ pos 1 ∷ a ∷ pos 0 ∷ pos 0 ∷ []) (pos 0 ∷ pos 1 ∷ b ∷ [])

-- 0 to 3 are the literals x = 0, x = 1, y = 0, y = 1; byte 4p + q says that p implies q
unfoldable pub corners : List Line
corners =
    -- the empty box: each call answers None and changes nothing, a settle with 1 pass, a probe with 0 for each side; rest says yes
    is (perform emptied (propagate_row_call emptied 0)) (kept emptied (propagated_row infeasible 0))
    ∷ is (perform emptied (propagate_call emptied 7)) (kept emptied (propagated none 1 0))
    ∷ is (perform emptied (probe_call emptied 1 7)) (kept emptied (probed both_infeasible (unspent 0 0) (unspent 0 0)))
    ∷ is (perform emptied (tighten_call emptied 0 1)) (kept emptied (tightened infeasible))
    ∷ is (perform emptied (remove_call emptied 0)) (kept emptied (removed infeasible))
    ∷ is (is_probing_fixpoint 2 1 emptied.model.rows empty2) true
    -- and 11, 12, 13 and 15 still refuse there, while 14 does not apply
    ∷ is (perform emptied (call_on emptied 0 0 0 1)) (kept emptied (refused 11))
    ∷ is (perform emptied (call_on emptied 6 0 0 1)) (kept emptied (refused 11))
    ∷ is (perform emptied (propagate_row_call emptied 1)) (kept emptied (refused 12))
    ∷ is (perform emptied (probe_call emptied 2 7)) (kept emptied (refused 13))
    ∷ is (perform emptied (probe_call emptied 1 0)) (kept emptied (refused 15))
    ∷ is (perform emptied (propagate_call emptied 0)) (kept emptied (refused 15))
    ∷ is (perform emptied (tighten_call emptied 1 0)) (kept emptied (refused 12))
    ∷ is (perform emptied (tighten_call emptied 0 2)) (kept emptied (refused 13))
    ∷ is (perform emptied (remove_call emptied 1)) (kept emptied (refused 12))
    -- n and m, then the lengths, before the call's own checks; a table's length only where one is lent
    ∷ is (perform emptied (with_sizes (propagate_row_call emptied 1) 0 1)) (kept emptied (refused 3))
    ∷ is (perform emptied (with_sizes (propagate_row_call emptied 1) 129 1)) (kept emptied (refused 3))
    ∷ is (perform emptied (with_sizes (propagate_row_call emptied 1) 2 121)) (kept emptied (refused 3))
    ∷ is (perform emptied (with_sizes (propagate_row_call emptied 1) 1 1)) (kept emptied (refused 5))
    ∷ is (perform emptied (with_lengths (propagate_row_call emptied 1) (record { box = 3; coefs = 2; rhs = 1; kinds = 1; table = 16 }))) (kept emptied (refused 5))
    ∷ is (perform emptied (with_lengths (propagate_row_call emptied 0) (record { box = 4; coefs = 2; rhs = 1; kinds = 1; table = 0 })))
    (kept emptied (propagated_row infeasible 0))
    ∷ is (perform emptied (with_lengths (probe_call emptied 0 1) (record { box = 4; coefs = 2; rhs = 1; kinds = 1; table = 15 }))) (kept emptied (refused 5))
    -- 6 to 9: the number just outside each range refuses, the last one inside does not
    ∷ (let s = single (pos 2) (pos 5) (neg_ℤ (pos 32_769)) (pos 5) in is (perform s (propagate_row_call s 0)) (kept s (refused 6)))
    ∷ (let s = single (pos 2) (pos 5) (pos 0) (pos 32_768) in is (perform s (propagate_row_call s 0)) (kept s (refused 6)))
    ∷ (let s = single (pos 0) (pos 5) (neg_ℤ (pos 32_768)) (neg_ℤ (pos 28_672)) in is (perform s (propagate_row_call s 0)) (kept s (propagated_row unchanged 0)))
    ∷ (let s = single (pos 0) (pos 5) (pos 28_671) (pos 32_767) in is (perform s (propagate_row_call s 0)) (kept s (propagated_row unchanged 0)))
    ∷ (let s = single (pos 2) (pos 5) (pos 1) (pos 0) in is (perform s (propagate_row_call s 0)) (kept s (propagated_row infeasible 0)))
    ∷ (let s = single (pos 2) (pos 5) (pos 2) (pos 1) in is (perform s (propagate_row_call s 0)) (kept s (refused 7)))
    ∷ (let s = fresh 2 1 (pos 1 ∷ pos 0 ∷ pos 0 ∷ pos 1 ∷ []) (pos 1 ∷ pos 1 ∷ []) (pos 1 ∷ []) in is (perform s (propagate_row_call s 0)) (kept s (refused 7)))
    ∷ (let s = single (neg_ℤ (pos 1_000_001)) (pos 5) (pos 0) (pos 5) in is (perform s (propagate_row_call s 0)) (kept s (refused 8)))
    ∷ (let s = single (pos 1_000_001) (pos 5) (pos 0) (pos 5) in is (perform s (propagate_row_call s 0)) (kept s (refused 8)))
    ∷ (let s = single (neg_ℤ (pos 1_000_000)) (pos 0) (pos 0) (pos 5) in is (perform s (propagate_row_call s 0)) (kept s (propagated_row unchanged 0)))
    ∷ (let s = single (pos 0) (neg_ℤ (pos 1_000_000_001)) (pos 0) (pos 5) in is (perform s (propagate_row_call s 0)) (kept s (refused 9)))
    ∷ (let s = single (pos 0) (pos 1_000_000_001) (pos 0) (pos 5) in is (perform s (propagate_row_call s 0)) (kept s (refused 9)))
    ∷ (let s = single (pos 1_000_000) (pos 1_000_000_000) (pos 0) (pos 5) in is (perform s (propagate_row_call s 0)) (kept s (propagated_row unchanged 0)))
    -- 23: a width of 4,096 is accepted and 4,097 refused, from 0, across 0 and at the ends of the range
    ∷ (let s = single (pos 0) (pos 5) (pos 0) (pos 4_096) in is (perform s (propagate_row_call s 0)) (kept s (propagated_row unchanged 0)))
    ∷ (let s = single (pos 0) (pos 5) (pos 0) (pos 4_097) in is (perform s (propagate_row_call s 0)) (kept s (refused 23)))
    ∷ (let s = single (pos 0) (pos 5) (neg_ℤ (pos 2_048)) (pos 2_048) in is (perform s (propagate_row_call s 0)) (kept s (propagated_row unchanged 0)))
    ∷ (let s = single (pos 0) (pos 5) (neg_ℤ (pos 2_048)) (pos 2_049) in is (perform s (propagate_row_call s 0)) (kept s (refused 23)))
    ∷ (let s = single (pos 0) (pos 5) (pos 28_670) (pos 32_767) in is (perform s (propagate_row_call s 0)) (kept s (refused 23)))
    ∷ (let s = single (pos 0) (pos 5) (neg_ℤ (pos 32_768)) (pos 32_767) in is (perform s (propagate_row_call s 0)) (kept s (refused 23)))
    ∷ is (perform wide (propagate_row_call wide 0)) (kept wide (refused 23))
    -- "in every call"
    ∷ is (perform wide (propagate_call wide 1)) (kept wide (refused 23))
    ∷ is (perform wide (probe_call wide 0 1)) (kept wide (refused 23))
    ∷ is (perform wide (tighten_call wide 0 0)) (kept wide (refused 23))
    ∷ is (perform wide (remove_call wide 0)) (kept wide (refused 23))
    ∷ is (perform wide (call_on wide 6 0 0 1)) (kept wide (refused 23))
    ∷ is (rest_fault wide) 23
    ∷ is (run_list wide []) (record { answer = refused_list 23; state = wide })
    -- 7 before 23, whichever variable is too wide; a box of which one variable has l = 1 and u = 0 is not the empty one
    ∷ (let s = with_box wide (pos 0 ∷ pos 4_097 ∷ pos 3 ∷ pos 2 ∷ []) wide.table in is (perform s (propagate_row_call s 0)) (kept s (refused 7)))
    ∷ (let s = with_box wide (pos 1 ∷ pos 0 ∷ pos 0 ∷ pos 4_097 ∷ []) wide.table in is (perform s (propagate_row_call s 0)) (kept s (refused 7)))
    -- 10: a table byte of 2 refuses a probe, and no call that is lent no table
    ∷ (let s = with_box emptied binary2 (0 ∷ 0 ∷ 0 ∷ 0 ∷ 0 ∷ 0 ∷ 0 ∷ 0 ∷ 0 ∷ 0 ∷ 0 ∷ 0 ∷ 0 ∷ 0 ∷ 0 ∷ 2 ∷ []) in
    is (perform s (probe_call s 0 7)) (kept s (refused 10)))
    ∷ (let s = with_box emptied binary2 (0 ∷ 0 ∷ 0 ∷ 0 ∷ 0 ∷ 0 ∷ 0 ∷ 0 ∷ 0 ∷ 0 ∷ 0 ∷ 0 ∷ 0 ∷ 0 ∷ 0 ∷ 2 ∷ []) in
    is (perform s (propagate_row_call s 0)) (kept s (propagated_row unchanged 0)))
    -- in their order: 6 before 7 before 23 before 8 before 9 before 10, and 10 before the call's own checks
    ∷ (let s = with_box (single (pos 1_000_001) (pos 1_000_000_001) (pos 0) (pos 0)) (pos 32_768 ∷ pos 0 ∷ []) (0 ∷ 0 ∷ 0 ∷ 2 ∷ []) in
    is (perform s (probe_call s 1 0)) (kept s (refused 6)))
    ∷ (let s = with_box (single (pos 1_000_001) (pos 1_000_000_001) (pos 0) (pos 0)) (pos 5 ∷ pos 0 ∷ []) (0 ∷ 0 ∷ 0 ∷ 2 ∷ []) in
    is (perform s (probe_call s 1 0)) (kept s (refused 7)))
    ∷ (let s = with_box (single (pos 1_000_001) (pos 1_000_000_001) (pos 0) (pos 0)) (pos 0 ∷ pos 4_097 ∷ []) (0 ∷ 0 ∷ 0 ∷ 2 ∷ []) in
    is (perform s (probe_call s 1 0)) (kept s (refused 23)))
    ∷ (let s = with_box (single (pos 1_000_001) (pos 1_000_000_001) (pos 0) (pos 0)) (pos 0 ∷ pos 1 ∷ []) (0 ∷ 0 ∷ 0 ∷ 2 ∷ []) in
    is (perform s (probe_call s 1 0)) (kept s (refused 8)))
    ∷ (let s = with_box (single (pos 1) (pos 1_000_000_001) (pos 0) (pos 0)) (pos 0 ∷ pos 1 ∷ []) (0 ∷ 0 ∷ 0 ∷ 2 ∷ []) in
    is (perform s (probe_call s 1 0)) (kept s (refused 9)))
    ∷ (let s = with_box (single (pos 1) (pos 5) (pos 0) (pos 0)) (pos 0 ∷ pos 1 ∷ []) (0 ∷ 0 ∷ 0 ∷ 2 ∷ []) in
    is (perform s (probe_call s 1 0)) (kept s (refused 10)))
    -- an empty box still passes 8 and 9 before its calls answer None (D-4)
    ∷ (let s = with_box (single (pos 1_000_001) (pos 5) (pos 0) (pos 0)) (pos 1 ∷ pos 0 ∷ []) (0 ∷ 0 ∷ 0 ∷ 0 ∷ []) in
    is (perform s (propagate_row_call s 0)) (kept s (refused 8)))
    ∷ (let s = with_box (single (pos 1) (pos 1_000_000_001) (pos 0) (pos 0)) (pos 1 ∷ pos 0 ∷ []) (0 ∷ 0 ∷ 0 ∷ 0 ∷ []) in
    is (perform s (propagate_row_call s 0)) (kept s (refused 9)))
    -- "A field that its kind lacks is ignored", and so is the length of a table that is not lent
    ∷ (let s = pair (pos 3) (pos 2) (pos 5) in is (perform s (unlent (call_on s 1 0 4_294_967_295 0))) (kept s (propagated_row unchanged 0)))
    ∷ (let s = pair (pos 3) (pos 2) (pos 5) in
    is (perform s (unlent (call_on s 1 0 2 8_388_482))) (kept s (propagated_row unchanged 0)))
    ∷ (let s = pair (pos 3) (pos 2) (pos 5) in
    is (perform s (unlent (call_on s 2 4_294_967_295 4_294_967_295 3))) (kept s (propagated converged 1 0)))
    ∷ (let s = pair (pos 3) (pos 2) (pos 5) in
    is (perform s (call_on s 3 4_294_967_295 0 3)) (kept s (probed (both_feasible 0) (unspent 1 0) (unspent 1 0))))
    ∷ (let s = pair (pos 3) (pos 2) (pos 5) in is (perform s (unlent (call_on s 4 0 0 0))) (kept s (tightened unchanged)))
    ∷ (let s = pair (pos 3) (pos 2) (pos 5) in is (perform s (unlent (call_on s 4 0 0 8_388_482))) (kept s (tightened unchanged)))
    ∷ (let s = pair (pos 1) (pos 1) (pos 1) in is (perform s (unlent (call_on s 5 0 4_294_967_295 0))) (kept s (removed unchanged)))
    ∷ (let s = pair (pos 1) (pos 1) (pos 1) in is (perform s (unlent (call_on s 5 0 2 8_388_482))) (kept s (removed unchanged)))
    -- each call of another box by its own checks, in their order: 12 before 13 before 14 before 15
    ∷ (let s = single (pos 2) (pos 5) (pos 0) (pos 5) in is (perform s (call_on s 4 1 1 0)) (kept s (refused 12)))
    ∷ (let s = single (pos 2) (pos 5) (pos 0) (pos 5) in is (perform s (call_on s 4 0 1 0)) (kept s (refused 13)))
    ∷ (let s = single (pos 2) (pos 5) (pos 0) (pos 5) in is (perform s (call_on s 4 0 0 0)) (kept s (refused 14)))
    ∷ (let s = single (pos 2) (pos 5) (pos 0) (pos 5) in is (perform s (call_on s 3 9 1 0)) (kept s (refused 13)))
    ∷ (let s = single (pos 2) (pos 5) (pos 0) (pos 5) in is (perform s (call_on s 3 9 0 0)) (kept s (refused 14)))
    ∷ (let s = single (pos 2) (pos 5) (pos 0) (pos 1) in is (perform s (call_on s 3 9 0 0)) (kept s (refused 15)))
    ∷ (let s = single (pos 2) (pos 5) (pos 0) (pos 1) in is (perform s (call_on s 2 9 9 0)) (kept s (refused 15)))
    -- the largest budget, and one more
    ∷ (let s = single (pos 2) (pos 5) (pos 0) (pos 5) in
    is (perform s (propagate_call s 8_388_481)) (boxed s (propagated converged 2 1) (pos 0 ∷ pos 2 ∷ [])))
    ∷ (let s = single (pos 2) (pos 5) (pos 0) (pos 5) in is (perform s (propagate_call s 8_388_482)) (kept s (refused 15)))
    ∷ (let s = single (pos 2) (pos 5) (pos 0) (pos 1) in is (perform s (probe_call s 0 8_388_482)) (kept s (refused 15)))
    -- a sharpen at a variable that is not free is refused by 14, also where its coefficient is 0
    ∷ (let s = single (pos 0) (pos 5) (pos 0) (pos 5) in is (perform s (tighten_call s 0 0)) (kept s (refused 14)))
    -- no rows: Settled after 1; a visit has no row to take; both sides of a probe are the box itself
    ∷ (let s = fresh 1 0 (pos 0 ∷ pos 5 ∷ []) [] [] in is (perform s (propagate_call s 3)) (kept s (propagated converged 1 0)))
    ∷ (let s = fresh 1 0 (pos 1 ∷ pos 0 ∷ []) [] [] in is (perform s (propagate_call s 3)) (kept s (propagated none 1 0)))
    ∷ (let s = fresh 1 0 (pos 0 ∷ pos 1 ∷ []) [] [] in is (perform s (propagate_row_call s 0)) (kept s (refused 12)))
    ∷ (let s = fresh 1 0 (pos 0 ∷ pos 1 ∷ []) [] [] in
    is (perform s (probe_call s 0 1)) (kept s (probed (both_feasible 0) (unspent 1 0) (unspent 1 0))))
    -- one pass is enough where nothing moves; a pass that None breaks off counts as made
    ∷ (let s = single (pos 2) (pos 5) (pos 0) (pos 2) in is (perform s (propagate_call s 1)) (kept s (propagated converged 1 0)))
    ∷ (let s = single (pos 2) (negsuc 0) (pos 0) (pos 2) in
    is (perform s (propagate_call s 9)) (boxed s (propagated none 1 0) (pos 1 ∷ pos 0 ∷ [])))
    -- bounds moved: a pass that None breaks off keeps those of its rows before, and so does a pass before it
    ∷ is (perform neither (propagate_call neither 9)) (boxed neither (propagated none 1 2) empty2)
    ∷ is (perform later_none (propagate_call later_none 9)) (boxed later_none (propagated none 2 2) empty2)
    -- a bound that two rows move counts twice; the sum is over all passes, where the budget is spent and where it is not
    ∷ is (perform twice (propagate_call twice 9)) (boxed twice (propagated converged 2 2) (pos 0 ∷ pos 3 ∷ []))
    ∷ is (perform falling (propagate_call falling 1)) (boxed falling (propagated budget_spent 1 1) (pos 0 ∷ pos 2 ∷ pos 0 ∷ pos 5 ∷ []))
    ∷ is (perform falling (propagate_call falling 3)) (boxed falling (propagated converged 3 2) (pos 0 ∷ pos 2 ∷ pos 0 ∷ pos 2 ∷ []))
    -- the budget's passes are made and the last moved a bound (02, C-15): Settled where no row would move another, also at the very last
    -- pass; Spent where a row would, or would answer None
    ∷ is (perform falling (propagate_call falling 2)) (boxed falling (propagated converged 2 2) (pos 0 ∷ pos 2 ∷ pos 0 ∷ pos 2 ∷ []))
    ∷ is (perform later_none (propagate_call later_none 1)) (boxed later_none (propagated budget_spent 1 2) (pos 0 ∷ pos 2 ∷ pos 3 ∷ pos 5 ∷ []))
    -- whichever row it is, the second too
    ∷ is (perform falling_behind (propagate_call falling_behind 1)) (boxed falling_behind (propagated budget_spent 1 1) (pos 0 ∷ pos 2 ∷ pos 0 ∷ pos 5 ∷ []))
    ∷ (let s = exact_pair (negsuc 1) (pos 1) (pos 0) binary2 in
    is (perform s (propagate_call s 1)) (boxed s (propagated budget_spent 1 1) (pos 0 ∷ pos 0 ∷ pos 0 ∷ pos 1 ∷ [])))
    -- each side of a probe has its own: y ≤ x moves y at x = 0 only
    ∷ (let s = pair (negsuc 0) (pos 1) (pos 0) in
    is (perform s (probe_call s 0 5)) (record {
      answer = probed (both_feasible 2) (unspent 2 1) (unspent 1 0);
      state = with_box s binary2 (0 ∷ 0 ∷ 1 ∷ 0 ∷ 0 ∷ 0 ∷ 0 ∷ 0 ∷ 0 ∷ 0 ∷ 0 ∷ 0 ∷ 0 ∷ 1 ∷ 0 ∷ 0 ∷ []);
    }))
    -- zero rows: b above 0 is dropped to 0, b = 0 is Same, b below 0 is not redundant; nothing to sharpen
    ∷ (let s = pair (pos 0) (pos 0) (pos 4) in is (perform s (remove_call s 0)) (rowed s (removed changed) (pos 0 ∷ pos 0 ∷ []) (pos 0)))
    ∷ (let s = pair (pos 0) (pos 0) (pos 0) in is (perform s (remove_call s 0)) (kept s (removed unchanged)))
    ∷ (let s = pair (pos 0) (pos 0) (negsuc 0) in is (perform s (remove_call s 0)) (kept s (removed unchanged)))
    ∷ (let s = pair (pos 0) (pos 3) (pos 2) in is (perform s (tighten_call s 0 0)) (kept s (tightened unchanged)))
    -- both sides fix y alike: both are recorded, 4 bytes; again, none is new
    ∷ is (perform alike (probe_call alike 0 5))
    (record {
      answer = probed (both_feasible 4) (unspent 2 1) (unspent 2 1);
      state = with_box alike (pos 0 ∷ pos 1 ∷ pos 1 ∷ pos 1 ∷ []) (0 ∷ 0 ∷ 0 ∷ 1 ∷ 0 ∷ 0 ∷ 0 ∷ 1 ∷ 1 ∷ 1 ∷ 0 ∷ 0 ∷ 0 ∷ 0 ∷ 0 ∷ 0 ∷ []);
    })
    ∷ (let s = with_box alike binary2 (0 ∷ 0 ∷ 0 ∷ 1 ∷ 0 ∷ 0 ∷ 0 ∷ 1 ∷ 1 ∷ 1 ∷ 0 ∷ 0 ∷ 0 ∷ 0 ∷ 0 ∷ 0 ∷ []) in
    is (perform s (probe_call s 0 5)) (boxed s (probed (both_feasible 0) (unspent 2 1) (unspent 2 1)) (pos 0 ∷ pos 1 ∷ pos 1 ∷ pos 1 ∷ [])))
    -- a variable that was not free before the call is not recorded, though both sides fix it at 1
    ∷ (let s = fresh 2 1 (pos 0 ∷ pos 1 ∷ pos 1 ∷ pos 2 ∷ []) (pos 0 ∷ pos 1 ∷ []) (pos 1 ∷ []) in
    is (perform s (probe_call s 0 5)) (boxed s (probed (both_feasible 0) (unspent 2 1) (unspent 2 1)) (pos 0 ∷ pos 1 ∷ pos 1 ∷ pos 1 ∷ [])))
    -- sides that moved a bound in the last pass and are quiet now are not Spent (02, C-15)
    ∷ is (perform either (probe_call either 0 1))
    (record {
      answer = probed (both_feasible 4) (unspent 1 1) (unspent 1 1);
      state = with_box either binary2 (0 ∷ 0 ∷ 0 ∷ 1 ∷ 0 ∷ 0 ∷ 1 ∷ 0 ∷ 0 ∷ 1 ∷ 0 ∷ 0 ∷ 1 ∷ 0 ∷ 0 ∷ 0 ∷ []);
    })
    -- a Spent side is used with the box it reached, and records: x = 1 implies y = 0, and z is not reached
    ∷ is (perform behind (probe_call behind 0 1))
    (record {
      answer = probed (both_feasible 2) (unspent 1 0) (spent_side 1 1);
      state = with_box behind behind.model.box (set (set (replicate 36 0) 8 1) 18 1);
    })
    -- both sides None: the sides' own passes, not Spent; one side None: its passes are told too, and it is not Spent
    ∷ is (perform neither (probe_call neither 0 1)) (boxed neither (probed both_infeasible (unspent 1 0) (unspent 1 1)) empty2)
    ∷ (let s = pair (negsuc 0) (negsuc 0) (negsuc 1) in
    is (perform s (probe_call s 0 1)) (boxed s (probed (fixed 1) (unspent 1 0) (unspent 1 1)) (pos 1 ∷ pos 1 ∷ pos 1 ∷ pos 1 ∷ [])))
    -- a new right side of exactly −1,000,000,000 is made; one less is not
    ∷ (let s = deep (pos 0) (neg_ℤ (pos 999_999_999)) in
    is (perform s (tighten_call s 0 0)) (rowed s (tightened changed) (pos 2 ∷ pos 1_000_000 ∷ pos 1 ∷ []) (neg_ℤ (pos 1_000_000_000))))
    ∷ (let s = deep (negsuc 0) (neg_ℤ (pos 1_000_000_000)) in is (perform s (tighten_call s 0 0)) (kept s (tightened unchanged)))
    -- the rest call's own checks: no table
    ∷ is (rest_fault (with_box emptied empty2 [])) 0
    ∷ is (rest_fault (with_box emptied (pos 0 ∷ pos 1 ∷ pos 1 ∷ pos 0 ∷ []) [])) 7
    -- the four counts: a refused call, a None (that empties the box), a change, an unchanged call
    ∷ (let s = single (pos 2) (pos 5) (pos 0) (pos 5) in
    is (tally no_counts s (propagate_row_call s 1 ∷ propagate_row_call s 0 ∷ propagate_row_call s 0 ∷ remove_call s 0 ∷ []))
    (record { refusals = 2; infeasibles = 0; changes = 1; unchanges = 1 }))
    ∷ (let s = single (pos 2) (negsuc 0) (pos 0) (pos 5) in
    is (tally no_counts s (propagate_row_call s 0 ∷ propagate_row_call s 0 ∷ remove_call s 0 ∷ propagate_call s 0 ∷ []))
    (record { refusals = 2; infeasibles = 2; changes = 0; unchanges = 0 }))
    -- a list of numbers, "kind, ..; row; variable; budget": a visit, two sharpens of row 0, which are refused, three refused calls
    -- more, a probe that empties the box, a settle and a visit there, and a drop, refused
    ∷ is (run_list listed
    (1 ∷ 0 ∷ 999 ∷ 0 ∷ 4 ∷ 0 ∷ 0 ∷ 0 ∷ 4 ∷ 0 ∷ 1 ∷ 0 ∷ 9 ∷ 0 ∷ 0 ∷ 1 ∷ 1 ∷ 2 ∷ 0 ∷ 1 ∷ 2 ∷ 1 ∷ 1 ∷ 0 ∷ 3 ∷ 999 ∷ 1 ∷ 1 ∷ 2 ∷ 0 ∷ 0 ∷ 5 ∷ 1 ∷ 1 ∷ 999 ∷ 0 ∷ 5 ∷ 1 ∷ 999 ∷ 0 ∷ []))
    (record {
      answer = ran (record { refusals = 6; infeasibles = 3; changes = 0; unchanges = 1 });
      state = with_box listed empty2 listed.table;
    })
    -- a retired kind (02, C-16) is refused by 18: after 11, before 12 to 14, on the empty box too; and counts as refused
    ∷ is (class_listed listed (call_of listed 4 0 0 0)) (refused_call 18)
    ∷ is (class_listed listed (call_of listed 4 9 9 0)) (refused_call 18)
    ∷ is (class_listed listed (call_of listed 5 9 0 0)) (refused_call 18)
    ∷ is (class_listed emptied (call_of emptied 4 0 0 0)) (refused_call 18)
    ∷ is (class_listed emptied (call_of emptied 5 0 0 0)) (refused_call 18)
    ∷ is (class_listed listed (call_of listed 9 9 9 0)) (refused_call 11)
    ∷ is (class_listed listed (call_of listed 1 9 0 0)) (refused_call 12)
    -- as direct calls they are what they were
    ∷ is (class_of listed (call_of listed 4 0 0 0)) changed_call
    ∷ is (class_of listed (call_of listed 5 9 0 0)) (refused_call 12)
    ∷ is (class_of emptied (call_of emptied 5 0 0 0)) infeasible_call
    -- a probe that records 2 bytes changes the table; a settle with budget 1 after it moves nothing
    ∷ (let s = pair (pos 1) (pos 1) (pos 1) in
    is (run_list s (3 ∷ 999 ∷ 0 ∷ 1000 ∷ 2 ∷ 0 ∷ 0 ∷ 1 ∷ []))
    (record {
      answer = ran (record { refusals = 0; infeasibles = 0; changes = 1; unchanges = 1 });
      state = with_box s binary2 (0 ∷ 0 ∷ 0 ∷ 0 ∷ 0 ∷ 0 ∷ 1 ∷ 0 ∷ 0 ∷ 0 ∷ 0 ∷ 0 ∷ 1 ∷ 0 ∷ 0 ∷ 0 ∷ []);
    }))
    -- the empty list; lists that are refused as a whole, by their own length and by the table, which make no call
    ∷ is (run_list listed []) (record { answer = ran no_counts; state = listed })
    ∷ is (run_list listed (1 ∷ 1 ∷ 0 ∷ 0 ∷ 1 ∷ [])) (record { answer = refused_list 5; state = listed })
    ∷ is (calls_made listed (1 ∷ 1 ∷ 0 ∷ 0 ∷ 1 ∷ [])) []
    ∷ (let s = with_box listed binary2 (2 ∷ replicate 15 0) in
    is (run_list s (1 ∷ 1 ∷ 0 ∷ 0 ∷ [])) (record { answer = refused_list 10; state = s }))
    -- = rows (02, C-14): 2x = 6 with x 0..5, both forms move a bound; again, Same
    ∷ (let s = exact (pos 2) (pos 6) (pos 0) (pos 5) in
    is (perform s (propagate_row_call s 0)) (boxed s (propagated_row changed 2) (pos 3 ∷ pos 3 ∷ [])))
    ∷ (let s = exact (pos 2) (pos 6) (pos 3) (pos 3) in is (perform s (propagate_row_call s 0)) (kept s (propagated_row unchanged 0)))
    -- x + y = 2 moves both lower bounds, by the negated form
    ∷ (let s = exact_pair (pos 1) (pos 1) (pos 2) binary2 in
    is (perform s (propagate_row_call s 0)) (boxed s (propagated_row changed 2) (pos 1 ∷ pos 1 ∷ pos 1 ∷ pos 1 ∷ [])))
    -- 2x = 5 with x 0..5: None on the box that the ≤ form left, and no bound counts; 2x = −1: None by the ≤ form
    ∷ (let s = exact (pos 2) (pos 5) (pos 0) (pos 5) in
    is (perform s (propagate_row_call s 0)) (boxed s (propagated_row infeasible 0) (pos 1 ∷ pos 0 ∷ [])))
    ∷ (let s = exact (pos 2) (pos 5) (pos 0) (pos 5) in
    is (perform s (propagate_call s 9)) (boxed s (propagated none 1 0) (pos 1 ∷ pos 0 ∷ [])))
    ∷ (let s = exact (pos 2) (negsuc 0) (pos 0) (pos 5) in
    is (perform s (propagate_row_call s 0)) (boxed s (propagated_row infeasible 0) (pos 1 ∷ pos 0 ∷ [])))
    -- y = 2x: a second visit moves more, so a settle makes three passes; its two ≤ rows end in the same box
    ∷ is (perform doubled (propagate_row_call doubled 0)) (boxed doubled (propagated_row changed 1) (pos 0 ∷ pos 0 ∷ pos 0 ∷ pos 1 ∷ []))
    ∷ (let s = exact_pair (negsuc 1) (pos 1) (pos 0) (pos 0 ∷ pos 0 ∷ pos 0 ∷ pos 1 ∷ []) in
    is (perform s (propagate_row_call s 0)) (boxed s (propagated_row changed 1) (pos 0 ∷ pos 0 ∷ pos 0 ∷ pos 0 ∷ [])))
    ∷ is (perform doubled (propagate_call doubled 9)) (boxed doubled (propagated converged 3 2) (pos 0 ∷ pos 0 ∷ pos 0 ∷ pos 0 ∷ []))
    ∷ is (perform doubled_forms (propagate_call doubled_forms 9))
    (boxed doubled_forms (propagated converged 3 2) (pos 0 ∷ pos 0 ∷ pos 0 ∷ pos 0 ∷ []))
    -- x + y = 1: a visit is Same; a probe of x records that exactly one is 1; the box is at rest
    ∷ (let s = exact_pair (pos 1) (pos 1) (pos 1) binary2 in is (perform s (propagate_row_call s 0)) (kept s (propagated_row unchanged 0)))
    ∷ (let s = exact_pair (pos 1) (pos 1) (pos 1) binary2 in
    is (perform s (probe_call s 0 9))
    (record {
      answer = probed (both_feasible 4) (unspent 2 1) (unspent 2 1);
      state = with_box s binary2 (0 ∷ 0 ∷ 0 ∷ 1 ∷ 0 ∷ 0 ∷ 1 ∷ 0 ∷ 0 ∷ 1 ∷ 0 ∷ 0 ∷ 1 ∷ 0 ∷ 0 ∷ 0 ∷ []);
    }))
    ∷ (let s = exact_pair (pos 1) (pos 1) (pos 1) binary2 in is (is_probing_fixpoint 2 1 s.model.rows binary2) true)
    ∷ is (is_probing_fixpoint 2 1 doubled.model.rows (pos 0 ∷ pos 0 ∷ pos 0 ∷ pos 1 ∷ [])) false
    -- a sharpen is Same where that of 3x + 2y ≤ 4 is not; 14 comes first; None on the empty box
    ∷ (let s = exact_pair (pos 3) (pos 2) (pos 4) binary2 in is (perform s (tighten_call s 0 0)) (kept s (tightened unchanged)))
    ∷ (let s = exact_pair (pos 3) (pos 2) (pos 4) (pos 0 ∷ pos 2 ∷ pos 0 ∷ pos 1 ∷ []) in
    is (perform s (tighten_call s 0 0)) (kept s (refused 14)))
    ∷ (let s = exact_pair (pos 3) (pos 2) (pos 4) empty2 in is (perform s (tighten_call s 0 0)) (kept s (tightened infeasible)))
    -- a drop: Lmax = b or Lmin = b alone is not enough; Lmin = Lmax = b zeroes the row and its kind; 0 = 0 is dropped for its kind
    ∷ (let s = exact_pair (pos 3) (pos 2) (pos 5) binary2 in is (perform s (remove_call s 0)) (kept s (removed unchanged)))
    ∷ (let s = exact_pair (pos 3) (pos 2) (pos 0) binary2 in is (perform s (remove_call s 0)) (kept s (removed unchanged)))
    ∷ (let s = exact_pair (pos 3) (pos 2) (pos 6) (pos 1 ∷ pos 1 ∷ pos 1 ∷ pos 1 ∷ []) in
    is (perform s (remove_call s 0)) (kept s (removed unchanged)))
    ∷ (let s = exact_pair (pos 3) (pos 2) (pos 5) (pos 1 ∷ pos 1 ∷ pos 1 ∷ pos 1 ∷ []) in
    is (perform s (remove_call s 0)) (rowed s (removed changed) (pos 0 ∷ pos 0 ∷ []) (pos 0)))
    ∷ (let s = exact_pair (pos 0) (pos 0) (pos 0) binary2 in
    is (perform s (remove_call s 0)) (rowed s (removed changed) (pos 0 ∷ pos 0 ∷ []) (pos 0)))
    ∷ (let s = exact_pair (pos 0) (pos 0) (pos 0) empty2 in is (perform s (remove_call s 0)) (kept s (removed infeasible)))
    -- and counts as changed, once
    ∷ (let s = exact_pair (pos 0) (pos 0) (pos 0) binary2 in
    is (class_of s (remove_call s 0)) changed_call)
    ∷ (let s = exact_pair (pos 0) (pos 0) (pos 0) binary2 in
    is (class_of (step s (remove_call s 0)) (remove_call s 0)) unchanged_call)
    -- 16: a kind byte of 2, in every call; 1 is accepted
    ∷ (let s = of_kind 2 (pos 1) 0 in is (perform s (propagate_row_call s 0)) (kept s (refused 16)))
    ∷ (let s = of_kind 2 (pos 1) 0 in is (perform s (propagate_call s 1)) (kept s (refused 16)))
    ∷ (let s = of_kind 2 (pos 1) 0 in is (perform s (tighten_call s 0 0)) (kept s (refused 16)))
    ∷ (let s = of_kind 2 (pos 1) 0 in is (perform s (remove_call s 0)) (kept s (refused 16)))
    ∷ is (rest_fault (of_kind 2 (pos 1) 0)) 16
    ∷ (let s = of_kind 2 (pos 1) 0 in is (run_list s []) (record { answer = refused_list 16; state = s }))
    ∷ is (rest_fault (of_kind 1 (pos 1) 0)) 0
    -- after 9, before 10 and before the call's own checks
    ∷ (let s = of_kind 2 (pos 1_000_000_001) 2 in is (perform s (probe_call s 1 0)) (kept s (refused 9)))
    ∷ (let s = of_kind 2 (pos 1) 2 in is (perform s (probe_call s 1 0)) (kept s (refused 16)))
    ∷ (let s = of_kind 1 (pos 1) 2 in is (perform s (probe_call s 1 0)) (kept s (refused 10)))
    ∷ (let s = of_kind 2 (pos 1) 0 in is (perform s (propagate_row_call s 1)) (kept s (refused 16)))
    -- m kinds: another number of them is 5, before 6 to 9 and 16
    ∷ (let s = of_kind 2 (pos 1) 0 in
    is (perform s (with_lengths (propagate_row_call s 0) (record { box = 2; coefs = 1; rhs = 1; kinds = 2; table = 4 }))) (kept s (refused 5)))
    ∷ (let s = fresh_kinds 1 1 (pos 0 ∷ pos 1 ∷ []) (pos 1 ∷ []) (pos 1_000_000_001 ∷ []) [] in
    is (perform s (propagate_row_call s 0)) (kept s (refused 5)))
    -- what the rest call's no carries (02, C-13): the lowest row that changes the box, None counting; x ≥ 1 and y ≥ 1, and
    -- 0 ≤ 0 and 0 ≤ −1
    ∷ is (rest_in (fresh 2 2 binary2 (negsuc 0 ∷ pos 0 ∷ pos 0 ∷ negsuc 0 ∷ []) (negsuc 0 ∷ negsuc 0 ∷ []))) (by_row 0)
    ∷ is (rest_in (fresh 1 2 (pos 0 ∷ pos 1 ∷ []) (pos 0 ∷ pos 0 ∷ []) (pos 0 ∷ negsuc 0 ∷ []))) (by_row 1)
    ∷ is (rest_in (with_box chained (pos 0 ∷ pos 2 ∷ pos 0 ∷ pos 5 ∷ []) [])) (by_row 1)
    -- the lowest free variable whose sides do not span the box; x, which is in no row, does not fail, and neither does one that is not free
    ∷ is (rest_in crossed) (by_variable 0)
    ∷ is (rest_in (later (pos 1) (pos 0) (pos 0))) (by_variable 1)
    ∷ is (rest_in (later (pos 2) (pos 0) (pos 0))) (by_variable 1)
    -- a row that changes the box comes before any variable
    ∷ is (rest_in (later (pos 1) (negsuc 0) (negsuc 0))) (by_row 2)
    ∷ is (rest_in (later (pos 1) (pos 0) (negsuc 0))) (by_row 2)
    -- the empty box, a box at rest, and one without rows
    ∷ is (rest_in emptied) at_rest
    ∷ is (rest_in (pair (pos 1) (pos 1) (pos 1))) at_rest
    ∷ is (rest_in (fresh 1 0 (pos 0 ∷ pos 1 ∷ []) [] [])) at_rest
    ∷ []
