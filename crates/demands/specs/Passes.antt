-- Passes told beforehand (02, C-17): the total width of a box, the passes that calls make, and an upper limit on them for which no row
-- is read.
use Rattle.std.specs.Prelude.{◌*◌, ◌+◌, ◌/◌, ◌≤◌, suc, zero, ℕ, T, leb, nat_abs, ℤ, get_or, length, cond, not, List, [], ◌∷◌}
use Rattle.model.specs.Box.{is_empty, width}
use Rattle.model.specs.Model.{Model}
use Rattle.model.specs.State.{State}
use Rattle.model.specs.Valid.{ValidModel}
use Rattle.semantics.specs.Call.{Call, Kind, kind_of, probing, propagation, removal, row_propagation, tightening, unknown}
use Rattle.semantics.specs.CallChecks.{max_budget}
use Rattle.semantics.specs.CallList.{calls_made}
use Rattle.semantics.specs.Perform.{Answer, perform, probed, propagated, propagated_row, refused, removed, tightened}
use Rattle.semantics.specs.Propagate.{is_spent, propagate}
use Rattle.semantics.specs.Run.{step}

-- "the total width, the sum of u − l (0 for the void box)". In any other box that passes the checks it is not negative, and so itself
-- (`total-width-is`).
unfoldable pub total_width : ℕ → List ℤ → ℕ
total_width n B = cond (is_empty n B) 0 (nat_abs (width n B))

-- "a settle budget that is never spent, the width plus 1"
unfoldable pub enough_budget : ℕ → List ℤ → ℕ
enough_budget n B = total_width n B + 1

-- ---- the passes that are made

-- the passes that an answer tells of: a settle's, those of both sides of a probe; other calls make none, nor does a refused one
unfoldable pub passes_of : Answer → ℕ
passes_of (refused number) = 0
passes_of (propagated_row o moved) = 0
passes_of (propagated e passes moved) = passes
passes_of (probed e s0 s1) = s0.passes + s1.passes
passes_of (tightened o) = 0
passes_of (removed o) = 0

-- the passes of the calls of a run from s (`run`), each on the state that the call before it left
unfoldable pub passes_made : State → List Call → ℕ
passes_made s [] = 0
passes_made s (c ∷ cs) = passes_of (perform s c).answer + passes_made (step s c) cs

-- ---- an upper limit on them

unfoldable pub lesser : ℕ → ℕ → ℕ
lesser a b = cond (leb a b) a b

-- "each settle, refused or not, counting the lesser of its budget and the width plus 1, each probe twice that": of a call of kind k,
-- where the total width is w
unfoldable pub call_limit : ℕ → Kind → ℕ → ℕ
call_limit w row_propagation budget = 0
call_limit w propagation budget = lesser budget (w + 1)
call_limit w probing budget = 2 * lesser budget (w + 1)
call_limit w tightening budget = 0
call_limit w removal budget = 0
call_limit w unknown budget = 0

-- of a list of calls
unfoldable pub calls_limit : ℕ → List Call → ℕ
calls_limit w [] = 0
calls_limit w (c ∷ cs) = call_limit w (kind_of c.kind) c.budget + calls_limit w cs

-- of the first i records of a flat list of numbers, four to a record: the first number is the kind, the last the budget
unfoldable pub limit_to : ℕ → ℕ → List ℕ → ℕ
limit_to w zero xs = 0
limit_to w (suc i) xs = limit_to w i xs + call_limit w (kind_of (get_or xs (4 * i) 0)) (get_or xs (4 * i + 3) 0)

-- "an upper limit on the passes it makes"
unfoldable pub pass_limit : ℕ → List ℕ → ℕ
pass_limit w xs = limit_to w (length xs / 4) xs

-- ---- what is promised of them

-- "a settle budget that is never spent": of any accepted model, and check 15 lets it through (`enough-budget`)
unfoldable pub NeverSpent : Type 0
NeverSpent =
    (M : Model) → ValidModel M
    → T (not (is_spent (propagate (enough_budget M.n M.box) M.n M.m M.rows M.box).ending))
    × (1 ≤ enough_budget M.n M.box) × (enough_budget M.n M.box ≤ max_budget)

-- "The passes actually made never exceed it.": of any calls on any state, valid or not (`run-passes-within`)
unfoldable pub RunPassesWithin : Type 0
RunPassesWithin =
    (s : State) (cs : List Call) → passes_made s cs ≤ calls_limit (total_width s.model.n s.model.box) cs

-- of any list on any state, also one that is refused as a whole and then makes no call (`list-passes-within`)
unfoldable pub ListPassesWithin : Type 0
ListPassesWithin =
    (s : State) (xs : List ℕ) → passes_made s (calls_made s xs) ≤ pass_limit (total_width s.model.n s.model.box) xs
