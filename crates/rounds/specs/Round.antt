-- One round of `reduce` (01, "Book"): "A round is: settle with 1,000 passes; drop each row; sharpen each row at each variable free
-- then; probe each variable free then with 1,000. Rows and variables go upwards."
use Rattle.std.specs.Prelude.{suc, zero, ℕ, Bool, ◌||◌, cond, false, true, List, [], ◌++◌, ◌∷◌}
use Rattle.model.specs.Box.{is_empty, is_free}
use Rattle.semantics.specs.Run.{CallClass, changed_call, class_of, infeasible_call, refused_call, run, step, unchanged_call}
use Rattle.semantics.specs.Call.{Call, call_of}
use Rattle.model.specs.State.{State}

-- ---- the calls of a round, each on the state that the calls before it left

-- those of f, then those of g on the state that they leave
unfoldable pub and_then : (State → List Call) → (State → List Call) → State → List Call
and_then f g s = let cs = f s in cs ++ g (run s cs)

-- those of f 0, then of f 1, .. then of f (count − 1)
unfoldable pub upwards : ℕ → (ℕ → State → List Call) → State → List Call
upwards zero f s = []
upwards (suc count) f s = and_then (upwards count f) (f count) s

-- none once the box is empty: the rounds end at None
unfoldable pub unless_empty : (State → List Call) → State → List Call
unless_empty f s = cond (is_empty s.model.n s.model.box) [] (f s)

-- "with 1,000 passes", "with 1,000": the budget of a round's propagation, and of each side of its probes
abbrev pub round_budget : ℕ
round_budget = 1000

-- 01's settle
unfoldable pub propagate_call : State → List Call
propagate_call s = call_of s 2 0 0 round_budget ∷ []

-- 01's drop of row r
unfoldable pub remove_call : ℕ → State → List Call
remove_call r = unless_empty (λ s. call_of s 5 r 0 0 ∷ [])

-- 01's sharpen of row r "at each variable free then": free when its own turn comes
unfoldable pub tighten_call : ℕ → ℕ → State → List Call
tighten_call r k s = cond (is_free s.model.box k) (call_of s 4 r k 0 ∷ []) []

unfoldable pub probe_call : ℕ → State → List Call
probe_call k s = cond (is_free s.model.box k) (call_of s 3 0 k round_budget ∷ []) []

unfoldable pub removals : State → List Call
removals s = upwards s.model.m remove_call s

unfoldable pub tighten_row : ℕ → State → List Call
tighten_row r s = upwards s.model.n (tighten_call r) s

unfoldable pub tightenings : State → List Call
tightenings s = upwards s.model.m tighten_row s

unfoldable pub probes : State → List Call
probes s = upwards s.model.n probe_call s

unfoldable pub round : State → List Call
round s = and_then propagate_call (and_then removals (and_then tightenings probes)) s

-- ---- what it changed

unfoldable pub is_change : CallClass → Bool
is_change (refused_call number) = false
is_change infeasible_call = false
is_change changed_call = true
is_change unchanged_call = false

-- some call of the list, from s, changed a bound, row (its kind too) or table byte
unfoldable pub any_change : State → List Call → Bool
any_change s [] = false
any_change s (c ∷ cs) = is_change (class_of s c) || any_change (step s c) cs
