-- The checks of a call, in their order: those of the model (and table) that it is given, then its own.
use Rattle.std.specs.Prelude.{ℕ, eqb, leb, ltb, Bool, ◌&&◌, ◌||◌, cond, not, List, [], ◌++◌, ◌∷◌}
use Rattle.model.specs.Box.{is_empty, is_free}
use Rattle.model.specs.Checks.{Check, LentTable, first, model_checks, must, none, table}
use Rattle.model.specs.Model.{Model}
use Rattle.model.specs.State.{State}
use Rattle.semantics.specs.Call.{Call, Kind, has_budget, has_row, has_table, has_variable, is_retired, is_unknown, kind_of, lengths_of}

-- the largest budget, 01's: one more than 128 × 65,535, the most that bounds in range can be apart in all. "The largest budget
-- remains" (02, C-22), though an accepted model is at most 128 × 4,096 wide (`LargestBudget`).
abbrev pub max_budget : ℕ
max_budget = 8_388_481

-- the table, where the kind is lent it
unfoldable pub lent_table : Kind → State → LentTable
lent_table k s = cond (has_table k) (table s.table) none

-- "Each call in a list is given the state that the call before it left": its n, m and buffers are the state's. A call whose
-- buffers have other lengths is lent other buffers, and is refused by 5.
unfoldable pub is_lent : Kind → State → Call → Bool
is_lent k s c =
    eqb c.n s.model.n && eqb c.m s.model.m
    && eqb c.lengths.box (lengths_of s).box && eqb c.lengths.coefs (lengths_of s).coefs && eqb c.lengths.rhs (lengths_of s).rhs
    && eqb c.lengths.kinds (lengths_of s).kinds
    && (not (has_table k) || eqb c.lengths.table (lengths_of s).table)

-- the model that the call is given: the state's box and rows, with the call's own n and m
unfoldable pub given_model : State → Call → Model
given_model s c = record { n = c.n; m = c.m; box = s.model.box; rows = s.model.rows }

-- 11. The kind is not 1 to 5.
abbrev pub kind_check : Kind → Check
kind_check k = must (not (is_unknown k)) 11

-- 12. The row is not below m. 13. The variable is not below n. 14. In a box not void, the variable to probe or sharpen is not free
-- 0-1. 15. The budget is not 1 to 8,388,481. Each applies where the kind has the field.
abbrev pub field_checks : Kind → State → Call → List Check
field_checks k s c =
    must (not (has_row k) || ltb c.row s.model.m) 12
    ∷ must (not (has_variable k) || ltb c.variable s.model.n) 13
    ∷ must (not (has_variable k) || (is_empty s.model.n s.model.box || is_free s.model.box c.variable)) 14
    ∷ must (not (has_budget k) || (leb 1 c.budget && leb c.budget max_budget)) 15
    ∷ []

-- the own checks of a direct call
unfoldable pub record_checks : Kind → State → Call → List Check
record_checks k s c = kind_check k ∷ field_checks k s c

-- of a call that a list makes: "18, a retired kind in a sheet, straight after check 11" (02, C-16), whatever its fields and the box
unfoldable pub listed_checks : Kind → State → Call → List Check
listed_checks k s c = kind_check k ∷ must (not (is_retired k)) 18 ∷ field_checks k s c

-- those of the model, 10 where a table is lent, and then the call's own
unfoldable pub call_checks : Kind → State → Call → List Check
call_checks k s c = model_checks (given_model s c) (lent_table k s) (is_lent k s c) ++ record_checks k s c

-- the number by which the call is refused, 0 where it is accepted
unfoldable pub call_fault : State → Call → ℕ
call_fault s c = first (call_checks (kind_of c.kind) s c)

-- the number by which a call of a list is refused, 0 where it is accepted
unfoldable pub listed_fault : State → Call → ℕ
listed_fault s c = let k = kind_of c.kind in first (model_checks (given_model s c) (lent_table k s) (is_lent k s c) ++ listed_checks k s c)
