-- The measure by which rounds end (02, C-20: "Each round that changes something lowers the total width, a row's absolute coefficients
-- or right side, or the table's zeros, so it ends; that is to be proved."). An absolute right side cannot stand in it: 3x + y ≤ −2 with
-- x free 0-1 and y from −6 to −3 is sharpened at x to 2x + y ≤ −3; and a drop of 0 = 0 changes a kind byte only. What every change
-- lowers is the total width + the table's zeros + the absolute coefficients + the number of rows that are not all zero + the kind
-- bytes (D-49).
use Rattle.std.specs.Prelude.{◌+◌, ◌<◌, ◌≤◌, suc, zero, ℕ, eqb, nat_abs, pos, ℤ, Bool, ◌&&◌, cond, List, [], ◌∷◌, ◌≡◌}
use Rattle.integer.specs.Order.{eq_z}
use Rattle.model.specs.Box.{same_list}
use Rattle.model.specs.Model.{Model}
use Rattle.model.specs.Rows.{Row, row_at}
use Rattle.model.specs.State.{State}
use Rattle.model.specs.Valid.{ValidState}
use Rattle.row.specs.Redundancy.{zero_row}
use Rattle.semantics.specs.Call.{Call}
use Rattle.semantics.specs.Run.{CallClass, changed_call, class_of, infeasible_call, no_counts, refused_call, run, run_listed, step, tally, unchanged_call}
use Rattle.demands.specs.Passes.{total_width}

-- f 0 + f 1 + .. + f (n − 1)
unfoldable pub total : ℕ → (ℕ → ℕ) → ℕ
total zero f = 0
total (suc n) f = total n f + f n

-- how many bytes of a table are 0: "the table's zeros"
unfoldable pub zeros : List ℕ → ℕ
zeros [] = 0
zeros (x ∷ xs) = cond (eqb x 0) (suc (zeros xs)) (zeros xs)

-- the sum of |a| over a row: "a row's absolute coefficients"
unfoldable pub magnitude : List ℤ → ℕ
magnitude [] = 0
magnitude (a ∷ A) = nat_abs a + magnitude A

-- every coefficient and the right side are 0
unfoldable pub is_zero : ℕ → List ℤ → ℤ → Bool
is_zero n A b = eq_z b (pos 0) && same_list A (zero_row n)

-- the absolute coefficients, and 1 where the row's numbers are not all zero
unfoldable pub numbers_weight : ℕ → List ℤ → ℤ → ℕ
numbers_weight n A b = magnitude A + cond (is_zero n A b) 0 1

-- what a row adds to the measure: that, and its kind byte
unfoldable pub row_weight : ℕ → Row → ℕ
row_weight n r = numbers_weight n r.coefs r.rhs + r.kind

unfoldable pub rows_weight : Model → ℕ
rows_weight M = total M.m (λ i. row_weight M.n (row_at M.n M.rows i))

unfoldable pub measure : State → ℕ
measure s = total_width s.model.n s.model.box + zeros s.table + rows_weight s.model

-- the largest measure: 128 × 4,096 + 4 × 128² + 120 × (128 × 1,000,000 + 1 + 1)
abbrev pub max_measure : ℕ
max_measure = 15_360_590_064

-- of any call, refused or not: it never raises the measure; one that counts as changed lowers it, one that counts as unchanged
-- leaves the state. One that answers None, which may make the box empty, need not lower it: with None the rounds end.
pub record Lowers (s : State) (c : Call) : Type 0 where
  pub never : measure (step s c) ≤ measure s
  pub changed : class_of s c ≡ changed_call → measure (step s c) < measure s
  pub unchanged : class_of s c ≡ unchanged_call → step s c ≡ s

-- proved as `call-lowers`
unfoldable pub CallsLower : Type 0
CallsLower = (s : State) (c : Call) → Lowers s c

-- proved as `measure-limit`
unfoldable pub MeasureLimit : Type 0
MeasureLimit = (s : State) → ValidState s → measure s ≤ max_measure

-- ---- so it bounds the calls that change something

-- 1 for a call that counts as changed
unfoldable pub as_changed : CallClass → ℕ
as_changed (refused_call number) = 0
as_changed infeasible_call = 0
as_changed changed_call = 1
as_changed unchanged_call = 0

-- how many calls of the run from s (`run`) count as changed
unfoldable pub changes_made : State → List Call → ℕ
changes_made s [] = 0
changes_made s (c ∷ cs) = as_changed (class_of s c) + changes_made (step s c) cs

-- of any calls on any state: as many as the measure falls by, at most (`run-changes-within`)
unfoldable pub RunChangesWithin : Type 0
RunChangesWithin = (s : State) (cs : List Call) → changes_made s cs + measure (run s cs) ≤ measure s

-- of a list's count of changed calls (`list-changes-within`)
unfoldable pub ListChangesWithin : Type 0
ListChangesWithin = (s : State) (cs : List Call) → (tally no_counts s cs).changes + measure (run_listed s cs) ≤ measure s
