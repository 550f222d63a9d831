-- Demand 1: a call is refused by the number of the first check that applies to it and fails; a refusal changes nothing;
-- everything else is accepted. "What a new number refuses .. joins demand 1's list" (02).
use Rattle.std.specs.Prelude.{◌*◌, ◌+◌, ◌<◌, ◌≤◌, ℕ, T, ◌-ℤ◌, get_or, length, ◌≤ℤ◌, ◌↔◌, ◌≢◌, ◌⊎◌, ◌≡◌}
use Rattle.model.specs.Box.{at, empty_box, is_free, lower, upper}
use Rattle.model.specs.Limits.{max_bound, max_coef, max_rhs, max_rows, max_variables, max_width, min_bound, min_coef, min_rhs}
use Rattle.model.specs.Places.{place}
use Rattle.model.specs.State.{State}
use Rattle.model.specs.Valid.{Between}
use Rattle.semantics.specs.Call.{Call, has_budget, has_row, has_table, has_variable, kind_of}
use Rattle.semantics.specs.CallChecks.{call_fault, listed_fault, max_budget}
use Rattle.semantics.specs.Perform.{Performed, perform, perform_listed, refused}
use Rattle.semantics.specs.Run.{is_refused}

-- the buffers that the call is lent are the state's, and each has exactly the length needed
pub record LengthsFit (s : State) (c : Call) : Type 0 where
  pub variables : c.n ≡ s.model.n
  pub rows : c.m ≡ s.model.m
  pub box : (c.lengths.box ≡ length s.model.box) × (length s.model.box ≡ 2 * c.n)
  pub coefs : (c.lengths.coefs ≡ length s.model.rows.coefs) × (length s.model.rows.coefs ≡ c.m * c.n)
  pub rhs : (c.lengths.rhs ≡ length s.model.rows.rhs) × (length s.model.rows.rhs ≡ c.m)
  -- "Each row gets a kind byte, lent with the right sides" (02, C-14)
  pub kinds : (c.lengths.kinds ≡ length s.model.rows.kinds) × (length s.model.rows.kinds ≡ c.m)
  pub table : T (has_table (kind_of c.kind)) → (c.lengths.table ≡ length s.table) × (length s.table ≡ 4 * (c.n * c.n))

-- Check number N passes, or does not apply; they stand in the order in which they are made. Numbers that are no check of a call
-- (1, 2 and 4 are a book's) pass.
pub record Passes (N : ℕ) (s : State) (c : Call) : Type 0 where
  pub check3 : N ≡ 3 → (1 ≤ c.n) × (c.n ≤ max_variables) × (c.m ≤ max_rows)
  pub check5 : N ≡ 5 → LengthsFit s c
  pub check6 : N ≡ 6 → (i : ℕ) → i < length s.model.box → Between min_bound max_bound (at s.model.box i)
  pub check7 : N ≡ 7 → (s.model.box ≡ empty_box c.n) ⊎ ((j : ℕ) → 2 * j + 1 < length s.model.box → lower s.model.box j ≤ℤ upper s.model.box j)
  pub check23 : N ≡ 23 → (j : ℕ) → 2 * j + 1 < length s.model.box → (upper s.model.box j -ℤ lower s.model.box j) ≤ℤ max_width
  pub check8 : N ≡ 8 → (i : ℕ) → i < length s.model.rows.coefs → Between min_coef max_coef (at s.model.rows.coefs i)
  pub check9 : N ≡ 9 → (i : ℕ) → i < length s.model.rows.rhs → Between min_rhs max_rhs (at s.model.rows.rhs i)
  -- "16, a kind byte above 1, after check 9" (02, C-14)
  pub check16 : N ≡ 16 → (i : ℕ) → i < length s.model.rows.kinds → get_or s.model.rows.kinds i 0 < 2
  pub check10 : N ≡ 10 → T (has_table (kind_of c.kind)) → (i : ℕ) → i < length s.table → get_or s.table i 0 < 2
  pub check11 : N ≡ 11 → (1 ≤ c.kind) × (c.kind ≤ 5)
  pub check12 : N ≡ 12 → T (has_row (kind_of c.kind)) → c.row < s.model.m
  pub check13 : N ≡ 13 → T (has_variable (kind_of c.kind)) → c.variable < s.model.n
  pub check14 : N ≡ 14 → T (has_variable (kind_of c.kind)) → (s.model.box ≡ empty_box s.model.n) ⊎ T (is_free s.model.box c.variable)
  pub check15 : N ≡ 15 → T (has_budget (kind_of c.kind)) → (1 ≤ c.budget) × (c.budget ≤ max_budget)

-- the same of a call that a list makes: "18, a retired kind in a sheet, straight after check 11" (02, C-16)
pub record PassesListed (N : ℕ) (s : State) (c : Call) : Type 0 where
  pub others : Passes N s c
  pub check18 : N ≡ 18 → (c.kind ≢ 4) × (c.kind ≢ 5)

-- of a call on s whose check N passes exactly where Pass N: fault is the number that the checks find, p what the call did
pub record Refusals (s : State) (Pass : ℕ → Type 0) (fault : ℕ) (p : Performed) : Type 0 where
  -- refused by N: check N fails, and every one with an earlier place passes
  pub first : (N : ℕ) → (p.answer ≡ refused N) ↔ ((Pass N → ⊥) × ((M : ℕ) → place M < place N → Pass M))
  -- accepted: every check passes
  pub accepted : (fault ≡ 0) ↔ ((N : ℕ) → Pass N)
  pub answered : (fault ≡ 0) ↔ (T (is_refused p.answer) → ⊥)
  -- a refusal changes no lent number
  pub kept : T (is_refused p.answer) → p.state ≡ s

-- proved as `demand-1`
unfoldable pub Demand1 : Type 0
Demand1 = (s : State) (c : Call) → Refusals s (λ N. Passes N s c) (call_fault s c) (perform s c)

-- of a call that a list makes (proved as `demand-1-lists`)
unfoldable pub Demand1Lists : Type 0
Demand1Lists = (s : State) (c : Call) → Refusals s (λ N. PassesListed N s c) (listed_fault s c) (perform_listed s c)
