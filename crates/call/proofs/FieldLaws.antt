-- Of the own checks of a direct call each kind leaves those of its fields: what they come to. Assumes nothing.
use Prim.Native.Nat.{ℕ}
use mathlib.Core.Path.{◌≡◌, refl}
use Rattle.model.specs.Checks.{first}
use Rattle.model.specs.State.{State}
use Rattle.semantics.specs.Call.{call_of, has_budget, has_row, has_variable, is_unknown, kind_of}
use Rattle.semantics.specs.CallChecks.{record_checks}
use Rattle.call.specs.FieldChecks.{budget_checks, probe_checks, row_checks, tightening_checks, variable_checks}

-- the own checks of a call of the given kind, with the n, m and buffers of s
abbrev pub own_fault : State → (kind row variable budget : ℕ) → ℕ
own_fault s kind row variable budget = first (record_checks (kind_of kind) s (call_of s kind row variable budget))

module _ (s : State) where
  pub own_row : (row : ℕ) → first (row_checks s.model.m row) ≡ own_fault s 1 row 0 0
  unfolding record_checks kind_of is_unknown has_row has_variable has_budget first call_of row_checks
  own_row row = refl

  pub own-propagation : (budget : ℕ) → first (budget_checks budget) ≡ own_fault s 2 0 0 budget
  unfolding record_checks kind_of is_unknown has_row has_variable has_budget first call_of budget_checks
  own-propagation budget = refl

  pub own-probe : (variable budget : ℕ) → first (probe_checks s.model.n s.model.box variable budget) ≡ own_fault s 3 0 variable budget
  unfolding record_checks kind_of is_unknown has_row has_variable has_budget first call_of probe_checks variable_checks budget_checks
  own-probe variable budget = refl

  pub own-tightening : (row variable : ℕ) → first (tightening_checks s.model.n s.model.m s.model.box row variable) ≡ own_fault s 4 row variable 0
  unfolding record_checks kind_of is_unknown has_row has_variable has_budget first call_of tightening_checks row_checks variable_checks
  own-tightening row variable = refl

  pub own-removal : (row : ℕ) → first (row_checks s.model.m row) ≡ own_fault s 5 row 0 0
  unfolding record_checks kind_of is_unknown has_row has_variable has_budget first call_of row_checks
  own-removal row = refl
