-- The checks of the prepared calls, in the order of the calls on a model that is lent with every call, whose other checks `prepare` made.
-- W is the workspace, B the box, t the table and R the list of reasons that they are lent.
use Rattle.std.specs.Prelude.{◌*◌, ℕ, eqb, ℤ, length, Bool, ◌&&◌, ◌||◌, List, ◌++◌, ◌∷◌}
use Rattle.call.specs.FieldChecks.{budget_checks, probe_checks}
use Rattle.model.specs.Checks.{Check, box_checks, first, must, table, table_byte_checks}
use Rattle.model.specs.Valid.{ValidBox}
use Rattle.prepared_model.specs.Layout.{is_ours, variables_of}
use Rattle.prepared_model.specs.Prepared.{Ours}
use Rattle.prepared_model.specs.RowReasons.{Lent}

-- ---- a propagation

-- the reasons are told where a list of 2n numbers is lent for them, and not where an empty one is
unfoldable pub reasons_fit : ℕ → List ℕ → Bool
reasons_fit n R = eqb (length R) 0 || eqb (length R) (2 * n)

-- 5: a workspace of another length or not ours, not 2n bounds, or reasons that do not fit. Of the bounds 6, 7 and 23, of the budget 15.
unfoldable pub propagate_checks : List ℕ → List ℤ → List ℕ → ℕ → List Check
propagate_checks W B R budget =
    let n = variables_of W in
    must (is_ours W && (eqb (length B) (2 * n) && reasons_fit n R)) 5 ∷ (box_checks n B ++ budget_checks budget)

-- the number by which the call is refused, 0 where it is accepted
unfoldable pub propagate_fault : List ℕ → List ℤ → List ℕ → ℕ → ℕ
propagate_fault W B R budget = first (propagate_checks W B R budget)

-- what passed them
pub record Accepting (W : List ℕ) (B : List ℤ) (R : List ℕ) : Type 0 where
  pub ours : Ours W
  pub box : ValidBox (variables_of W) B
  pub lent : Lent (variables_of W) R

-- ---- a probe

-- the reasons are told where a list of 4n numbers is lent for them, 2n for each side, and not where an empty one is
unfoldable pub sides_fit : ℕ → List ℕ → Bool
sides_fit n R = eqb (length R) 0 || eqb (length R) (4 * n)

-- 5: a workspace of another length or not ours, not 2n bounds, not 4n² bytes, or reasons that do not fit. Of the bounds 6, 7 and 23, of
-- the table 10.
unfoldable pub lent_checks : List ℕ → List ℤ → List ℕ → List ℕ → List Check
lent_checks W B t R =
    let n = variables_of W in
    must (is_ours W) 5 ∷ must (eqb (length B) (2 * n)) 5 ∷ must (eqb (length t) (4 * (n * n))) 5 ∷ must (sides_fit n R) 5
    ∷ (box_checks n B ++ table_byte_checks (table t))

-- then the probe's own: of the variable 13 and 14, of the budget 15
unfoldable pub prepared_probe_checks : List ℕ → List ℤ → List ℕ → List ℕ → (variable budget : ℕ) → List Check
prepared_probe_checks W B t R variable budget = lent_checks W B t R ++ probe_checks (variables_of W) B variable budget

-- the number by which the call is refused, 0 where it is accepted
unfoldable pub probe_fault : List ℕ → List ℤ → List ℕ → List ℕ → (variable budget : ℕ) → ℕ
probe_fault W B t R variable budget = first (prepared_probe_checks W B t R variable budget)
