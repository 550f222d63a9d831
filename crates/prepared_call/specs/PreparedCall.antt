-- The prepared propagate call: its answer in the semantics, and what it comes to. W is the workspace and B the box that it is lent.
use Rattle.std.specs.Prelude.{◌≡◌, ℕ, not, T, List, Result, Ok, Err, ℤ}
use Rattle.model.specs.Refusals.{number_of}
use Rattle.model.specs.Rows.{Rows}
use Rattle.model.specs.Valid.{ValidBox}
use Rattle.model.specs.declared.refusal.Refusal.{Refusal}
use Rattle.prepared_model.specs.Keeps.{Keeps}
use Rattle.prepared_model.specs.Layout.{rows_in, variables_of}
use Rattle.prepared_model.specs.Prepared.{Prepared}
use Rattle.prepared_model.specs.Reasons.{no_row, reasons_of}
use Rattle.semantics.specs.Perform.{Answer, propagated, refused}
use Rattle.semantics.specs.Propagate as ended
use Rattle.semantics.specs.Run.{answers_none, is_refused}
use Rattle.prepared_call.specs.declared.PreparedPropagation.{PreparedPropagation}
use Rattle.prepared_call.specs.declared.PreparedPropagation.TheVariants.{BudgetSpent, Converged, Infeasible}

-- ---- the answer

-- settle: refused N, None, Settled, Spent with the passes and the bounds moved
unfoldable pub prepared_answer : Result PreparedPropagation Refusal → Answer
prepared_answer (Err r) = refused (number_of r)
prepared_answer (Ok (Infeasible passes moved row)) = propagated ended.infeasible passes moved
prepared_answer (Ok (Converged passes moved)) = propagated ended.converged passes moved
prepared_answer (Ok (BudgetSpent passes moved)) = propagated ended.budget_spent passes moved

-- the row at which it ended infeasible
unfoldable pub infeasible_row : Result PreparedPropagation Refusal → ℕ
infeasible_row (Err r) = no_row
infeasible_row (Ok (Infeasible passes moved row)) = row
infeasible_row (Ok (Converged passes moved)) = no_row
infeasible_row (Ok (BudgetSpent passes moved)) = no_row

-- ---- an accepted call that is lent k numbers for the reasons: what is so of any workspace, and what of one that is prepared for the
-- rows A, whichever they are

pub record PropagateAccepted (budget : ℕ) (W : List ℕ) (B : List ℤ) (k : ℕ) (r : Result PreparedPropagation Refusal) (W' : List ℕ) (B' : List ℤ) (R' : List ℕ) : Type 0 where
  pub told : T (not (is_refused (prepared_answer r)))
  pub keeps : Keeps W W' (prepared_answer r) B'
  -- a call that does not end infeasible leaves a valid box
  pub valid : T (not (answers_none (prepared_answer r))) → ValidBox (variables_of W) B'
  -- the answer with its counts, and the box, are those of a settle of the model with the lent box
  pub answer : (A : Rows) → Prepared W A
      → let w = ended.propagate budget (variables_of W) (rows_in W) A B in prepared_answer r ≡ propagated w.ending w.passes w.moved
  pub box : (A : Rows) → Prepared W A → B' ≡ (ended.propagate budget (variables_of W) (rows_in W) A B).box
  -- of each bound the row that moved it last, and the row that was infeasible, are those of the passes over all rows
  pub reasons : (A : Rows) → Prepared W A
      → record { movers = R'; infeasible = infeasible_row r } ≡ reasons_of budget (variables_of W) (rows_in W) A B k
  -- the workspace is still prepared for them
  pub prepared : (A : Rows) → Prepared W A → Prepared W' A
