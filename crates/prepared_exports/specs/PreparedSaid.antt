-- What the two calls on a prepared model come to in the C interface: with the workspace W, the box B, the reasons R, a probe's table t and
-- the answer A that they are lent, the number that they return, and what they leave (W', B', ..). Of any workspace: `refused` and
-- `accepted`. Of one that is prepared for the rows M, whichever they are: the others.
use Rattle.std.specs.Prelude.{ℕ, ℤ, length, true, List, [], ◌≡◌}
use Rattle.model.specs.Rows.{Rows}
use Rattle.model.specs.State.{state_of}
use Rattle.prepared_checks.specs.Checks.{probe_fault, propagate_fault, reasons_fit, sides_fit}
use Rattle.prepared_model.specs.Layout.{rows_in, variables_of}
use Rattle.prepared_model.specs.Prepared.{Prepared}
use Rattle.prepared_model.specs.ProbeReasons.{probe_reasons}
use Rattle.prepared_model.specs.Reasons.{reasons_of}
use Rattle.prepared_replies.specs.PreparedReplies.{Said, fault_with, prepared_reply, with_rows}
use Rattle.replies.specs.Replies.{answer_length, call_reply}
use Rattle.semantics.specs.Call.{call_of}
use Rattle.semantics.specs.Perform.{perform}

pub record PropagateSaid (budget : ℕ) (W : List ℕ) (B : List ℤ) (R A : List ℕ) (r : ℕ) (W' : List ℕ) (B' : List ℤ) (R' A' : List ℕ) : Type 0 where
  -- "On a refusal no lent number changes, the answer's among them."
  pub refused : let number = fault_with A (propagate_fault W B R budget) in
      (number ≡ 0 → ⊥) → (r ≡ number) × (W' ≡ W) × (B' ≡ B) × (R' ≡ R) × (A' ≡ A)
  pub accepted : fault_with A (propagate_fault W B R budget) ≡ 0 → r ≡ 0
  -- the answer and the box are those of a settle of the model with the rows M and the lent box; in the fourth place stands the row
  pub defined : (M : Rows) → Prepared W M → reasons_fit (variables_of W) R ≡ true → length A ≡ answer_length
      → let s = state_of (variables_of W) (rows_in W) B M [] in
      let p = perform s (call_of s 2 0 0 budget) in
      let row = (reasons_of budget (variables_of W) (rows_in W) M B (length R)).infeasible in
      Said (prepared_reply p.answer row) A r A' × (state_of (variables_of W) (rows_in W) B' M [] ≡ p.state)
  pub reasons : (M : Rows) → Prepared W M → fault_with A (propagate_fault W B R budget) ≡ 0
      → R' ≡ (reasons_of budget (variables_of W) (rows_in W) M B (length R)).movers
  pub prepared : (M : Rows) → Prepared W M → Prepared W' M

pub record ProbeSaid (variable budget : ℕ) (W : List ℕ) (B : List ℤ) (t R A : List ℕ) (r : ℕ) (W' : List ℕ) (B' : List ℤ) (t' R' A' : List ℕ) : Type 0 where
  pub refused : let number = fault_with A (probe_fault W B t R variable budget) in
      (number ≡ 0 → ⊥) → (r ≡ number) × (W' ≡ W) × (B' ≡ B) × (t' ≡ t) × (R' ≡ R) × (A' ≡ A)
  pub accepted : fault_with A (probe_fault W B t R variable budget) ≡ 0 → r ≡ 0
  -- the answer, the box and the table are those of a probe of the model; then stand the rows of the two sides
  pub defined : (M : Rows) → Prepared W M → sides_fit (variables_of W) R ≡ true → length A ≡ answer_length
      → let s = state_of (variables_of W) (rows_in W) B M t in
      let p = perform s (call_of s 3 0 variable budget) in
      let told = probe_reasons variable budget (variables_of W) (rows_in W) M B (length R) in
      Said (with_rows (call_reply p.answer) told.row0 told.row1) A r A' × (state_of (variables_of W) (rows_in W) B' M t' ≡ p.state)
  pub reasons : (M : Rows) → Prepared W M → fault_with A (probe_fault W B t R variable budget) ≡ 0
      → R' ≡ (probe_reasons variable budget (variables_of W) (rows_in W) M B (length R)).movers
  pub prepared : (M : Rows) → Prepared W M → Prepared W' M
