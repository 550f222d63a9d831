-- `step::run_record`: in a valid state the checks of a kind's own fields alone say whether the call is refused; else its rule answers and
-- leaves what the direct call of its kind does. A retired kind and no kind are refused.
use Prim.Native.Nat.{◌<◌, ◌≤◌, ℕ}
use mathlib.Core.Logic.{◌⊎◌, inl, inr}
use native.Mathlib.Decide.{dec_lt}
use native.Mathlib.Omega.{arith}
use mathlib.Core.Path.{◌∙◌, ◌≡◌, refl}
use Rattle.semantics.specs.Call.{call_of, has_row, is_retired, kind_of, row_propagation}
use Rattle.model.specs.Rows.{rows_of}
use Rattle.model.specs.State.{state_of}
use Rattle.call_laws.proofs.Accepted.{accepted}
use Rattle.call.specs.Classes.{class_is}
use Rattle.call.proofs.KindLaws.{kind-other}
use Rattle.matrix_view.proofs.RowInLaws.{row_in, valid-row}
use Rattle.probe_step.proofs.AcceptedLaws.{ran-propagation, ran-row}
use Rattle.step.proofs.StepLaws.{fault-probed, listed-accepted, listed-ran, listed-refused, own-11, own-18, own-budget, own-probe, own_row, ran-probed}
use Rattle.model.proofs.RefusalLaws.{number_of-ne0}
use Rattle.step.proofs.run_record.Goals as goal

between : (k : ℕ) → 4 ≤ k → k ≤ 5 → (k ≡ 4) ⊎ (k ≡ 5)
between k a b = go (dec_lt k 5)
  where
    go : Dec (k < 5) → (k ≡ 4) ⊎ (k ≡ 5)
    go (yes h) = inl (omega arith)
    go (no h) = inr (omega arith)

pub returns-in-Err : goal.returns-in-Err
unfolding class_is
returns-in-Err c =
    let a = c.args in
    let A = rows_of a.coefs.now a.rhs.now a.kinds.now in
    let q = listed-refused a.n a.m a.bounds.now A a.table.now a.call.kind a.call.row a.call.variable a.call.budget c.requires
    (c.in-Err.ensures ∙ own_row a.n a.m a.bounds.now A a.table.now a.call.kind a.call.row a.call.variable a.call.budget c.in-1.is) (number_of-ne0 c.in-Err.refusal) in
    record { class = q.0; left = q.1 }

pub propagate_row_at-requires : goal.propagate_row_at-requires
unfolding kind_of is_retired state_of call_of has_row
propagate_row_at-requires c =
    let a = c.args in
    let A = rows_of a.coefs.now a.rhs.now a.kinds.now in
    let s = state_of a.n a.m a.bounds.now A a.table.now in
    let k : kind_of a.call.kind ≡ row_propagation = rw c.in-1.is in
    let f = listed-accepted a.n a.m a.bounds.now A a.table.now a.call.kind a.call.row a.call.variable a.call.budget c.requires (rw c.in-1.is tt)
    (c.in_default-check_row.ensures ∙ own_row a.n a.m a.bounds.now A a.table.now a.call.kind a.call.row a.call.variable a.call.budget c.in-1.is) refl in
    let h = (rw k at (accepted s (call_of s a.call.kind a.call.row a.call.variable a.call.budget) f)).row tt in
    let v = c.requires.model in
    (row_in v a.call.row h, valid-row v a.call.row h v.box)

pub returns-in-Err-check_budget : goal.returns-in-Err-check_budget
unfolding class_is
returns-in-Err-check_budget c =
    let a = c.args in
    let A = rows_of a.coefs.now a.rhs.now a.kinds.now in
    let q = listed-refused a.n a.m a.bounds.now A a.table.now a.call.kind a.call.row a.call.variable a.call.budget c.requires
    (c.in-Err-check_budget.ensures ∙ own-budget a.n a.m a.bounds.now A a.table.now a.call.kind a.call.row a.call.variable a.call.budget c.in-2.is) (number_of-ne0 c.in-Err-check_budget.refusal) in
    record { class = q.0; left = q.1 }

pub propagate-requires : goal.propagate-requires
unfolding state_of
propagate-requires c = c.requires.model

pub check_probe_fields-requires : goal.check_probe_fields-requires
unfolding state_of
check_probe_fields-requires c = record { valid_box = c.requires.model.box; n_nonzero = c.requires.model.some }

pub returns-in-Err-check_probe_fields : goal.returns-in-Err-check_probe_fields
unfolding class_is
returns-in-Err-check_probe_fields c =
    let a = c.args in
    let A = rows_of a.coefs.now a.rhs.now a.kinds.now in
    let q = listed-refused a.n a.m a.bounds.now A a.table.now a.call.kind a.call.row a.call.variable a.call.budget c.requires
    (c.in-Err-check_probe_fields.ensures ∙ own-probe a.n a.m a.bounds.now A a.table.now a.call.kind a.call.row a.call.variable a.call.budget c.in-3.is) (number_of-ne0 c.in-Err-check_probe_fields.refusal) in
    record { class = q.0; left = q.1 }

pub run_probe-requires-clause-budget_value : goal.run_probe-requires-clause-budget_value
unfolding kind_of is_retired
run_probe-requires-clause-budget_value c =
    let a = c.args in
    let A = rows_of a.coefs.now a.rhs.now a.kinds.now in
    fault-probed a.n a.m a.bounds.now A a.table.now a.call.kind a.call.row a.call.variable a.call.budget c.in-3.is
    (listed-accepted a.n a.m a.bounds.now A a.table.now a.call.kind a.call.row a.call.variable a.call.budget c.requires (rw c.in-3.is tt)
    (c.in_default-check_probe_fields.ensures ∙ own-probe a.n a.m a.bounds.now A a.table.now a.call.kind a.call.row a.call.variable a.call.budget c.in-3.is) refl)

pub returns-in_default-check_row : goal.returns-in_default-check_row
unfolding kind_of is_retired
returns-in_default-check_row c =
    let a = c.args in
    let A = rows_of a.coefs.now a.rhs.now a.kinds.now in
    let k = c.in-1.is in
    let f = listed-accepted a.n a.m a.bounds.now A a.table.now a.call.kind a.call.row a.call.variable a.call.budget c.requires (rw k tt)
    (c.in_default-check_row.ensures ∙ own_row a.n a.m a.bounds.now A a.table.now a.call.kind a.call.row a.call.variable a.call.budget k) refl in
    let q = listed-ran a.n a.m a.bounds.now A a.table.now a.call.kind a.call.row a.call.variable a.call.budget (rw k tt)
    (ran-row a.n a.m a.bounds.now A a.table.now a.call.kind a.call.row a.call.variable a.call.budget f _ _ (rw k) c.class_of_row.ensures c.propagate_row_at.ensures) in
    record { class = q.0; left = q.1 }

pub returns-in_default-check_budget : goal.returns-in_default-check_budget
unfolding kind_of is_retired
returns-in_default-check_budget c =
    let a = c.args in
    let A = rows_of a.coefs.now a.rhs.now a.kinds.now in
    let k = c.in-2.is in
    let f = listed-accepted a.n a.m a.bounds.now A a.table.now a.call.kind a.call.row a.call.variable a.call.budget c.requires (rw k tt)
    (c.in_default-check_budget.ensures ∙ own-budget a.n a.m a.bounds.now A a.table.now a.call.kind a.call.row a.call.variable a.call.budget k) refl in
    let q = listed-ran a.n a.m a.bounds.now A a.table.now a.call.kind a.call.row a.call.variable a.call.budget (rw k tt)
    (ran-propagation a.n a.m a.bounds.now A a.table.now a.call.kind a.call.row a.call.variable a.call.budget f _ _ (rw k) c.class_of_propagation.ensures c.propagate.ensures) in
    record { class = q.0; left = q.1 }

pub returns-in_default-check_probe_fields : goal.returns-in_default-check_probe_fields
unfolding kind_of is_retired
returns-in_default-check_probe_fields c =
    let a = c.args in
    let A = rows_of a.coefs.now a.rhs.now a.kinds.now in
    let k = c.in-3.is in
    let q = listed-ran a.n a.m a.bounds.now A a.table.now a.call.kind a.call.row a.call.variable a.call.budget (rw k tt) (ran-probed a.n a.m a.bounds.now A a.table.now a.call.kind a.call.row a.call.variable a.call.budget k (c.run_probe.ensures.class, c.run_probe.ensures.left)) in
    record { class = q.0; left = q.1 }

pub returns-in-4 : goal.returns-in-4
unfolding class_is
returns-in-4 c =
    let a = c.args in
    let A = rows_of a.coefs.now a.rhs.now a.kinds.now in
    let q = listed-refused a.n a.m a.bounds.now A a.table.now a.call.kind a.call.row a.call.variable a.call.budget c.requires
    (own-18 a.n a.m a.bounds.now A a.table.now a.call.kind a.call.row a.call.variable a.call.budget (between a.call.kind (omega arith) (omega arith))) (λ e. omega arith) in
    record { class = q.0; left = q.1 }

pub returns-in_default : goal.returns-in_default
unfolding class_is
returns-in_default c =
    let a = c.args in
    let A = rows_of a.coefs.now a.rhs.now a.kinds.now in
    let k = kind-other a.call.kind (λ e. omega arith) (λ e. omega arith) (λ e. omega arith) (λ e. omega arith) (λ e. omega arith) in
    let q = listed-refused a.n a.m a.bounds.now A a.table.now a.call.kind a.call.row a.call.variable a.call.budget c.requires (own-11 a.n a.m a.bounds.now A a.table.now a.call.kind a.call.row a.call.variable a.call.budget k) (λ e. omega arith) in
    record { class = q.0; left = q.1 }

pub returns-in_default-2 : goal.returns-in_default-2
unfolding class_is
returns-in_default-2 c =
    let a = c.args in
    let A = rows_of a.coefs.now a.rhs.now a.kinds.now in
    let k = kind-other a.call.kind (λ e. omega arith) (λ e. omega arith) (λ e. omega arith) (λ e. omega arith) (λ e. omega arith) in
    let q = listed-refused a.n a.m a.bounds.now A a.table.now a.call.kind a.call.row a.call.variable a.call.budget c.requires (own-11 a.n a.m a.bounds.now A a.table.now a.call.kind a.call.row a.call.variable a.call.budget k) (λ e. omega arith) in
    record { class = q.0; left = q.1 }
