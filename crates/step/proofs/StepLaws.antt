-- What a record of a list asks for: the checks of its own fields, and its call as a list makes it. Assumes nothing.
use Prim.Native.Nat.{ℕ}
use lib.Dec.{T}
use lib.IntN.{ℤ}
use mathlib.Core.Bool.{not}
use mathlib.Core.List.{List}
use mathlib.Core.Logic.{◌⊎◌, ⊎_elim}
use mathlib.Core.Path.{◌∙◌, ◌≡◌, ap, refl, sym}
use Rattle.model.specs.Rows.{Rows}
use Rattle.semantics.specs.CallChecks.{call_checks, call_fault, given_model, is_lent, listed_checks, listed_fault, record_checks}
use Rattle.semantics.specs.Perform.{Performed, act, perform}
use Rattle.semantics.specs.Run.{CallClass, class_listed, class_of, refused_call, step, step_listed}
use Rattle.semantics.specs.Call.{Call, call_of, has_budget, has_row, has_variable, is_retired, is_unknown, kind_of, unknown}
use Rattle.model.specs.State.{State, state_of}
use Rattle.model.specs.Checks.{first, model_checks}
use Rattle.model.specs.Valid.{ValidState}
use Rattle.call_laws.proofs.Accepted.{fault-listed-own}
use Rattle.demands.proofs.ListedLaws.{class-direct, class-listed-refused, listed-fault, step-direct}
use Rattle.call.specs.FieldChecks.{budget_checks, probe_checks, row_checks, variable_checks}
use Rattle.probe_step.proofs.AcceptedLaws.{Ran}

-- a probe's row is not looked at
row-ignored : (s : State) (row variable budget : ℕ) → perform s (call_of s 3 row variable budget) ≡ perform s (call_of s 3 0 variable budget)
unfolding perform call_fault call_checks model_checks given_model is_lent record_checks act call_of kind_of has_row
row-ignored s row variable budget = refl

step-ignored : (s : State) (row variable budget : ℕ) → step s (call_of s 3 row variable budget) ≡ step s (call_of s 3 0 variable budget)
unfolding step
step-ignored s row variable budget = ap (λ (p : Performed). p.state) (row-ignored s row variable budget)

module _ (n m : ℕ) (B : List ℤ) (A : Rows) (t : List ℕ) (kind row variable budget : ℕ) where
  abbrev s : State
  s = state_of n m B A t

  abbrev call : Call
  call = call_of s kind row variable budget

  pub ran-probed : {k : CallClass} {r : State} → kind ≡ 3
      → (k ≡ class_of s (call_of s 3 0 variable budget)) × (r ≡ step s (call_of s 3 0 variable budget)) → Ran n m B A t kind row variable budget k r
  unfolding class_of
  ran-probed e h = rw (e, step-ignored s row variable budget, row-ignored s row variable budget) h

  pub fault-probed : kind ≡ 3 → call_fault s call ≡ 0 → call_fault s (call_of s 3 0 variable budget) ≡ 0
  unfolding call_fault call_checks model_checks given_model is_lent record_checks call_of kind_of has_row
  fault-probed e f = rw e at f

  -- ---- as a list makes it

  -- the class k and the state r are then the call's
  abbrev pub Listed : CallClass → State → Type 0
  Listed k r = (k ≡ class_listed s call) × (r ≡ step_listed s call)

  pub listed-ran : T (not (is_retired (kind_of kind))) → {k : CallClass} {r : State} → Ran n m B A t kind row variable budget k r → Listed k r
  unfolding call_of
  listed-ran t w = (w.0 ∙ sym (class-direct s call t), w.1 ∙ sym (step-direct s call t))

  -- the checks of a kind's own fields are what its checks in a list come to; a retired kind has one, and no kind none
  pub own_row : kind ≡ 1 → first (row_checks m row) ≡ first (listed_checks (kind_of kind) s call)
  unfolding listed_checks kind_of is_unknown is_retired has_row has_variable has_budget first state_of call_of row_checks
  own_row e = rw e

  pub own-budget : kind ≡ 2 → first (budget_checks budget) ≡ first (listed_checks (kind_of kind) s call)
  unfolding listed_checks kind_of is_unknown is_retired has_row has_variable has_budget first state_of call_of budget_checks
  own-budget e = rw e

  pub own-probe : kind ≡ 3 → first (probe_checks n B variable budget) ≡ first (listed_checks (kind_of kind) s call)
  unfolding listed_checks kind_of is_unknown is_retired has_row has_variable has_budget first state_of call_of probe_checks variable_checks budget_checks
  own-probe e = rw e

  pub own-18 : (kind ≡ 4) ⊎ (kind ≡ 5) → 18 ≡ first (listed_checks (kind_of kind) s call)
  unfolding listed_checks kind_of is_unknown is_retired first
  own-18 d = ⊎_elim (λ e. rw e) (λ e. rw e) d

  pub own-11 : kind_of kind ≡ unknown → 11 ≡ first (listed_checks (kind_of kind) s call)
  unfolding listed_checks is_unknown first
  own-11 e = rw e

  -- in a valid state only these can refuse it
  module _ (v : ValidState s) where
    own : listed_fault s call ≡ first (listed_checks (kind_of kind) s call)
    unfolding state_of call_of
    own = fault-listed-own s call v refl refl refl

    pub listed-refused : {N : ℕ} → N ≡ first (listed_checks (kind_of kind) s call) → (N ≡ 0 → ⊥) → Listed (refused_call N) s
    listed-refused e z =
        let w = class-listed-refused s call (λ f. z (e ∙ sym own ∙ f)) in (ap refused_call (e ∙ sym own) ∙ w.0, w.1)

    pub listed-accepted : T (not (is_retired (kind_of kind))) → {N : ℕ} → N ≡ first (listed_checks (kind_of kind) s call) → N ≡ 0 → call_fault s call ≡ 0
    unfolding call_of
    listed-accepted t e z = sym (listed-fault s call t) ∙ own ∙ sym e ∙ z
