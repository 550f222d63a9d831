-- The open call's promises, refused or accepted, from the number of its checks and from what an accepted call comes to.
use Rattle.std.specs.Prelude.{◌≡◌, ℕ, true, List, [], Result, Err, length, ℤ}
use mathlib.Core.Path.{◌∙◌, ap, refl, sym}
use Rattle.model.specs.Refusals.{number_of}
use Rattle.model.specs.Rows.{Rows}
use Rattle.model.specs.declared.refusal.Refusal.{Refusal}
use Rattle.model.proofs.RefusalLaws.{number_of-ne0}
use Rattle.model.specs.State.{state_of}
use Rattle.prepared_checks.specs.Checks.{propagate_fault, reasons_fit}
use Rattle.prepared_checks.proofs.CheckLaws.{same-fault}
use Rattle.prepared_model.specs.Layout.{rows_in, variables_of}
use Rattle.prepared_model.specs.Prepared.{Prepared}
use Rattle.reducer.specs.OpenCalls.{performed}
use Rattle.reducer.proofs.OpenCallLaws.{perform-refused, rows-propagated}
use Rattle.semantics.specs.Call.{call_of}
use Rattle.semantics.specs.Perform.{perform, refused}
use Rattle.semantics.specs.Propagate.{propagate}
use Rattle.prepared_call.specs.PreparedCall.{PropagateAccepted, prepared_answer}
use Rattle.prepared_call.specs.declared.PreparedPropagation.{PreparedPropagation}

module _ (W : List ℕ) (B : List ℤ) (R : List ℕ) (budget : ℕ) where
  -- what the call promises where it answers r and leaves W', B' and R'
  abbrev pub Promised : Result PreparedPropagation Refusal → List ℕ → List ℤ → List ℕ → Type 0
  Promised r W' B' R' =
      ((propagate_fault W B R budget ≡ 0 → ⊥) → (prepared_answer r ≡ refused (propagate_fault W B R budget)) × (W' ≡ W) × (B' ≡ B) × (R' ≡ R))
      × ((propagate_fault W B R budget ≡ 0 → PropagateAccepted budget W B (length R) r W' B' R')
      × (((A : Rows) → Prepared W A → reasons_fit (variables_of W) R ≡ true
      → let s = state_of (variables_of W) (rows_in W) B A [] in
      performed (prepared_answer r) (state_of (variables_of W) (rows_in W) B' A []) ≡ perform s (call_of s 2 0 0 budget))
      × ((A : Rows) → Prepared W A → Prepared W' A)))

  pub refused_all : (f : Refusal) → number_of f ≡ propagate_fault W B R budget → Promised (Err f) W B R
  unfolding prepared_answer
  refused_all g e =
      let n = number_of-ne0 g in (
        (λ _. (ap refused e, refl, refl, refl)),
        (
          (λ z. absurd (n (e ∙ z))),
          (
            (λ A p f.
                let s = state_of (variables_of W) (rows_in W) B A [] in perform-refused s (call_of s 2 0 0 budget) (e ∙ same-fault p B R budget f) n),
            (λ A p. p),
          ),
        ),
      )

  pub accepted-all : {r : Result PreparedPropagation Refusal} {W' : List ℕ} {B' : List ℤ} {R' : List ℕ} → propagate_fault W B R budget ≡ 0
      → PropagateAccepted budget W B (length R) r W' B' R' → Promised r W' B' R'
  accepted-all z q = (
    (λ n. absurd (n z)),
    (
      (λ _. q),
      (
        (λ A p f.
            let n = variables_of W in
            let m = rows_in W in
            rw (q.answer A p, q.box A p)
            (rows-propagated n m B A budget (sym (same-fault p B R budget f) ∙ z) (propagate budget n m A B) refl)),
        q.prepared,
      ),
    ),
  )
