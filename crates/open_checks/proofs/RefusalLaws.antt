-- The number that refuses an open call: what the checks of its model come to, or else its own. Assumes nothing.
use Prim.Native.Nat.{ℕ}
use lib.Dec.{T, eqb}
use lib.IntN.{ℤ}
use mathlib.Core.Bool.{cond, not, true}
use mathlib.Core.List.{List, []}
use mathlib.Core.Path.{◌∙◌, ◌≡◌, refl, sym}
use Rattle.integer.proofs.Tests.{T→false, eqb-test, test-false, test-true}
use Rattle.model.specs.Checks.{model_fault, none}
use Rattle.model.specs.Model.{model_of}
use Rattle.model.specs.Rows.{Rows}
use Rattle.model.specs.State.{State, state_of}
use Rattle.semantics.specs.CallChecks.{call_fault, lent_table}
use Rattle.semantics.specs.Call.{call_of, has_table, kind_of}
use Rattle.call_laws.proofs.Accepted.{fault-of-own, model_fault_of}
use Rattle.call.proofs.FieldLaws.{own_fault}

-- of a call on s that is lent all of it; f is what the checks of the model (and table) come to
module _ (s : State) (kind row variable budget : ℕ) {f : ℕ} (h : f ≡ model_fault_of (kind_of kind) s) where
  fault-is : call_fault s (call_of s kind row variable budget)
      ≡ cond (eqb f 0) (own_fault s kind row variable budget) f
  unfolding call_of
  fault-is = fault-of-own s (call_of s kind row variable budget) refl refl refl ∙ rw h

  pub model-refuses : (f ≡ 0 → ⊥) → f ≡ call_fault s (call_of s kind row variable budget)
  model-refuses n = sym (fault-is ∙ rw (test-false (eqb f 0) (eqb-test f 0) n))

  pub own-fault : {r : ℕ} → f ≡ 0 → r ≡ own_fault s kind row variable budget
      → r ≡ call_fault s (call_of s kind row variable budget)
  own-fault z e = e ∙ sym (fault-is ∙ rw (test-true (eqb f 0) (eqb-test f 0) z))

-- of a call whose kind is lent no table; f is what the checks of the model come to
module _ (n m : ℕ) (B : List ℤ) (A : Rows) (kind row variable budget : ℕ) (t : T (not (has_table (kind_of kind)))) {f : ℕ}
    (h : f ≡ model_fault (model_of n m B A) none true) where
  abbrev here : State
  here = state_of n m B A []

  without : f ≡ model_fault_of (kind_of kind) here
  unfolding state_of lent_table
  without = h ∙ rw (T→false (has_table (kind_of kind)) t)

  pub refused-first : (f ≡ 0 → ⊥) → f ≡ call_fault here (call_of here kind row variable budget)
  refused-first = model-refuses here kind row variable budget without

  pub refused-own : {r : ℕ} → f ≡ 0 → r ≡ own_fault here kind row variable budget → r ≡ call_fault here (call_of here kind row variable budget)
  refused-own = own-fault here kind row variable budget without
