-- What the code of the tie call needs: its checks one after the other, its value w, and the two ways in which it ends.
use Prim.Native.Nat.{ℕ}
use lib.Dec.{eqb}
use lib.ListN.{length, set}
use lib.IntN.{ℤ}
use mathlib.Core.Bool.{Bool, cond, false, true}
use mathlib.Core.List.{List}
use mathlib.Core.Path.{◌∙◌, ◌≡◌, refl, sym}
use Rattle.integer.proofs.Tests.{bool-ext, eqb-test, test-false, test-true}
use Rattle.model.specs.Checks.{first, model_fault, table}
use Rattle.model.specs.Rows.{rows_of}
use Rattle.model.specs.State.{state_of}
use Rattle.model.proofs.CheckLaws.{first-append}
use Rattle.semantics.specs.Call.{lengths_of}
use Rattle.call_laws.proofs.Accepted.{numbered-model}
use Rattle.ties.specs.TieCall.{TieCall, TiePerformed, can_tie, given_model_tie, is_lent_tie, perform_tie, place_of, refused, same, says, tie, tie_call_of, tie_checks, tie_fault, tie_own_checks, tie_state, tie_with, tied, value_said}
use Rattle.ties.specs.TiedRow.{tie_coefs_to, tie_rhs_to, tie_rows_to, tie_to}
use Rattle.ties.specs.Ties.{TiedState, tied_state_of}
use Rattle.ties.proofs.TieAccepted.{lent-tie-test}

-- ---- the checks of a call that is lent all of s

module _ (s : TiedState) (k j : ℕ) where
  abbrev call : TieCall
  call = tie_call_of s k j

  abbrev of_model : ℕ
  of_model = model_fault s.state.model (table s.state.table) (eqb (length s.ties) s.state.model.n)

  lent-own : is_lent_tie s call ≡ eqb (length s.ties) s.state.model.n
  unfolding tie_call_of lengths_of
  lent-own =
      bool-ext (is_lent_tie s call) (eqb (length s.ties) s.state.model.n)
      (λ t. (eqb-test (length s.ties) s.state.model.n).1 ((lent-tie-test s call).0 t).places)
      (λ t. (lent-tie-test s call).1 (record {
        variables = refl;
        rows = refl;
        box = refl;
        coefs = refl;
        rhs = refl;
        kinds = refl;
        table = refl;
        ties = refl;
        places = (eqb-test (length s.ties) s.state.model.n).0 t;
      }))

  fault-is : tie_fault s call ≡ cond (eqb of_model 0) (first (tie_own_checks s call)) of_model
  unfolding tie_fault tie_checks model_fault given_model_tie tie_call_of
  fault-is = rw lent-own (first-append _ (tie_own_checks s call) (numbered-model s.state.model (table s.state.table) (eqb (length s.ties) s.state.model.n)))

  -- f is what the checks of the model and table come to
  pub tie-model-refuses : {f : ℕ} → f ≡ of_model → (f ≡ 0 → ⊥) → f ≡ tie_fault s call
  tie-model-refuses e n = e ∙ sym (fault-is ∙ rw (test-false (eqb of_model 0) (eqb-test of_model 0) (λ z. n (e ∙ z))))

  pub tie-own-fault : {f r : ℕ} → f ≡ of_model → f ≡ 0 → r ≡ first (tie_own_checks s call) → r ≡ tie_fault s call
  tie-own-fault e z q = q ∙ sym (fault-is ∙ rw (test-true (eqb of_model 0) (eqb-test of_model 0) (sym e ∙ z)))

-- ---- what the call performs

abbrev pub ends_as : TiedState → ℕ → ℕ → TiePerformed → Type 0
ends_as s k j p = p ≡ perform_tie s (tie_call_of s k j)

module _ (s : TiedState) (k j : ℕ) where
  pub tie-refused : {f : ℕ} → f ≡ tie_fault s (tie_call_of s k j) → (f ≡ 0 → ⊥) → ends_as s k j (record { answer = refused f; state = s })
  unfolding perform_tie
  tie-refused e n =
      let g = tie_fault s (tie_call_of s k j) in rw (e, test-false (eqb g 0) (eqb-test g 0) (λ z. n (e ∙ z)))

  -- an accepted call, with the value that the table says
  tie-said : tie s k j
      ≡ cond (eqb (value_said s.state.model.n s.state.table k j) 2) (record { answer = same; state = s })
      (tie_with s k j (value_said s.state.model.n s.state.table k j))
  unfolding tie value_said
  tie-said = by_value (says s.state.model.n s.state.table k j 0) (says s.state.model.n s.state.table k j 1)
    where
      by_value : (a b : Bool) → cond a (tie_with s k j 0) (cond b (tie_with s k j 1) (record { answer = same; state = s }))
          ≡ cond (eqb (cond a 0 (cond b 1 2)) 2) (record { answer = same; state = s }) (tie_with s k j (cond a 0 (cond b 1 2)))
      by_value true b = refl
      by_value false true = refl
      by_value false false = refl

  module _ (ok : tie_fault s (tie_call_of s k j) ≡ 0) {w : ℕ} (is : w ≡ value_said s.state.model.n s.state.table k j) where
    performs : perform_tie s (tie_call_of s k j) ≡ cond (eqb w 2) (record { answer = same; state = s }) (tie_with s k j w)
    unfolding perform_tie tie_call_of
    performs = rw (ok, is) tie-said

    pub tie-unsaid : w ≡ 2 → ends_as s k j (record { answer = same; state = s })
    tie-unsaid e = sym (performs ∙ rw (test-true (eqb w 2) (eqb-test w 2) e))

    pub tie-same : (w ≡ 2 → ⊥) → can_tie s k j w ≡ false → ends_as s k j (record { answer = same; state = s })
    unfolding tie_with
    tie-same n c = sym (performs ∙ rw (test-false (eqb w 2) (eqb-test w 2) n, c))

    pub tie-tied : (w ≡ 2 → ⊥) → can_tie s k j w ≡ true → ends_as s k j (record { answer = tied; state = tie_state s k j w })
    unfolding tie_with
    tie-tied n c = sym (performs ∙ rw (test-false (eqb w 2) (eqb-test w 2) n, c))

-- the buffers that hold the tied state
pub tied-buffers : (n m : ℕ) (B C R : List ℤ) (K t ties : List ℕ) (k j w : ℕ)
    → tied_state_of n m B (rows_of (tie_coefs_to m n k j w C) (tie_rhs_to m n j w C R) K) t (set ties j (place_of k w))
    ≡ tie_state (tied_state_of n m B (rows_of C R K) t ties) k j w
unfolding tie_state tie_to tie_rows_to tied_state_of state_of
tied-buffers n m B C R K t ties k j w = refl
