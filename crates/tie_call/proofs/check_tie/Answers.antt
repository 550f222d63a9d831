-- `tie_call::check_tie`: the checks of model and table, then 21, and 13 of k and of j. Assumes nothing.
use Prim.Native.Nat.{ℕ}
use lib.Dec.{eqb, ltb}
use lib.ListN.{length}
use mathlib.Core.Path.{◌≡◌, refl, sym}
use native.Mathlib.Omega.{arith}
use Rattle.std.proofs.lemmas.Result.{err_from_is_err_and}
use Rattle.model.proofs.RefusalLaws.{number_of-ne0}
use lib.IntN.{ℤ}
use mathlib.Core.List.{List}
use Rattle.integer.proofs.Tests.{ltb-test, test-false, test-true}
use Rattle.model.specs.Checks.{first, model_fault, table}
use Rattle.model.specs.Model.{model_of}
use Rattle.model.specs.Rows.{rows_of}
use Rattle.model.specs.State.{state_of}
use Rattle.model.proofs.CheckLaws.{ends, fails, fits-table-fault-none, past}
use Rattle.ties.specs.TieCall.{places_fit, tie_call_of, tie_fault, tie_own_checks}
use Rattle.ties.specs.Ties.{TiedState, tied_state_of}
use Rattle.ties.proofs.TieSteps.{tie-model-refuses, tie-own-fault}
use Rattle.tie_call.proofs.check_tie.Goals as goal

-- the checks of the model and table were made, of a call that is lent all of these
module _ (n m : ℕ) (B C R : List ℤ) (K t ties : List ℕ) (k j : ℕ) where
  abbrev lent : TiedState
  lent = tied_state_of n m B (rows_of C R K) t ties

  refused : {r : ℕ} → r ≡ model_fault (model_of n m B (rows_of C R K)) (table t) (eqb (length ties) n) → (r ≡ 0 → ⊥) → r ≡ tie_fault lent (tie_call_of lent k j)
  unfolding tied_state_of state_of
  refused e h = tie-model-refuses lent k j e h

  -- and passed: what is left to check gives the number
  own : {r : ℕ} → 0 ≡ model_fault (model_of n m B (rows_of C R K)) (table t) (eqb (length ties) n)
      → r ≡ first (tie_own_checks lent (tie_call_of lent k j)) → r ≡ tie_fault lent (tie_call_of lent k j)
  unfolding tied_state_of state_of
  own e h = tie-own-fault lent k j e refl h

pub returns-in_err-check_model_with_table : goal.returns-in_err-check_model_with_table
returns-in_err-check_model_with_table c =
    let a = c.args in
    let p = err_from_is_err_and c.from_residual.result c.from_residual.ensures.1 in
    rw (p.1, p.2)
    (refused a.n a.m a.bounds.now a.coefs.now a.rhs.now a.kinds.now a.table.now a.ties.now a.k a.j c.in_err-check_model_with_table.ensures (number_of-ne0 _))

pub places_fit-requires : goal.places_fit-requires
places_fit-requires c =
    let a = c.args in
    ((fits-table-fault-none (model_of a.n a.m a.bounds.now (rows_of a.coefs.now a.rhs.now a.kinds.now)) a.table.now (eqb (length a.ties.now) a.n)).0
    (sym c.in_ok-check_model_with_table.ensures)).0.few

pub returns-then-not-places_fit : goal.returns-then-not-places_fit
unfolding tie_own_checks tie_call_of tied_state_of state_of
returns-then-not-places_fit c =
    let a = c.args in
    own a.n a.m a.bounds.now a.coefs.now a.rhs.now a.kinds.now a.table.now a.ties.now a.k a.j c.in_ok-check_model_with_table.ensures
    (fails (places_fit a.n a.ties.now) 21 _ (sym c.if-not-places_fit.ensures))

pub returns-then-n-k : goal.returns-then-n-k
unfolding tie_own_checks tie_call_of tied_state_of state_of
returns-then-n-k c =
    let a = c.args in
    own a.n a.m a.bounds.now a.coefs.now a.rhs.now a.kinds.now a.table.now a.ties.now a.k a.j c.in_ok-check_model_with_table.ensures
    (past (places_fit a.n a.ties.now) 21 _ (sym c.if-not-places_fit.ensures)
    (fails (ltb a.k a.n) 13 _ (test-false (ltb a.k a.n) (ltb-test a.k a.n) (λ h. omega arith))))

pub returns-then-n-j : goal.returns-then-n-j
unfolding tie_own_checks tie_call_of tied_state_of state_of
returns-then-n-j c =
    let a = c.args in
    own a.n a.m a.bounds.now a.coefs.now a.rhs.now a.kinds.now a.table.now a.ties.now a.k a.j c.in_ok-check_model_with_table.ensures
    (past (places_fit a.n a.ties.now) 21 _ (sym c.if-not-places_fit.ensures)
    (past (ltb a.k a.n) 13 _ (test-true (ltb a.k a.n) (ltb-test a.k a.n) (omega arith))
    (fails (ltb a.j a.n) 13 _ (test-false (ltb a.j a.n) (ltb-test a.j a.n) (λ h. omega arith)))))

pub returns : goal.returns
unfolding tie_own_checks tie_call_of tied_state_of state_of
returns c =
    let a = c.args in
    own a.n a.m a.bounds.now a.coefs.now a.rhs.now a.kinds.now a.table.now a.ties.now a.k a.j c.in_ok-check_model_with_table.ensures
    (past (places_fit a.n a.ties.now) 21 _ (sym c.if-not-places_fit.ensures)
    (past (ltb a.k a.n) 13 _ (test-true (ltb a.k a.n) (ltb-test a.k a.n) (omega arith))
    (past (ltb a.j a.n) 13 _ (test-true (ltb a.j a.n) (ltb-test a.j a.n) (omega arith)) ends)))
