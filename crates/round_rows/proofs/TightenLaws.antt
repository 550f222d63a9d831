-- What the functions that tighten rows need of the definitions: a coefficient that fails the rule's test stays, and the numbers of the
-- test are in range. Assumes nothing.
use Prim.Native.Nat.{◌*◌, ◌+◌, ◌<◌, ◌≤◌, ℕ}
use lib.Dec.{T, eqb, eqb→eq}
use lib.IntN.{ℤ}
use lib.ListN.{length}
use mathlib.Core.Bool.{Bool, ◌&&◌, cond, false, not, or-false, true}
use mathlib.Core.List.{List, [], ◌∷◌}
use mathlib.Core.Logic.{⊎_elim}
use mathlib.Core.Path.{◌∙◌, ◌≡◌, ap, refl, sym}
use native.Mathlib.Omega.{arith}
use Rattle.integer.proofs.Tests.{cond_ind, T→false, decide}
use Rattle.model.specs.Box.{is_empty, at, is_free}
use Rattle.semantics.specs.Perform.{act, perform}
use Rattle.model.specs.Valid.{ValidModel}
use Rattle.semantics.specs.Run.{class_of, run, is_refused}
use Rattle.model.specs.Model.{Model}
use Rattle.model.specs.Rows.{row_at, row_of, rows_of}
use Rattle.row.specs.Activity.{max_activity}
use Rattle.row.specs.Outcome as outcomes
use Rattle.row.specs.Outcome.{is_changed, is_infeasible}
use Rattle.row.specs.KindChanges.{ChangedRow, tighten_row_of}
use Rattle.row.specs.Tightening.{may_tighten}
use Rattle.row.specs.ValidRow.{ValidCoefs}
use Rattle.row.proofs.RowLoops.{coefs-small, max-activity-small}
use Rattle.row.proofs.KindChangeLaws.{tighten-kinded-ind, tighten-kinded-unchanged}
use Rattle.row.proofs.TighteningLaws.{tighten-fails}
use Rattle.semantics.specs.CallChecks.{call_fault}
use Rattle.semantics.specs.Call.{call_of, kind_of}
use Rattle.model.specs.State.{State}
use Rattle.call_laws.proofs.CallLaws.{step-ind}
use Rattle.rounds.specs.Round.{any_change, is_change, tighten_call}
use Rattle.call_laws.proofs.ClassLaws.{class_by, tighten-class}
use Rattle.call_laws.proofs.RowChange.{row-valid, with_row-same}
use Rattle.matrix_view.proofs.RowInLaws.{row_fits}
use Rattle.round_rows.specs.TightenedAt.{TightenedAt}
use Rattle.rounds.proofs.RoundLaws.{Leads, no_call}

-- ---- a coefficient that fails the rule's test

-- a class other than changed
same_class : (none : Bool) → is_change (class_by none true) ≡ false
unfolding is_change
same_class true = refl
same_class false = refl

module _ (s : State) (r k : ℕ) where
  abbrev row : List ℤ
  row = row_of s.model.n s.model.rows.coefs r

  abbrev tightening : ChangedRow
  tightening = tighten_row_of s.model.n (row_at s.model.n s.model.rows r) s.model.box k

  -- it stays; a coefficient of an = row does anyway
  untightened : may_tighten (at row k) (max_activity s.model.n row s.model.box) (at s.model.rows.rhs r) ≡ false → T (not (is_changed tightening.outcome))
  unfolding is_changed
  untightened h = tighten-kinded-ind s.model.n (row_at s.model.n s.model.rows r) s.model.box k (λ q. T (not (is_changed q.outcome)))
      (λ _. cond_ind (is_empty s.model.n s.model.box) outcomes.infeasible outcomes.unchanged (λ o. T (not (is_changed o))) (λ _. tt) (λ _. tt))
      (λ _. tighten-fails s.model.n row (at s.model.rows.rhs r) s.model.box k h)

  -- the call to tighten it leaves the state and changes nothing, refused or not
  untightened-class : T (not (is_changed tightening.outcome)) → is_change (class_of s (call_of s 4 r k 0)) ≡ false
  unfolding call_of kind_of class_of perform is_refused is_change
  untightened-class t = ⊎_elim
      (λ f. ap is_change (tighten-class s (call_of s 4 r k 0) (eqb→eq (call_fault s (call_of s 4 r k 0)) 0 f) refl)
      ∙ ap (λ (x : Bool). is_change (class_by (is_infeasible tightening.outcome) (not x))) (T→false (is_changed tightening.outcome) t)
      ∙ same_class (is_infeasible tightening.outcome))
      (λ f. rw (T→false (eqb (call_fault s (call_of s 4 r k 0)) 0) f) refl)
      (decide (eqb (call_fault s (call_of s 4 r k 0)) 0))

  untightened-call : may_tighten (at row k) (max_activity s.model.n row s.model.box) (at s.model.rows.rhs r) ≡ false → Leads s (call_of s 4 r k 0 ∷ []) s false
  unfolding run any_change act call_of kind_of
  untightened-call h =
      let t = untightened h in
      let u = tighten-kinded-unchanged s.model.n (row_at s.model.n s.model.rows r) s.model.box k t in
      record {
        left = sym (step-ind s (call_of s 4 r k 0) (λ x. x ≡ s) (λ _. with_row-same s r tightening.row u) refl);
        changed = sym (or-false (is_change (class_of s (call_of s 4 r k 0))) ∙ untightened-class t);
      }

  -- so the turn of a variable that is not free, or whose coefficient fails the test, is made by doing nothing
  pub untightened-turn : {most : ℤ} → most ≡ max_activity s.model.n row s.model.box
      → (is_free s.model.box k && may_tighten (at row k) most (at s.model.rows.rhs r)) ≡ false → Leads s (tighten_call r k s) s false
  unfolding tighten_call
  untightened-turn {most} e z = go (is_free s.model.box k) z
    where
      go : (free : Bool) → (free && may_tighten (at row k) most (at s.model.rows.rhs r)) ≡ false → Leads s (cond free (call_of s 4 r k 0 ∷ []) []) s false
      go true q = untightened-call (rw (sym e) q)
      go false q = no_call s

-- what is asked where the greatest activity of a row is found, and where a coefficient is tested
module _ {M : Model} (v : ValidModel M) {r : ℕ} (h : r < M.m) where
  pub row-ready : (r * M.n + M.n ≤ length M.rows.coefs) × ValidCoefs M.n (row_of M.n M.rows.coefs r) M.box
  row-ready = (row_fits v r h, (row-valid M r v h).coefs)

  pub looked-at : {k : ℕ} {most : ℤ} → k < M.n → most ≡ max_activity M.n (row_of M.n M.rows.coefs r) M.box
      → TightenedAt M.n M.box (rows_of M.rows.coefs M.rows.rhs []) r k most
  looked-at {k} i e = record {
    variable = i;
    box = omega (arith, v.box.len);
    coefs = row-ready.0;
    rhs = rw v.rhs_len h;
    coef = coefs-small row-ready.1 k;
    small = rw e (max-activity-small row-ready.1);
  }
