-- What the loop over the passes needs: one pass more, and how it ends.
use Prim.Native.Nat.{◌+◌, ◌-◌, ◌<◌, ◌^◌, ◌≤◌, ℕ}
use lib.IntN.{◌+ℤ◌, pos, ℤ}
use lib.ListN.{length}
use lib.Signed.{◌≤ℤ◌}
use mathlib.Core.Bool.{Bool}
use mathlib.Core.List.{List}
use mathlib.Core.Path.{◌∙◌, ◌≡◌, ap, refl, sym}
use native.Mathlib.Nat.{sub-zero}
use native.Mathlib.Omega.{arith}
use Rattle.std.specs.Prelude.{None, Some, is_some}
use Rattle.integer.proofs.Parts.{zarith, zify}
use Rattle.model.specs.Box.{width}
use Rattle.model.specs.Model.{model_of}
use Rattle.model.specs.Rows.{Rows}
use Rattle.prepared_model.specs.Layout.{decode}
use Rattle.prepared_model.specs.Reasons.{Reasons, no_row, reasons_from}
use Rattle.prepared_model.specs.RowReasons.{Lent}
use Rattle.prepared_model.proofs.DecodeLaws.{decode-valid}
use Rattle.prepared_model.proofs.ReasonsLaws.{told-all, told-converged, told-infeasible, told_moved}
use Rattle.prepared_row.specs.Looking.{Looking}
use Rattle.propagation.specs.Results.{propagation_of}
use Rattle.propagation.specs.declared.Propagation.TheVariants as code
use Rattle.propagation.proofs.PropagationLoops.{PassIs, pass-converged, pass-infeasible, pass-moved, passes-made}
use Rattle.row_set.specs.Readers.{Calm}
use Rattle.semantics.specs.Propagate.{pass_to, propagate_from}
use Rattle.call_laws.specs.Convergence.{LargestBudget}
use Rattle.call_laws.proofs.Convergence.{width-limit}
use Rattle.prepared_propagation.specs.Known.{Known, PassLeft, PassMade, PassTold}
use Rattle.prepared_propagation.specs.declared.pass.PassEnd.{PassEnd}

pub record Passes (n m : ℕ) (W : List ℕ) (budget : ℕ) (B₀ seen₀ : List ℤ) (D₀ R₀ : List ℕ) (B seen : List ℤ) (D R : List ℕ) (made moved : ℕ) : Type 0 where
  pub le : made ≤ budget
  pub looking : Looking n m W B seen D
  pub lent : Lent n R
  pub box_len : length B ≡ length B₀
  pub seen_len : length seen ≡ length seen₀
  pub set_len : length D ≡ length D₀
  pub list_len : length R ≡ length R₀
  pub lost : (pos moved +ℤ width n B) ≤ℤ width n B₀
  pub told : Known n m W B₀ D₀
      → (propagate_from (budget - made) made moved n m (decode n m W) B ≡ propagate_from budget 0 0 n m (decode n m W) B₀) × Calm n m (decode n m W) B D
      × (reasons_from (budget - made) n m (decode n m W) B R ≡ reasons_from budget n m (decode n m W) B₀ R₀)

pub passes-first : {n m : ℕ} {W : List ℕ} (budget : ℕ) {B seen : List ℤ} {D R : List ℕ} → Looking n m W B seen D → Lent n R → Passes n m W budget B seen D R B seen D R 0 0
passes-first budget v l = record {
  le = omega arith;
  looking = v;
  lent = l;
  box_len = refl;
  seen_len = refl;
  set_len = refl;
  list_len = refl;
  lost = simp zify (omega zarith);
  told = λ k. (rw sub-zero, k.calm, rw sub-zero);
}

-- a pass, after others that moved `before` bounds
is-of : {n m : ℕ} {A : Rows} {B : List ℤ} {over : Bool} {moved : ℕ} {Q : List ℤ} (before : ℕ) → PassMade n m A B over moved Q → PassIs n m A B before over (before + moved) Q
is-of before p = record { ended = p.ended; moved = omega (arith, p.moves); box = p.box }

module _ {n m : ℕ} {W : List ℕ} {budget : ℕ} {B₀ seen₀ : List ℤ} {D₀ R₀ : List ℕ} {B seen : List ℤ} {D R : List ℕ} {made moved : ℕ}
    (i : Passes n m W budget B₀ seen₀ D₀ R₀ B seen D R made moved) where
  abbrev whole : Reasons
  whole = reasons_from budget n m (decode n m W) B₀ R₀

  pub known-now : Known n m W B₀ D₀ → Known n m W B D
  known-now k = record { hearers = k.hearers; calm = (i.told k).1 }

  -- the bounds moved so far, with those of a pass that moved no more than the box is wide
  pub all_small : Looking n m W B₀ seen₀ D₀ → (more : ℕ) → pos more ≤ℤ width n B → moved + more < 2 ^ 32
  unfolding LargestBudget
  all_small v more h =
      let a = simp zify at i.lost in
      let z = v.sized in
      let b = (width-limit (model_of n m B₀ (decode n m W)) (decode-valid n m W z.some z.few z.few_rows z.box)).0 in
      omega (zarith, a)

  -- a pass that moved `more` bounds, left Q and gave the reasons S
  module _ (h : made < budget) {p : PassEnd} {Q : List ℤ} {D' S : List ℕ} (t : Known n m W B D → PassTold n m (decode n m W) B R p Q D' S) where
    abbrev more : ℕ
    more = p.moved

    pass-is : {b : Bool} → is_some p.infeasible ≡ b → Known n m W B₀ D₀ → PassIs n m (decode n m W) B moved b (moved + more) Q
    pass-is e k = rw e at (is-of moved (t (known-now k)).made)

    ended-as : {b : Bool} → is_some p.infeasible ≡ b → Known n m W B₀ D₀ → (pass_to n m (decode n m W) B).ended ≡ b
    ended-as e k = (t (known-now k)).made.ended ∙ e

    pub ended_is : {row : ℕ} → p.infeasible ≡ Some row → Known n m W B₀ D₀
        → propagation_of (code.Infeasible (made + 1) (moved + more)) Q ≡ propagate_from budget 0 0 n m (decode n m W) B₀
    unfolding propagation_of
    ended_is e k = sym (pass-infeasible budget made moved n m (decode n m W) B h (i.told k).0 (pass-is (ap is_some e) k))

    pub ended-told : {row : ℕ} → p.infeasible ≡ Some row → Known n m W B₀ D₀ → (S ≡ whole.movers) × (row ≡ whole.infeasible)
    ended-told e k =
        let d = told-infeasible budget made n m (decode n m W) B R h (i.told k).2 (ended-as (ap is_some e) k) in
        let w = t (known-now k) in
        (rw d (sym w.movers), rw d (w.infeasible _ e))

    pub converged-is : p.infeasible ≡ None → more ≡ 0 → Known n m W B₀ D₀
        → propagation_of (code.Converged (made + 1) (moved + more)) Q ≡ propagate_from budget 0 0 n m (decode n m W) B₀
    unfolding propagation_of
    converged-is e z k =
        let f : moved + more ≡ moved = omega arith in
        rw f (sym (pass-converged budget made moved n m (decode n m W) B h (i.told k).0 (rw f at (pass-is (ap is_some e) k))))

    pub converged-told : p.infeasible ≡ None → more ≡ 0 → Known n m W B₀ D₀ → (S ≡ whole.movers) × (no_row ≡ whole.infeasible)
    converged-told e z k =
        let w = t (known-now k) in
        let d = told-converged budget made n m (decode n m W) B R h (i.told k).2 (ended-as (ap is_some e) k) (w.made.moves ∙ z) in
        (rw d (sym w.movers), rw d)

    pub passes-next : p.infeasible ≡ None → (more ≡ 0 → ⊥) → {seen' : List ℤ} → PassLeft n m W B more Q seen' D'
        → length Q ≡ length B → length seen' ≡ length seen → length D' ≡ length D → length S ≡ length R
        → Passes n m W budget B₀ seen₀ D₀ R₀ Q seen' D' S (made + 1) (moved + more)
    passes-next e z l x y d g = record {
      le = omega arith;
      looking = l.looking;
      lent = record { len = rw g i.lent.len };
      box_len = x ∙ i.box_len;
      seen_len = y ∙ i.seen_len;
      set_len = d ∙ i.set_len;
      list_len = g ∙ i.list_len;
      lost = let a = simp zify at i.lost in let w = simp zify at l.width in simp zify (omega (zarith, a, w));
      told = λ k.
          let w = t (known-now k) in
          let again = told_moved budget made n m (decode n m W) B R h (i.told k).2 (ended-as (ap is_some e) k) (omega (arith, w.made.moves, z)) in (
            pass-moved budget made moved n m (decode n m W) B h (i.told k).0 (pass-is (ap is_some e) k) (λ q. z (omega arith)),
            w.calm,
            rw (w.made.box, w.movers) at again,
          );
    }

  -- the budget's passes are made
  pub made_all : budget ≤ made → Known n m W B₀ D₀ → propagate_from 0 made moved n m (decode n m W) B ≡ propagate_from budget 0 0 n m (decode n m W) B₀
  made_all h k = sym (passes-made budget made moved n m (decode n m W) B h (i.told k).0)

  pub made_told : budget ≤ made → Known n m W B₀ D₀ → (R ≡ whole.movers) × (no_row ≡ whole.infeasible)
  made_told h k = let d = told-all budget made n m (decode n m W) B R h (i.told k).2 in (rw d, rw d)
