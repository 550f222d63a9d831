-- What the loop over the rows of a pass needs: calm rows are passed over, one row more, and the width that was lost.
use Prim.Native.Nat.{◌+◌, ◌<◌, ◌^◌, ◌≤◌, suc, zero, ℕ}
use lib.Dec.{T}
use lib.IntN.{◌+ℤ◌, pos, ℤ}
use lib.ListN.{length}
use lib.Signed.{◌≤ℤ◌}
use mathlib.Core.Bool.{Bool, false, not, true}
use mathlib.Core.List.{List}
use mathlib.Core.Path.{◌∙◌, ◌≡◌, ap, refl, sym}
use native.Mathlib.Decide.{ℕ_discrete}
use native.Mathlib.Numerals.{add-one}
use native.Mathlib.Omega.{arith}
use mathlib.Core.Logic.{◌⊎◌, inr, ⊎_elim}
use Rattle.std.specs.Prelude.{None, Some}
use Rattle.integer.proofs.Parts.{zarith, zify}
use Rattle.marked_row.proofs.MarkedRowLaws.{left_by, tightened, unmoved}
use Rattle.model.specs.Box.{NonEmpty, width}
use Rattle.model.specs.Model.{model_of}
use Rattle.model.specs.Rows.{Row, Rows, row_at}
use Rattle.prepared_model.specs.Layout.{decode, fall_of, rise_of}
use Rattle.prepared_model.specs.Reasons.{ending_row, reasons_to}
use Rattle.prepared_model.specs.RowReasons.{Lent, row_reasons}
use Rattle.prepared_model.proofs.DecodeLaws.{decode-valid}
use Rattle.prepared_model.proofs.ReasonsLaws.{ending-is, reasons-ended, reasons-next}
use Rattle.prepared_model.proofs.RowReasonLaws.{blames-still}
use Rattle.prepared_row.specs.Looking.{Looking}
use Rattle.propagation.proofs.PropagationLoops.{PassIs, pass-begins, row-feasible, row-infeasible}
use Rattle.row.specs.Answers.{propagated_row_of}
use Rattle.row.specs.Kinds.{propagate_row_of}
use Rattle.row.specs.Outcome.{is_infeasible}
use Rattle.row.specs.Propagation.{PropagatedRow}
use Rattle.row.specs.declared.propagation.RowPropagation.{RowPropagation}
use Rattle.row.specs.declared.propagation.RowPropagation.TheVariants.{Infeasible, Tightened, Unchanged}
use Rattle.row.proofs.KindLaws.{kinded-moved, kinded-non_empty, kinded-shrinks, kinded-valid}
use Rattle.row.proofs.MovedLaws.{moved-width}
use Rattle.row_set.specs.Bits.{bit_at}
use Rattle.row_set.specs.Readers.{Calm, Hearers}
use Rattle.semantics.specs.Propagate.{pass_to}
use Rattle.call_laws.specs.Convergence.{LargestBudget}
use Rattle.call_laws.proofs.Convergence.{width-limit}
use Rattle.call_laws.proofs.PropagateLaws.{moved-at-most}
use Rattle.prepared_propagation.specs.Known.{Known, PassMade, PassTold}

-- rows 0 to r − 1 of the pass over B came to P, and to the reasons S after R
pub record PassBlames (n r : ℕ) (A : Rows) (B : List ℤ) (R : List ℕ) (sum : ℕ) (P : List ℤ) (S : List ℕ) : Type 0 where
  pub is : PassIs n r A B 0 false sum P
  pub movers : reasons_to n r A B R ≡ S

pub blames-first : (n : ℕ) (A : Rows) (B : List ℤ) (R : List ℕ) → PassBlames n 0 A B R 0 B R
unfolding reasons_to
blames-first n A B R = record { is = pass-begins n A B 0; movers = refl }

-- and on it row r answered v, left Q and gave the reasons S'
module _ {n r : ℕ} {A : Rows} {B : List ℤ} {R : List ℕ} {sum : ℕ} {P : List ℤ} {S : List ℕ} (i : PassBlames n r A B R sum P S) (v : RowPropagation)
    (Q : List ℤ) (e : propagated_row_of v Q ≡ propagate_row_of n (row_at n A r) P) {S' : List ℕ}
    (f : S' ≡ row_reasons r P (propagate_row_of n (row_at n A r) P) S) where
  more-movers : reasons_to n (r + 1) A B R ≡ S'
  more-movers = reasons-next n A B R r i.is.ended i.is.box ∙ rw i.movers (sym f)

  pub blames-next : {k now : ℕ} → ((v ≡ Tightened k) × (now ≡ sum + k)) ⊎ ((v ≡ Unchanged) × (now ≡ sum)) → PassBlames n (r + 1) A B R now Q S'
  blames-next a = record { is = row-feasible n r A B 0 v Q i.is e a; movers = more-movers }

  -- it is infeasible: no later row changes anything, and it is the lowest with which the pass is ended
  module _ (m : ℕ) (h : r < m) (t : v ≡ Infeasible) where
    over : (pass_to n (r + 1) A B).ended ≡ true
    over = (row-infeasible n r A B 0 v Q i.is e (r + 1) (omega arith) t).ended

    pub blames-ended : reasons_to n m A B R ≡ S'
    blames-ended = reasons-ended n A B R (r + 1) m (omega arith) (rw over tt) ∙ more-movers

    pub blames-row : r ≡ ending_row n m A B
    blames-row = sym (ending-is n m r A B h i.is.ended over)

-- calm rows are passed over
pub pass-calm : {n m : ℕ} {A : Rows} {B : List ℤ} {R : List ℕ} {sum : ℕ} {P : List ℤ} {S : List ℕ} (D : List ℕ) (r s : ℕ)
    → PassBlames n r A B R sum P S → NonEmpty n P → Calm n m A P D
    → r ≤ s → s ≤ m → ((i : ℕ) → r ≤ i → i < s → bit_at D i ≡ 0)
    → PassBlames n s A B R sum P S
unfolding propagated_row_of is_infeasible
pass-calm D r zero e p c h k f = let z : r ≡ 0 = omega arith in rw z at e
pass-calm {n} {m} {A} {B} {R} {sum} {P} {S} D r (suc s) e p c h k f =
    go (ℕ_discrete r (suc s)) (λ d. pass-calm D r s e p c d (omega arith) (λ i a b. f i a (omega arith)))
  where
    go : Dec (r ≡ suc s) → (r ≤ s → PassBlames n s A B R sum P S) → PassBlames n (suc s) A B R sum P S
    go (yes d) w = rw d at e
    go (no d) w =
        let v = c.same p s (omega arith) (f s (omega arith) (omega arith)) in
        let told = blames-still s P (propagate_row_of n (row_at n A s) P) S (rw v tt) (rw v) refl in
        rw (add-one s) at (blames-next (w (omega arith)) Unchanged P (sym v) told {k = 0} (inr (refl, refl)))

pub made_of : {n m : ℕ} {A : Rows} {B : List ℤ} {over : Bool} {sum : ℕ} {Q : List ℤ} → PassIs n m A B 0 over sum Q → PassMade n m A B over sum Q
made_of i = record { ended = i.ended; moves = omega (arith, i.moved); box = i.box }

-- ---- a row that is not infeasible, which answered v and left Q

module _ (n : ℕ) (row : Row) (P : List ℤ) (v : RowPropagation) {Q : List ℤ} (e : propagated_row_of v Q ≡ propagate_row_of n row P)
    (q : Q ≡ (propagate_row_of n row P).box) (f : T (not (is_infeasible (propagate_row_of n row P).outcome))) where
  row-lost : (pos (propagated_row_of v Q).moved +ℤ width n Q) ≤ℤ width n P
  row-lost =
      let m : (propagated_row_of v Q).moved ≡ (propagate_row_of n row P).moved = ap (λ (w : PropagatedRow). w.moved) e in
      rw (m, kinded-moved n row P f, q) (moved-width n (kinded-shrinks n row P f))

  -- the bounds moved since B, `sum` before it
  pub lost-more : (B : List ℤ) (sum : ℕ) {now : ℕ} → (pos sum +ℤ width n P) ≤ℤ width n B → now ≡ sum + (propagated_row_of v Q).moved
      → (pos now +ℤ width n Q) ≤ℤ width n B
  lost-more B sum w t =
      let a = simp zify at w in
      let b = simp zify at row-lost in
      rw t (simp zify (omega (zarith, a, b)))

pub sum-small : {n m : ℕ} (sum : ℕ) {W : List ℕ} {B seen : List ℤ} (Q : List ℤ) {D : List ℕ} → Looking n m W B seen D → (pos sum +ℤ width n Q) ≤ℤ width n B → NonEmpty n Q → sum < 2 ^ 32
unfolding LargestBudget
sum-small {n} {m} sum {W} {B} Q v w p =
    let a = moved-at-most n sum B p w in
    let b = (width-limit (model_of n m B (decode n m W)) (decode-valid n m W v.sized.some v.sized.few v.sized.few_rows v.sized.box)).0 in
    omega zarith

-- all is as before it
pub looking-on : {n m : ℕ} {W : List ℕ} {P seen : List ℤ} {D : List ℕ} → Looking n m W P seen D → (row : Row) {Q : List ℤ} → Q ≡ (propagate_row_of n row P).box
    → T (not (is_infeasible (propagate_row_of n row P).outcome)) → (seen' : List ℤ) (D' : List ℕ) → (NonEmpty n Q → seen' ≡ Q) → length D' ≡ length D → Looking n m W Q seen' D'
looking-on {n} v row {Q} q f seen' D' known l =
    let p : NonEmpty n Q = rw q (kinded-non_empty row v.non_empty f) in
    record {
      sized = record { some = v.sized.some; few = v.sized.few; few_rows = v.sized.few_rows; len = v.sized.len; box = rw q (kinded-valid row v.sized.box) };
      non_empty = p;
      known = known p;
      set = l ∙ v.set;
    }

-- ---- the loop: rows 0 to r − 1 of the pass over B₀ came to the box B and the reasons R

pub record Passing (n m : ℕ) (W : List ℕ) (B₀ seen₀ : List ℤ) (D₀ R₀ : List ℕ) (B seen : List ℤ) (D R : List ℕ) (moved r : ℕ) : Type 0 where
  pub le : r ≤ m
  pub looking : Looking n m W B seen D
  pub lent : Lent n R
  pub box_len : length B ≡ length B₀
  pub seen_len : length seen ≡ length seen₀
  pub set_len : length D ≡ length D₀
  pub list_len : length R ≡ length R₀
  pub lost : (pos moved +ℤ width n B) ≤ℤ width n B₀
  pub told : Known n m W B₀ D₀ → PassBlames n r (decode n m W) B₀ R₀ moved B R × Calm n m (decode n m W) B D

-- before the first row that is to be looked at
pub passing-first : {n m : ℕ} {W : List ℕ} {B seen : List ℤ} {D R : List ℕ} → Looking n m W B seen D → Lent n R → (s : ℕ) → s ≤ m
    → ((i : ℕ) → 0 ≤ i → i < s → bit_at D i ≡ 0) → Passing n m W B seen D R B seen D R 0 s
passing-first {n} {m} {W} {B} {D = D} {R} v l s k f = record {
  le = k;
  looking = v;
  lent = l;
  box_len = refl;
  seen_len = refl;
  set_len = refl;
  list_len = refl;
  lost = simp zify (omega zarith);
  told = λ t. (pass-calm D 0 s (blames-first n (decode n m W) B R) v.non_empty t.calm (omega arith) k f, t.calm);
}

-- row r answered v, left Q and the set D', and gave the reasons S
module _ {n m : ℕ} {W : List ℕ} {B₀ seen₀ : List ℤ} {D₀ R₀ : List ℕ} {B seen : List ℤ} {D R : List ℕ} {moved r : ℕ}
    (i : Passing n m W B₀ seen₀ D₀ R₀ B seen D R moved r) (h : r < m) (v : RowPropagation) (Q : List ℤ)
    (e : propagated_row_of v Q ≡ propagate_row_of n (row_at n (decode n m W) r) B) where
  abbrev row : Row
  row = row_at n (decode n m W) r

  module _ (D' : List ℕ) (calm : Hearers n m (decode n m W) (rise_of W) (fall_of W) → Calm n m (decode n m W) B D → Calm n m (decode n m W) Q D')
      {S : List ℕ} (b : S ≡ row_reasons r B (propagate_row_of n row B) R) where
    -- it is infeasible
    pub passing-ended : v ≡ Infeasible → Known n m W B₀ D₀ → PassTold n m (decode n m W) B₀ R₀ (record { moved = moved; infeasible = Some r }) Q D' S
    passing-ended t k =
        let y = i.told k in
        record {
          made = made_of (row-infeasible n r (decode n m W) B₀ 0 v Q y.0.is e m h t);
          calm = calm k.hearers y.1;
          movers = blames-ended y.0 v Q e b m h t;
          infeasible = λ s z. let same : r ≡ s = cc in rw (sym same) (blames-row y.0 v Q e b m h t);
        }

  -- it is not
  module _ {k now : ℕ} (a : ((v ≡ Tightened k) × (now ≡ moved + k)) ⊎ ((v ≡ Unchanged) × (now ≡ moved))) where
    feasible : T (not (is_infeasible (propagate_row_of n row B).outcome))
    feasible = ⊎_elim (λ w. tightened v Q e w.0) (λ w. (unmoved v Q e w.0).0) a

    counted : now ≡ moved + (propagated_row_of v Q).moved
    unfolding propagated_row_of
    counted = ⊎_elim (λ w. w.1 ∙ rw w.0) (λ w. w.1 ∙ rw w.0 (omega arith)) a

    pub passing-lost : (pos now +ℤ width n Q) ≤ℤ width n B₀
    passing-lost = lost-more n row B v e (left_by v Q e) feasible B₀ moved i.lost counted

    pub passing-some : NonEmpty n Q
    passing-some = rw (left_by v Q e) (kinded-non_empty row i.looking.non_empty feasible)

    -- and s is the next row that is to be looked at
    pub passing-next : (seen' : List ℤ) (D' : List ℕ) {S : List ℕ} → (NonEmpty n Q → seen' ≡ Q)
        → (Hearers n m (decode n m W) (rise_of W) (fall_of W) → Calm n m (decode n m W) B D → Calm n m (decode n m W) Q D')
        → S ≡ row_reasons r B (propagate_row_of n row B) R
        → length Q ≡ length B → length seen' ≡ length seen → length D' ≡ length D → length S ≡ length R
        → (s : ℕ) → r + 1 ≤ s → s ≤ m → ((j : ℕ) → r + 1 ≤ j → j < s → bit_at D' j ≡ 0)
        → Passing n m W B₀ seen₀ D₀ R₀ Q seen' D' S now s
    passing-next seen' D' known calm b l x d y s o z f = record {
      le = z;
      looking = looking-on i.looking row (left_by v Q e) feasible seen' D' known d;
      lent = record { len = rw y i.lent.len };
      box_len = l ∙ i.box_len;
      seen_len = x ∙ i.seen_len;
      set_len = d ∙ i.set_len;
      list_len = y ∙ i.list_len;
      lost = passing-lost;
      told = λ t.
          let w = i.told t in
          let c = calm t.hearers w.1 in
          (pass-calm D' (r + 1) s (blames-next w.0 v Q e b a) passing-some c o z f, c);
    }

-- all rows are passed, and none ended it
pub passing-all : {n m : ℕ} {W : List ℕ} {B₀ seen₀ : List ℤ} {D₀ R₀ : List ℕ} {B seen : List ℤ} {D R : List ℕ} {moved r : ℕ}
    → Passing n m W B₀ seen₀ D₀ R₀ B seen D R moved r → r ≡ m → Known n m W B₀ D₀
    → PassTold n m (decode n m W) B₀ R₀ (record { moved = moved; infeasible = None }) B D R
passing-all i e k =
    let y = i.told k in
    record { made = made_of (rw e at y.0.is); calm = y.1; movers = rw e at y.0.movers; infeasible = λ r t. cc }
