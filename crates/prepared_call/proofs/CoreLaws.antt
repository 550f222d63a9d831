-- An accepted call: what the passes came to is what the settle of the model comes to, and what is kept leaves the workspace prepared.
use Rattle.std.specs.Prelude.{◌≡◌, Ok, ℕ, zero, suc, ◌+◌, Bool, true, false, cond, not, T, ltb, List, [], length, take, replicate, ℤ}
use lib.Dec.{T_not}
use lib.ListN.{length-replicate}
use lib.Seq.{length-take-le}
use mathlib.Core.Bool.{true≢false}
use mathlib.Core.Logic.{inl, inr, ⊎_elim}
use mathlib.Core.Path.{◌∙◌, ap, ap₂, refl, sym}
use native.Mathlib.Omega.{arith}
use Rattle.marked_row.proofs.LocalBox.{blank}
use Rattle.model.specs.Box.{is_empty}
use Rattle.model.specs.Rows.{Rows}
use Rattle.model.proofs.BoxLaws.{empty-is}
use Rattle.prepared_checks.specs.Checks.{Accepting}
use Rattle.prepared_model.specs.Layout.{decode, rows_in, variables_of}
use Rattle.prepared_model.specs.Prepared.{Prepared}
use Rattle.prepared_model.specs.Reasons.{Reasons, ending_row, no_row, reasons_from, reasons_of, reasons_to}
use Rattle.prepared_model.specs.SameBut.{SameBut}
use Rattle.prepared_model.proofs.KeepsLaws.{keeps-box, keeps-none}
use Rattle.prepared_model.proofs.KeptLaws.{prepared-kept, same-join}
use Rattle.prepared_propagation.specs.Known.{Known}
use Rattle.prepared_propagation.specs.declared.PreparedEnd.{PreparedEnd}
use Rattle.prepared_row.specs.Looking.{Looking}
use Rattle.propagation.specs.Results.{propagation_of}
use Rattle.propagation.specs.declared.Propagation.{Propagation}
use Rattle.propagation.specs.declared.Propagation.TheVariants as made
use Rattle.row_set.specs.Readers.{Calm}
use Rattle.semantics.specs.Perform.{propagated}
use Rattle.semantics.specs.Propagate.{Propagated, converged, infeasible, is_none, pass_to, propagate, propagate_from}
use Rattle.semantics.specs.Run.{answers_none, is_refused}
use Rattle.prepared_call.specs.Core.{Kept, Ran, Running}
use Rattle.prepared_call.specs.PreparedCall.{PropagateAccepted, infeasible_row, prepared_answer}
use Rattle.prepared_call.specs.declared.PreparedPropagation.TheVariants as code

-- ---- the passes

-- a prepared workspace knows a box in which the rows outside the set are calm
known_of : {W : List ℕ} {A : Rows} {B : List ℤ} {D : List ℕ} → Prepared W A → Calm (variables_of W) (rows_in W) A B D
    → Known (variables_of W) (rows_in W) W B D
known_of p c = record { hearers = rw p.rows p.hearers; calm = rw p.rows c }

abbrev reasons-with : List ℕ → ℕ → Reasons
reasons-with R r = record { movers = R; infeasible = r }

-- from what `propagate_prepared` says of the rows that the workspace holds
pub ran-is : (budget : ℕ) {W : List ℕ} {B : List ℤ} {D R : List ℕ} {p : PreparedEnd} {B' seen : List ℤ} {D' R' : List ℕ}
    → ((A : Rows) → Prepared W A → Calm (variables_of W) (rows_in W) A B D) → length D' ≡ 4
    → (Known (variables_of W) (rows_in W) W B D
    → propagation_of p.end B' ≡ propagate_from budget 0 0 (variables_of W) (rows_in W) (decode (variables_of W) (rows_in W) W) B)
    → (Known (variables_of W) (rows_in W) W B D → Calm (variables_of W) (rows_in W) (decode (variables_of W) (rows_in W) W) B' D')
    → (T (not (is_none (propagation_of p.end []).ending)) → Looking (variables_of W) (rows_in W) W B' seen D')
    → (Known (variables_of W) (rows_in W) W B D
    → R' ≡ (reasons_from budget (variables_of W) (rows_in W) (decode (variables_of W) (rows_in W) W) B R).movers)
    → (Known (variables_of W) (rows_in W) W B D
    → p.row ≡ (reasons_from budget (variables_of W) (rows_in W) (decode (variables_of W) (rows_in W) W) B R).infeasible)
    → Ran budget W B R p B' D' R'
ran-is budget {W} {B} {D} {R} {p} taken l answer calm left movers row = record {
  valid = λ t. let v = left t in (v.sized.box, v.non_empty);
  set = l;
  answer = λ A q. rw q.rows at (answer (known_of q (taken A q)));
  calm = λ A q. rw q.rows at (calm (known_of q (taken A q)));
  reasons = λ A q.
      let k = known_of q (taken A q) in
      let w : Rows → Reasons = λ X. reasons_from budget (variables_of W) (rows_in W) X B R in
      ap₂ reasons-with (movers k ∙ ap (λ (X : Rows). (w X).movers) q.rows)
      (row k ∙ ap (λ (X : Rows). (w X).infeasible) q.rows);
}

-- what they ask
pub running : {W : List ℕ} {B : List ℤ} {R S D : List ℕ} → Accepting W B R → is_empty (variables_of W) B ≡ false → S ≡ replicate (length R) no_row
    → length D ≡ 4 → Running W B D S
running {W} {B} {R} {S} a e z d =
    let l : length S ≡ length R = ap length z ∙ length-replicate (length R) no_row in
    record {
      accepting = record {
        ours = a.ours;
        box = a.box;
        lent = record { len = ⊎_elim (λ x. inl (l ∙ x)) (λ x. inr (l ∙ x)) a.lent.len };
      };
      non_empty = ⊎_elim (λ x. absurd (true≢false (sym (empty-is (variables_of W) B x) ∙ e))) (λ x. x) a.box.shape;
      set = d;
    }

pub room : {W : List ℕ} {B : List ℤ} {D R : List ℕ} → Running W B D R → length (take (length B) blank) ≡ length B
room {B = B} r = length-take-le (length B) blank (rw length-replicate (omega (arith, r.accepting.ours.few, r.accepting.box.len)))

-- a propagation that is not infeasible tells of no row that was
pick : (e g : Bool) (a b c : Propagated) (x y z : Reasons) → T (is_none a.ending) → (T (not (is_none b.ending)) → y.infeasible ≡ no_row)
    → z.infeasible ≡ no_row → T (not (is_none (cond e a (cond g b c)).ending)) → (cond e x (cond g y z)).infeasible ≡ no_row
pick true g a b c x y z n f h t = absurd (T_not (is_none a.ending) t n)
pick false true a b c x y z n f h t = f t
pick false false a b c x y z n f h t = h

no-row : (left made sum n m : ℕ) (A : Rows) (B : List ℤ) (R : List ℕ) → T (not (is_none (propagate_from left made sum n m A B).ending))
    → (reasons_from left n m A B R).infeasible ≡ no_row
unfolding propagate_from reasons_from is_none
no-row zero made sum n m A B R t = refl
no-row (suc left) made sum n m A B R t =
    let p = pass_to n m A B in
    let S = reasons_to n m A B R in
    pick p.ended (ltb 0 p.moved)
    (record { ending = infeasible; passes = suc made; moved = sum + p.moved; box = p.box })
    (propagate_from left (suc made) (sum + p.moved) n m A p.box)
    (record { ending = converged; passes = suc made; moved = sum; box = p.box })
    (record { movers = S; infeasible = ending_row n m A B })
    (reasons_from left n m A p.box S)
    (record { movers = S; infeasible = no_row })
    tt (no-row left (suc made) (sum + p.moved) n m A p.box S) refl t

-- the two ways to end that are not infeasible
pub converged-left : {v : Propagation} {passes moved : ℕ} → v ≡ made.Converged passes moved → T (not (is_none (propagation_of v []).ending))
unfolding propagation_of is_none
converged-left e = rw e tt

pub spent-left : {v : Propagation} {passes moved : ℕ} → v ≡ made.BudgetSpent passes moved → T (not (is_none (propagation_of v []).ending))
unfolding propagation_of is_none
spent-left e = rw e tt

-- ---- the empty box

module _ (budget : ℕ) {W : List ℕ} {B : List ℤ} (k : ℕ) (e : is_empty (variables_of W) B ≡ true) {R' : List ℕ} (z : R' ≡ replicate k no_row) where
  pub empty-is-none : PropagateAccepted budget W B k (Ok (code.Infeasible 1 0 no_row)) W B R'
  unfolding prepared_answer infeasible_row answers_none is_refused is_none propagate reasons_of
  empty-is-none = record {
    told = tt;
    keeps = keeps-none W _ B tt;
    valid = λ z. absurd z;
    answer = λ A q. rw e;
    box = λ A q. rw e;
    reasons = λ A q. rw (e, z);
    prepared = λ A q. q;
  }

-- ---- any other

module _ (budget : ℕ) {W : List ℕ} {B : List ℤ} (k : ℕ) (e : is_empty (variables_of W) B ≡ false) {R : List ℕ} (z : R ≡ replicate k no_row)
    {p : PreparedEnd} {B' : List ℤ} {D' R' : List ℕ} (r : Ran budget W B R p B' D' R') where
  abbrev n : ℕ
  n = variables_of W

  abbrev m : ℕ
  m = rows_in W

  propagated-is : (A : Rows) → Prepared W A → {v : Propagation} → p.end ≡ v → propagation_of v B' ≡ propagate budget n m A B
  unfolding propagate
  propagated-is A q f = rw e (ap (λ v. propagation_of v B') (sym f) ∙ r.answer A q)

  answer-is : (A : Rows) → Prepared W A → {v : Propagation} → p.end ≡ v
      → let w = propagate budget n m A B in
      propagated (propagation_of v B').ending (propagation_of v B').passes (propagation_of v B').moved ≡ propagated w.ending w.passes w.moved
  answer-is A q f = ap (λ (w : Propagated). propagated w.ending w.passes w.moved) (propagated-is A q f)

  box-is : (A : Rows) → Prepared W A → (propagation_of p.end B').box ≡ (propagate budget n m A B).box
  box-is A q = ap (λ (w : Propagated). w.box) (propagated-is A q refl)

  reasons-are : (A : Rows) → Prepared W A → record { movers = R'; infeasible = p.row } ≡ reasons_of budget n m A B k
  unfolding reasons_of
  reasons-are A q = rw e (rw z at (r.reasons A q))

  box_of : (v : Propagation) → (propagation_of v B').box ≡ B'
  unfolding propagation_of
  box_of (made.Infeasible x y) = refl
  box_of (made.Converged x y) = refl
  box_of (made.BudgetSpent x y) = refl

  left-box : (A : Rows) → Prepared W A → B' ≡ (propagate budget n m A B).box
  left-box A q = sym (box_of p.end) ∙ box-is A q

  pub infeasible-is : {passes moved : ℕ} → p.end ≡ made.Infeasible passes moved
      → PropagateAccepted budget W B k (Ok (code.Infeasible passes moved p.row)) W B' R'
  unfolding prepared_answer infeasible_row answers_none is_refused is_none propagation_of
  infeasible-is f = record {
    told = tt;
    keeps = keeps-none W _ B' tt;
    valid = λ z. absurd z;
    answer = λ A q. answer-is A q f;
    box = left-box;
    reasons = reasons-are;
    prepared = λ A q. q;
  }

  -- the set and the box are kept
  module _ (h : T (not (is_none (propagation_of p.end []).ending))) {W' : List ℕ} (w : Kept W B' D' W') where
    still-prepared : (A : Rows) → Prepared W A → Prepared W' A
    still-prepared A q = prepared-kept q w.first w.second w.set w.box (r.valid h).0 (r.valid h).1 (r.calm A q)

    same-ending : (v : Propagation) → (propagation_of v []).ending ≡ (propagation_of v B').ending
    unfolding propagation_of
    same-ending (made.Infeasible x y) = refl
    same-ending (made.Converged x y) = refl
    same-ending (made.BudgetSpent x y) = refl

    not_none : (A : Rows) → Prepared W A → T (not (is_none (propagate_from budget 0 0 n m A B).ending))
    not_none A q = rw (sym (r.answer A q), sym (same-ending p.end)) h

    reasons-none : (A : Rows) → Prepared W A → record { movers = R'; infeasible = no_row } ≡ reasons_of budget n m A B k
    reasons-none A q =
        let f : p.row ≡ no_row = ap (λ (x : Reasons). x.infeasible) (r.reasons A q) ∙ no-row budget 0 0 n m A B R (not_none A q) in
        ap (reasons-with R') (sym f) ∙ reasons-are A q

    both-kept : SameBut 4 264 W W'
    both-kept = same-join (omega arith) (omega arith) w.first w.second

    pub converged-is : {passes moved : ℕ} → p.end ≡ made.Converged passes moved → PropagateAccepted budget W B k (Ok (code.Converged passes moved)) W' B' R'
    unfolding prepared_answer infeasible_row answers_none is_refused is_none propagation_of
    converged-is f = record {
      told = tt;
      keeps = keeps-box _ refl both-kept w.box tt;
      valid = λ _. (r.valid h).0;
      answer = λ A q. answer-is A q f;
      box = left-box;
      reasons = reasons-none;
      prepared = still-prepared;
    }

    pub spent-is : {passes moved : ℕ} → p.end ≡ made.BudgetSpent passes moved → PropagateAccepted budget W B k (Ok (code.BudgetSpent passes moved)) W' B' R'
    unfolding prepared_answer infeasible_row answers_none is_refused is_none propagation_of
    spent-is f = record {
      told = tt;
      keeps = keeps-box _ refl both-kept w.box tt;
      valid = λ _. (r.valid h).0;
      answer = λ A q. answer-is A q f;
      box = left-box;
      reasons = reasons-none;
      prepared = still-prepared;
    }
