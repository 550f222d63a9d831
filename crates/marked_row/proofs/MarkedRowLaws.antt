-- A row that was propagated by its marks: where its bounds moved, which rows are clean then, and what holds before and after each row
-- of a pass.
use Prim.Native.Nat.{◌*◌, ◌+◌, ◌<◌, ◌≤◌, ℕ}
use lib.IntN.{pos, ℤ}
use lib.Dec.{T, not_T}
use lib.ListN.{drop, get_or, length, length-drop, set, take}
use lib.Seq.{get_or-drop, get_or-set_other, get_or-set_same, get_or-take, length-take-le}
use lib.Signed.{≤ℤ_refl}
use mathlib.Core.Bool.{false, not, true≢false}
use mathlib.Core.List.{List}
use mathlib.Core.Path.{◌∙◌, ◌≡◌, ap, refl, sym}
use native.Mathlib.Decide.{ℕ_discrete}
use native.Mathlib.Omega.{arith}
use Rattle.model.specs.Box.{Inside, NonEmpty, at, empty_box, lower, upper}
use Rattle.model.proofs.BoxLaws.{inside-refl, not-in-empty}
use Rattle.model.specs.Valid.{ValidBox, ValidModel}
use Rattle.row.specs.Activity.{min_activity}
use Rattle.row.specs.Answers.{propagated_row_of}
use Rattle.row.specs.Outcome.{Outcome, changed, infeasible, is_changed, is_infeasible, is_unchanged, unchanged}
use Rattle.row.specs.declared.propagation.RowPropagation.{RowPropagation}
use Rattle.row.specs.declared.propagation.RowPropagation.TheVariants.{Infeasible, Tightened, Unchanged}
use Rattle.row.specs.Kinds.{propagate_form, propagate_row_of, row_moves_of}
use Rattle.row.specs.Propagation.{PropagatedRow, propagate_row}
use Rattle.row.proofs.BoundLaws.{new_lower-nonneg, new_upper-nonpos}
use Rattle.row.proofs.ImpliedBoxLaws.{lower-implied, upper-implied}
use Rattle.row.proofs.KindLaws.{kinded-feasible-ind, kinded-infeasible-box, kinded-non_empty, kinded-shrinks, kinded-stays, kinded-unchanged, kinded-valid}
use Rattle.row.proofs.PropagationLaws.{propagate-row-feasible-ind}
use Rattle.sweep.specs.Steps.{Steps}
use Rattle.model.specs.Rows.{Row, Rows, is_equality, negated, row_at, row_of}
use Rattle.model.proofs.PointLaws.{at-negated}
use Rattle.model.specs.Model.{model_of}
use Rattle.matrix_view.specs.RowIn.{StepsIn}
use Rattle.sweep.proofs.StableLaws.{kinded-after}
use Rattle.row_index.specs.Index.{ColumnSigns, GoodStep}
use Rattle.row_index.proofs.IndexLoops.{row-end}
use Rattle.row_marks.specs.Marks.{Clean, Remarks, Unread, Propagable, Watched}
use Rattle.row_marks.proofs.MarkLaws.{at_row, clean-empty, clean-remarked, kind-one}

-- ---- a row's part of the index

module _ {n : ℕ} {C : List ℤ} {across : List ℕ} (r : ℕ) (room : r * n + n ≤ length across) (g : (j : ℕ) → j < n → GoodStep n C (r * n) across j) where
  step-at : (j : ℕ) → j < n → get_or (take n (drop (r * n) across)) j 0 ≡ get_or across (r * n + j) 0
  step-at j k = get_or-take n (drop (r * n) across) j 0 k ∙ get_or-drop (r * n) across j 0

  steps-good : Steps n (row_of n C r) (take n (drop (r * n) across))
  steps-good = record {
    len = length-take-le n (drop (r * n) across) (omega (arith, room, length-drop (r * n) across));
    forward = λ j k. rw (step-at j k) (g j k).forward;
    within = λ j k. rw (step-at j k) (g j k).within;
    zeros = λ j k i a b.
        let e = step-at j k in
        let w = (g j k).within in
        at_row n C r i (omega arith) ∙ (g j k).zeros i a (omega arith);
  }

  pub steps-in : StepsIn n C across r
  steps-in = record { room = room; good = steps-good }

  -- where propagating the row moves nothing: at its zeros
  pub row-remarks : {m : ℕ} {signs : List ℕ} {B Q : List ℤ} {marks : List ℕ} → ColumnSigns n m C signs → length B ≡ 2 * n → length Q ≡ 2 * n → m ≤ length marks
      → ((k : ℕ) → k < n → at (row_of n C r) k ≡ pos 0 → (lower Q k ≡ lower B k) × (upper Q k ≡ upper B k))
      → Remarks n m C signs across (r * n) B Q marks
  row-remarks x l q o f = record {
    columns = x;
    old_len = l;
    new_len = q;
    marks_len = o;
    steps_len = room;
    forward = λ j k. (g j k).forward;
    within = λ j k. (g j k).within;
    between = λ j k i a b.
        let w = (g j k).within in
        let t : i < n = omega arith in
        f i t (at_row n C r i t ∙ (g j k).zeros i a b);
  }

-- a visit moves no bound where the coefficient is 0
form-zero : (n : ℕ) (A : List ℤ) (b : ℤ) (B : List ℤ) → T (not (is_infeasible (propagate_row n A b B).outcome)) → (k : ℕ) → k < n → at A k ≡ pos 0
    → (lower (propagate_row n A b B).box k ≡ lower B k) × (upper (propagate_row n A b B).box k ≡ upper B k)
form-zero n A b B f k h e = propagate-row-feasible-ind n A b B (λ v. (lower v.box k ≡ lower B k) × (upper v.box k ≡ upper B k))
    (λ _ _. (
      lower-implied n A b (min_activity n A B) B k h ∙ rw e (new_lower-nonneg (pos 0) b _ (lower B k) (upper B k) (≤ℤ_refl (pos 0))),
      upper-implied n A b (min_activity n A B) B k h ∙ rw e (new_upper-nonpos (pos 0) b _ (lower B k) (upper B k) (≤ℤ_refl (pos 0))),
    ))
    f

negated-zero : (r : Row) (k : ℕ) → at r.coefs k ≡ pos 0 → at (negated r).coefs k ≡ pos 0
unfolding negated
negated-zero r k e = rw (at-negated r.coefs k, e)

pub zero-stays : (n : ℕ) (r : Row) (B : List ℤ) → T (not (is_infeasible (propagate_row_of n r B).outcome)) → (k : ℕ) → k < n → at r.coefs k ≡ pos 0
    → (lower (propagate_row_of n r B).box k ≡ lower B k) × (upper (propagate_row_of n r B).box k ≡ upper B k)
zero-stays n r B f k h e = kinded-feasible-ind n r B (λ v. (lower v.box k ≡ lower B k) × (upper v.box k ≡ upper B k))
    (λ _ t. form-zero n r.coefs r.rhs B t k h e)
    (λ _ t u.
    let one = form-zero n r.coefs r.rhs B t k h e in
    let two = form-zero n (negated r).coefs (negated r).rhs (propagate_form n r B).box u k h (negated-zero r k e) in
    (two.0 ∙ one.0, two.1 ∙ one.1))
    f

-- ---- after a visit

-- a mark is set: to 1 only where propagating the row moves nothing
pub clean-set : {n m : ℕ} {A : Rows} {B : List ℤ} {marks : List ℕ} (r v : ℕ) → Clean n m A B marks
    → (v ≡ 1 → NonEmpty n B → propagate_row_of n (row_at n A r) B ≡ record { outcome = unchanged; moved = 0; box = B }) → r < length marks → Clean n m A B (set marks r v)
clean-set {n} {m} {A} {B} {marks} r v c e h = record { same = λ p i k f. go p i k f (ℕ_discrete i r) }
  where
    go : NonEmpty n B → (i : ℕ) → i < m → get_or (set marks r v) i 0 ≡ 1 → Dec (i ≡ r) → propagate_row_of n (row_at n A i) B ≡ record { outcome = unchanged; moved = 0; box = B }
    go p i k f (yes d) = rw d (e (sym (get_or-set_same marks r v 0 h) ∙ (rw d at f)) p)
    go p i k f (no d) = c.same p i k (sym (get_or-set_other marks r i v 0 d) ∙ f)

-- a row that was tested and moves nothing
unchanged-is : (o : Outcome) → not (is_unchanged o) ≡ false → T (not (is_infeasible o)) × T (not (is_changed o))
unfolding is_unchanged is_infeasible is_changed
unchanged-is infeasible e = absurd (true≢false e)
unchanged-is changed e = absurd (true≢false e)
unchanged-is unchanged e = (tt, tt)

pub moves-none : (r : Row) {n : ℕ} {B : List ℤ} → 0 < n → row_moves_of n r B ≡ false → NonEmpty n B
    → propagate_row_of n r B ≡ record { outcome = unchanged; moved = 0; box = B }
unfolding row_moves_of
moves-none r {n} {B} h e p =
    let q = unchanged-is (propagate_row_of n r B).outcome e in
    kinded-stays r h p (kinded-unchanged r p q.0 q.1)

-- row r was propagated and left the box Q
module _ {n m : ℕ} {B : List ℤ} {A : Rows} {across signs : List ℕ} {seen : List ℤ} {marks : List ℕ} (g : Propagable n m B A across signs seen marks)
    (r : ℕ) (h : r < m) {Q : List ℤ} (q : Q ≡ (propagate_row_of n (row_at n A r) B).box) where
  copied : seen ≡ B
  copied = g.watched.copied g.non_empty

  module _ (f : T (not (is_infeasible (propagate_row_of n (row_at n A r) B).outcome))) where
    -- a ≤ row moves nothing then
    stays : T (not (is_equality (row_at n A r))) → propagate_row_of n (row_at n A r) Q ≡ record { outcome = unchanged; moved = 0; box = Q }
    stays t = rw q (kinded-after (row_at n A r) g.valid.some g.non_empty t f)

    shrinks : Inside n Q B
    shrinks = rw q (kinded-shrinks n (row_at n A r) B f)

    pub propagated-non_empty : NonEmpty n Q
    propagated-non_empty = rw q (kinded-non_empty (row_at n A r) g.non_empty f)

    -- the boxes differ only where the row's steps lead, or anywhere
    pub propagated-remarks : ((j : ℕ) → j < n → GoodStep n A.coefs (r * n) across j) → Remarks n m A.coefs signs across (r * n) seen Q marks
    propagated-remarks s = rw copied (row-remarks r (row-end g.watched.index.rows r h).0 s g.watched.index.columns g.non_empty.len propagated-non_empty.len g.room
        (λ i l z. rw q (zero-stays n (row_at n A r) B f i l z)))

    -- it moved a bound: it is clean only if it is a ≤ row
    pub propagated-moved : {signs' : List ℕ} {seen' : List ℤ} (marks' : List ℕ) (v : ℕ) → ColumnSigns n m A.coefs signs' → seen' ≡ Q → length marks' ≡ length marks
        → ((i : ℕ) → i < m → get_or marks' i 0 ≡ 1 → (get_or marks i 0 ≡ 1) × ((j : ℕ) → j < n → Unread n A.coefs A.kinds i seen Q j))
        → (v ≡ 1 → get_or A.kinds r 0 ≡ 1 → ⊥)
        → Watched n m A Q across signs' seen' (set marks' r v)
    propagated-moved marks' v x e l t z = record {
      index = record { rows = g.watched.index.rows; columns = x };
      copied = λ _. e;
      clean = clean-set {marks = marks'} r v (clean-remarked g.valid.some g.non_empty shrinks g.watched.clean (rw copied at t))
          (λ o _. stays (not_T (is_equality (row_at n A r)) (λ w. z o (kind-one (row_at n A r) w)))) (omega (arith, g.room));
    }

    pub propagated-unmoved : T (not (is_changed (propagate_row_of n (row_at n A r) B).outcome)) → Watched n m A Q across signs seen (set marks r 1)
    propagated-unmoved u =
        let k = kinded-unchanged (row_at n A r) g.non_empty f u in
        let e : Q ≡ B = q ∙ k in
        record {
          index = g.watched.index;
          copied = λ _. copied ∙ sym e;
          clean = clean-set {marks = marks} r 1 (rw e g.watched.clean)
              (λ _ _. rw e (kinded-stays (row_at n A r) g.valid.some g.non_empty k)) (omega (arith, g.room));
        }

  pub propagated-empty : T (is_infeasible (propagate_row_of n (row_at n A r) B).outcome) → Watched n m A Q across signs seen marks
  propagated-empty t =
      let e : Q ≡ empty_box n = q ∙ kinded-infeasible-box n (row_at n A r) B t in
      record {
        index = g.watched.index;
        copied = λ p. absurd (not-in-empty n Q g.valid.some p (rw e (inside-refl n (empty_box n))));
        clean = clean-empty marks g.valid.some e;
      }

-- by the answer v, with which the box Q was left
box_of : (v : RowPropagation) (Q : List ℤ) → (propagated_row_of v Q).box ≡ Q
unfolding propagated_row_of
box_of Infeasible Q = refl
box_of (Tightened k) Q = refl
box_of Unchanged Q = refl

module _ {w : PropagatedRow} (v : RowPropagation) (Q : List ℤ) (e : propagated_row_of v Q ≡ w) where
  pub said : {u : RowPropagation} → v ≡ u → propagated_row_of u Q ≡ w
  said t = rw t at e

  pub left_by : Q ≡ w.box
  left_by = sym (box_of v Q) ∙ ap (λ (u : PropagatedRow). u.box) e

  pub tightened : {k : ℕ} → v ≡ Tightened k → T (not (is_infeasible w.outcome))
  unfolding propagated_row_of is_infeasible
  tightened t = rw (← e, t) tt

  pub unmoved : v ≡ Unchanged → T (not (is_infeasible w.outcome)) × T (not (is_changed w.outcome))
  unfolding propagated_row_of is_infeasible is_changed
  unmoved t = rw (← e, t) (tt, tt)

  pub broken : v ≡ Infeasible → T (is_infeasible w.outcome)
  unfolding propagated_row_of is_infeasible
  broken t = rw (← e, t) tt

-- ---- passes

-- what holds before and after each row that is not infeasible; what is lent keeps its lengths
pub record Ready (n m : ℕ) (A : Rows) (B₀ : List ℤ) (across₀ signs₀ : List ℕ) (seen₀ : List ℤ) (marks₀ : List ℕ) (B : List ℤ) (across signs : List ℕ) (seen : List ℤ) (marks : List ℕ) : Type 0 where
  pub box : ValidBox n B
  pub non_empty : NonEmpty n B
  pub watched : Watched n m A B across signs seen marks
  pub box_len : length B ≡ length B₀
  pub across_len : length across ≡ length across₀
  pub signs_len : length signs ≡ length signs₀
  pub seen_len : length seen ≡ length seen₀
  pub marks_len : length marks ≡ length marks₀

pub ready : {n m : ℕ} {A : Rows} {B : List ℤ} {across signs : List ℕ} {seen : List ℤ} {marks : List ℕ} → ValidBox n B → NonEmpty n B
    → Watched n m A B across signs seen marks → Ready n m A B across signs seen marks B across signs seen marks
ready v p w = record { box = v; non_empty = p; watched = w; box_len = refl; across_len = refl; signs_len = refl; seen_len = refl; marks_len = refl }

pub ready-trans : {n m : ℕ} {A : Rows} {B₀ : List ℤ} {across₀ signs₀ : List ℕ} {seen₀ : List ℤ} {marks₀ : List ℕ} {B₁ : List ℤ} {across₁ signs₁ : List ℕ} {seen₁ : List ℤ} {marks₁ : List ℕ}
    {B : List ℤ} {across signs : List ℕ} {seen : List ℤ} {marks : List ℕ}
    → Ready n m A B₀ across₀ signs₀ seen₀ marks₀ B₁ across₁ signs₁ seen₁ marks₁ → Ready n m A B₁ across₁ signs₁ seen₁ marks₁ B across signs seen marks
    → Ready n m A B₀ across₀ signs₀ seen₀ marks₀ B across signs seen marks
ready-trans a b = record {
  box = b.box;
  non_empty = b.non_empty;
  watched = b.watched;
  box_len = b.box_len ∙ a.box_len;
  across_len = b.across_len ∙ a.across_len;
  signs_len = b.signs_len ∙ a.signs_len;
  seen_len = b.seen_len ∙ a.seen_len;
  marks_len = b.marks_len ∙ a.marks_len;
}

-- a model whose box is another valid one
pub model_at : {n m : ℕ} {B : List ℤ} {A : Rows} {Q : List ℤ} → ValidModel (model_of n m B A) → ValidBox n Q → ValidModel (model_of n m Q A)
model_at v q = record { some = v.some; few = v.few; few_rows = v.few_rows; box = q; coefs_len = v.coefs_len; coefs = v.coefs; rhs_len = v.rhs_len; rhs = v.rhs; kinds_len = v.kinds_len; kinds = v.kinds }

-- one row more
pub ready-row : {n m : ℕ} {A : Rows} {B₀ : List ℤ} {across₀ signs₀ : List ℕ} {seen₀ : List ℤ} {marks₀ : List ℕ} {B : List ℤ} {across signs : List ℕ} {seen : List ℤ} {marks : List ℕ}
    {Q : List ℤ} {across' signs' : List ℕ} {seen' : List ℤ} {marks' : List ℕ} (row : Row)
    → Ready n m A B₀ across₀ signs₀ seen₀ marks₀ B across signs seen marks → Q ≡ (propagate_row_of n row B).box → T (not (is_infeasible (propagate_row_of n row B).outcome))
    → Watched n m A Q across' signs' seen' marks' → length Q ≡ length B → length across' ≡ length across → length signs' ≡ length signs
    → length seen' ≡ length seen → length marks' ≡ length marks
    → Ready n m A B₀ across₀ signs₀ seen₀ marks₀ Q across' signs' seen' marks'
ready-row row i q f w l x y s k = record {
  box = rw q (kinded-valid row i.box);
  non_empty = rw q (kinded-non_empty row i.non_empty f);
  watched = w;
  box_len = l ∙ i.box_len;
  across_len = x ∙ i.across_len;
  signs_len = y ∙ i.signs_len;
  seen_len = s ∙ i.seen_len;
  marks_len = k ∙ i.marks_len;
}
