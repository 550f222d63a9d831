-- A workspace that was written for the rows of a valid model is prepared for them.
use Prim.Native.Nat.{◌*◌, ◌+◌, ◌/◌, ◌%◌, ◌<◌, ◌≤◌, ◌^◌, ℕ}
use lib.Dec.{eqb, eqb→eq}
use lib.IntN.{pos, ℤ}
use lib.ListN.{drop, get_or, get_or-replicate, length, length-replicate, replicate}
use lib.Seq.{ext_get_or, get_or-drop, get_or-take}
use mathlib.Core.List.{List}
use mathlib.Core.Logic.{inr}
use mathlib.Core.Path.{◌∙◌, ◌≡◌, ap, refl, sym}
use native.Mathlib.Nat.{div-add-mod', div-lt_iff_lt-mul, mod-lt}
use native.Mathlib.Omega.{arith}
use Rattle.hearers.specs.Column.{Column}
use Rattle.hearers.proofs.ColumnLaws.{column-kept}
use Rattle.integer.specs.Index.{all}
use Rattle.integer.proofs.IndexLaws.{all-at, get_d-all}
use Rattle.integer.proofs.Parts.{zarith}
use Rattle.model.specs.Box.{NonEmpty, at}
use Rattle.model.specs.Model.{model_of}
use Rattle.model.specs.Rows.{Rows, is_equality, row_of}
use Rattle.model.specs.Valid.{ValidModel}
use Rattle.model.proofs.RowsLaws.{at-row_of}
use Rattle.packed_row.specs.Words.{coefs_from, rhs_of}
use Rattle.prepared_model.specs.Layout.{bound_of, box_in, decode, dirty_of, fall_of, list_to, our_mark, rise_of, row_words, rows_in, rhs_word_of, variables_of, workspace_len}
use Rattle.prepared_model.specs.Prepared.{Prepared}
use Rattle.prepared_model.specs.SameBut.{SameBut}
use Rattle.prepared_model.proofs.DecodeLaws.{box-at, length-box, length-list_to, list_to-at}
use Rattle.prepared_model.proofs.KeptLaws.{same-join}
use Rattle.row_set.specs.Bits.{bit_at}
use Rattle.row_set.specs.Readers.{Hearers}
use Rattle.prepare.specs.Written.{Written}

-- every bit of 2³² − 1 is 1
all-bits : (k : ℕ) → k < 32 → 4_294_967_295 / 2 ^ k % 2 ≡ 1
unfolding all
all-bits k h = eqb→eq _ 1 (all-at 32 (λ i. eqb (4_294_967_295 / 2 ^ i % 2) 1) tt k h)

-- the box [0, 0] of every variable
zero-at : (k i : ℕ) → at (replicate k (pos 0)) i ≡ pos 0
zero-at k =
    get_d-all (replicate k (pos 0)) (pos 0) (λ z. z ≡ pos 0) refl
    (λ i h. get_or-replicate k i (pos 0) (pos 0) (rw (length-replicate k (pos 0)) at h))

zero-box : (n : ℕ) → NonEmpty n (replicate (2 * n) (pos 0))
zero-box n = record {
  len = length-replicate (2 * n) (pos 0);
  order = λ j h. rw (zero-at (2 * n) (2 * j), zero-at (2 * n) (2 * j + 1)) (omega zarith);
}

-- is one of every model
pub valid-zero : {n m : ℕ} {B : List ℤ} {A : Rows} → ValidModel (model_of n m B A) → ValidModel (model_of n m (replicate (2 * n) (pos 0)) A)
valid-zero {n} v = record {
  some = v.some;
  few = v.few;
  few_rows = v.few_rows;
  box = record {
    len = length-replicate (2 * n) (pos 0);
    range = λ i. rw (zero-at (2 * n) i) (record { above = omega zarith; below = omega zarith });
    shape = inr (zero-box n);
    narrow = λ j. rw (zero-at (2 * n) (2 * j), zero-at (2 * n) (2 * j + 1)) (omega zarith);
  };
  coefs_len = v.coefs_len;
  coefs = v.coefs;
  rhs_len = v.rhs_len;
  rhs = v.rhs;
  kinds_len = v.kinds_len;
  kinds = v.kinds;
}

-- the parts, written one after the other
module _ {n m : ℕ} (A : Rows) {W X₁ X₂ X₃ X₄ X₅ X₆ : List ℕ} (len : length W ≡ workspace_len) (few : n ≤ 128) (few_rows : m ≤ 120)
    (head : (get_or X₁ 0 0 ≡ our_mark) × (variables_of X₁ ≡ n) × (rows_in X₁ ≡ m)) (s₁ : SameBut 0 4 W X₁)
    (dirty : (i : ℕ) → 4 ≤ i → i < 8 → get_or X₂ i 0 ≡ 4_294_967_295) (s₂ : SameBut 4 8 X₁ X₂)
    (box : (i : ℕ) → 8 ≤ i → i < 264 → get_or X₃ i 0 ≡ 32_768) (s₃ : SameBut 8 264 X₂ X₃)
    (sides : (r : ℕ) → r < m → (rhs_of (rhs_word_of X₄ r) ≡ at A.rhs r) × (rhs_word_of X₄ r % 2 ≡ get_or A.kinds r 0)) (s₄ : SameBut 264 384 X₃ X₄)
    (columns : (j : ℕ) → j < n → Column n m A.coefs A.kinds j (rise_of X₅ j) (fall_of X₅ j)) (s₅ : SameBut 384 1_408 X₄ X₅)
    (rows : (r : ℕ) → r < m → coefs_from (row_words n X₆ r) 0 ≡ row_of n A.coefs r) (s₆ : SameBut 1_408 16_768 X₅ X₆) where
  after₄ : SameBut 384 16_768 X₄ X₆
  after₄ = same-join (omega arith) (omega arith) s₅ s₆

  after₃ : SameBut 264 16_768 X₃ X₆
  after₃ = same-join (omega arith) (omega arith) s₄ after₄

  after₂ : SameBut 8 16_768 X₂ X₆
  after₂ = same-join (omega arith) (omega arith) s₃ after₃

  after₁ : SameBut 4 16_768 X₁ X₆
  after₁ = same-join (omega arith) (omega arith) s₂ after₂

  long : length X₅ ≡ workspace_len
  long = s₅.len ∙ s₄.len ∙ s₃.len ∙ s₂.len ∙ s₁.len ∙ len

  pub all-written : Written n m A X₆
  all-written = record {
    len = s₆.len ∙ long;
    mark = after₁.before 0 (omega arith) ∙ head.0;
    variables = after₁.before 1 (omega arith) ∙ head.1;
    row_count = after₁.before 2 (omega arith) ∙ head.2;
    dirty = λ i a b. after₂.before i b ∙ dirty i a b;
    box = λ i a b. after₃.before i b ∙ box i a b;
    sides = λ r h. rw (after₄.before (264 + r) (omega arith)) (sides r h);
    columns = λ j h. column-kept j s₆ (omega arith) (omega (arith, long)) (columns j h);
    rows = rows;
  }

module _ (n m : ℕ) (A : Rows) (W : List ℕ) (w : Written n m A W) (v : ValidModel (model_of n m (replicate (2 * n) (pos 0)) A)) where
  written-coefs : list_to (m * n) (λ q. at (coefs_from (row_words n W (q / n)) 0) (q % n)) ≡ A.coefs
  written-coefs =
      ext_get_or (pos 0) _ _ (length-list_to (m * n) f ∙ sym v.coefs_len) (λ q k. each q (rw (length-list_to (m * n) f) at k))
    where
      f : ℕ → ℤ
      f q = at (coefs_from (row_words n W (q / n)) 0) (q % n)

      each : (q : ℕ) → q < m * n → at (list_to (m * n) f) q ≡ at A.coefs q
      each q k =
          let r : q / n < m = (div-lt_iff_lt-mul v.some).1 k in
          let j : q % n < n = mod-lt q v.some in
          list_to-at (m * n) f (pos 0) q k ∙ rw (w.rows (q / n) r) (at-row_of n A.coefs (q / n) (q % n) j ∙ ap (at A.coefs) (div-add-mod' q n))

  written-rhs : list_to m (λ r. rhs_of (rhs_word_of W r)) ≡ A.rhs
  written-rhs =
      ext_get_or (pos 0) _ _ (length-list_to m (λ r. rhs_of (rhs_word_of W r)) ∙ sym v.rhs_len)
      (λ r k. let h = rw (length-list_to m (λ r. rhs_of (rhs_word_of W r))) at k in list_to-at m _ (pos 0) r h ∙ (w.sides r h).0)

  written-kinds : list_to m (λ r. rhs_word_of W r % 2) ≡ A.kinds
  written-kinds =
      ext_get_or 0 _ _ (length-list_to m (λ r. rhs_word_of W r % 2) ∙ sym v.kinds_len)
      (λ r k. let h = rw (length-list_to m (λ r. rhs_word_of W r % 2)) at k in list_to-at m _ 0 r h ∙ (w.sides r h).1)

  written-rows : decode n m W ≡ A
  unfolding decode
  written-rows = rw (written-coefs, written-rhs, written-kinds)

  written-box : box_in n W ≡ replicate (2 * n) (pos 0)
  unfolding bound_of
  written-box =
      ext_get_or (pos 0) _ _ (length-box n W ∙ sym (length-replicate (2 * n) (pos 0)))
      (λ i k. let h = rw (length-box n W) at k in
      box-at n W i h ∙ rw (w.box (8 + i) (omega arith) (omega (arith, v.few))) (sym (get_or-replicate (2 * n) i (pos 0) (pos 0) h)))

  written-set : (r : ℕ) → r < 128 → bit_at (dirty_of W) r ≡ 1
  unfolding bit_at dirty_of
  written-set r h =
      rw (get_or-take 4 (drop 4 W) (r / 32) 0 (omega arith), get_or-drop 4 W (r / 32) 0, w.dirty (4 + r / 32) (omega arith) (omega arith))
      (all-bits (r % 32) (omega arith))

  written-hearers : Hearers n m A (rise_of W) (fall_of W)
  unfolding is_equality
  written-hearers = record {
    rising = λ j h r k l. (w.columns j h).rising r k (rw (at-row_of n A.coefs r j h) at l);
    falling = λ j h r k l. (w.columns j h).falling r k (rw (at-row_of n A.coefs r j h) at l);
  }

  pub written-prepared : Prepared W A
  written-prepared = record {
    ours = record { len = w.len; mark = w.mark; some = rw w.variables v.some; few = rw w.variables v.few; few_rows = rw w.row_count v.few_rows };
    rows = rw (w.variables, w.row_count) written-rows;
    box = rw (w.variables, w.row_count, written-box) v;
    non_empty = rw (w.variables, written-box) (zero-box n);
    hearers = rw (w.variables, w.row_count) written-hearers;
    calm = rw (w.variables, w.row_count) (record { same = λ e r h k. absurd (let b = written-set r (omega (arith, h, v.few_rows)) in let z : ⊥ = omega arith in z) });
  }
