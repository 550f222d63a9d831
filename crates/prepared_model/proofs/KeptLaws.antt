-- A prepared workspace stays one where only the set of rows to look at and the box are written: the rows and the sets of those that hear
-- stand elsewhere.
use Prim.Native.Nat.{◌*◌, ◌+◌, ◌/◌, ◌%◌, ◌<◌, ◌≤◌, suc, zero, ℕ}
use lib.IntN.{ℤ}
use lib.ListN.{drop, length, length-drop, length-set, set, take}
use lib.Seq.{ext_get_or, get_or-drop, get_or-set_other, get_or-take, length-take-le}
use mathlib.Core.List.{List}
use mathlib.Core.Path.{◌∙◌, ◌≡◌, ap, refl, sym}
use native.Mathlib.Omega.{arith}
use Rattle.model.specs.Box.{NonEmpty, at}
use Rattle.model.specs.Rows.{Rows}
use Rattle.model.specs.Valid.{ValidBox}
use Rattle.packed_row.specs.Words.{coefs_from, rhs_of}
use Rattle.row_set.specs.Readers.{Calm}
use Rattle.prepared_model.specs.Layout.{box_in, decode, dirty_of, fall_of, list_to, rise_of, row_words, rows_in, rhs_word_of, variables_of}
use Rattle.prepared_model.specs.Prepared.{Prepared}
use Rattle.prepared_model.specs.SameBut.{SameBut}

pub list_to-same : {A : Type 0} (k : ℕ) (f g : ℕ → A) → ((i : ℕ) → i < k → f i ≡ g i) → list_to k f ≡ list_to k g
unfolding list_to
list_to-same zero f g e = refl
list_to-same (suc k) f g e = rw (e 0 (omega arith), list_to-same k (λ i. f (suc i)) (λ i. g (suc i)) (λ i h. e (suc i) (omega arith)))

-- nothing is written yet; one number more is
pub same_none : (p : ℕ) (W : List ℕ) → SameBut p p W W
same_none p W = record { len = refl; before = λ i h. refl; after = λ i h. refl }

pub same_more : {p : ℕ} (k : ℕ) {W X : List ℕ} → SameBut p (p + k) W X → (w : ℕ) → SameBut p (p + (k + 1)) W (set X (p + k) w)
same_more {p} k {W} {X} s w = record {
  len = length-set X (p + k) w ∙ s.len;
  before = λ i h. get_or-set_other X (p + k) i w 0 (omega arith) ∙ s.before i h;
  after = λ i h. get_or-set_other X (p + k) i w 0 (omega arith) ∙ s.after i (omega arith);
}

-- a number between p and q
pub same-inside : {p q : ℕ} {W X : List ℕ} → SameBut p q W X → (i w : ℕ) → p ≤ i → i < q → SameBut p q W (set X i w)
same-inside {p} {q} {W} {X} s i w h k = record {
  len = length-set X i w ∙ s.len;
  before = λ j l. get_or-set_other X i j w 0 (omega arith) ∙ s.before j l;
  after = λ j l. get_or-set_other X i j w 0 (omega arith) ∙ s.after j l;
}

pub same-wider : {p q s : ℕ} {W X : List ℕ} → q ≤ s → SameBut p q W X → SameBut p s W X
same-wider {p} {q} {s} h k = record { len = k.len; before = k.before; after = λ i l. k.after i (omega arith) }

pub same-join : {p q s : ℕ} {W X Y : List ℕ} → p ≤ q → q ≤ s → SameBut p q W X → SameBut q s X Y → SameBut p s W Y
same-join {p} {q} {s} h k a b = record {
  len = b.len ∙ a.len;
  before = λ i l. b.before i (omega arith) ∙ a.before i l;
  after = λ i l. b.after i l ∙ a.after i (omega arith);
}

module _ {p q : ℕ} {W X : List ℕ} (s : SameBut p q W X) where
  -- what stands from d on
  pub same_after : (d : ℕ) → q ≤ d → drop d X ≡ drop d W
  same_after d h =
      ext_get_or 0 _ _ (omega (arith, length-drop d X, length-drop d W, s.len))
      (λ i k. get_or-drop d X i 0 ∙ s.after (d + i) (omega arith) ∙ sym (get_or-drop d W i 0))

  pub same-decode : q ≤ 264 → (n m : ℕ) → decode n m X ≡ decode n m W
  unfolding decode row_words
  same-decode h n m =
      rw (
        list_to-same (m * n) (λ k. at (coefs_from (take n (drop (1_408 + k / n * n) X)) 0) (k % n)) (λ k. at (coefs_from (take n (drop (1_408 + k / n * n) W)) 0) (k % n)) words,
        list_to-same m (λ r. rhs_of (rhs_word_of X r)) (λ r. rhs_of (rhs_word_of W r)) (λ r k. ap rhs_of (side r)),
        list_to-same m (λ r. rhs_word_of X r % 2) (λ r. rhs_word_of W r % 2) (λ r k. ap (λ (w : ℕ). w % 2) (side r)),
      )
    where
      side : (r : ℕ) → rhs_word_of X r ≡ rhs_word_of W r
      side r = s.after (264 + r) (omega arith)

      words : (k : ℕ) → k < m * n → at (coefs_from (take n (drop (1_408 + k / n * n) X)) 0) (k % n) ≡ at (coefs_from (take n (drop (1_408 + k / n * n) W)) 0) (k % n)
      words k l = ap (λ (L : List ℕ). at (coefs_from (take n L) 0) (k % n)) (same_after (1_408 + k / n * n) (omega arith))

  pub same-rise : q ≤ 384 → (j : ℕ) → rise_of X j ≡ rise_of W j
  unfolding rise_of
  same-rise h j = ap (take 4) (same_after (384 + 8 * j) (omega arith))

  pub same-fall : q ≤ 384 → (j : ℕ) → fall_of X j ≡ fall_of W j
  unfolding fall_of
  same-fall h j = ap (take 4) (same_after (388 + 8 * j) (omega arith))

  -- what stands before p
  pub same-before : (d k : ℕ) → d + k ≤ p → d + k ≤ length W → take k (drop d X) ≡ take k (drop d W)
  same-before d k h l =
      ext_get_or 0 _ _ (wide X (rw s.len l) ∙ sym (wide W l))
      (λ i b. let small = rw (wide X (rw s.len l)) at b in
      get_or-take k (drop d X) i 0 small ∙ get_or-drop d X i 0 ∙ s.before (d + i) (omega arith) ∙ sym (get_or-take k (drop d W) i 0 small ∙ get_or-drop d W i 0))
    where
      wide : (L : List ℕ) → d + k ≤ length L → length (take k (drop d L)) ≡ k
      wide L b = length-take-le k (drop d L) (omega (arith, length-drop d L))

pub same_set : {q : ℕ} {W X : List ℕ} → SameBut 8 q W X → 8 ≤ length W → dirty_of X ≡ dirty_of W
unfolding dirty_of
same_set s l = same-before s 4 4 (omega arith) l

-- the set and the box are written, in this order, and the rows outside the set move nothing in the box
pub prepared-kept : {W X Y : List ℕ} {A : Rows} {B : List ℤ} {D : List ℕ} → Prepared W A → SameBut 4 8 W X → SameBut 8 264 X Y → dirty_of X ≡ D
    → box_in (variables_of W) Y ≡ B → ValidBox (variables_of W) B → NonEmpty (variables_of W) B → Calm (variables_of W) (rows_in W) A B D → Prepared Y A
prepared-kept {W} {X} {Y} {A} {B} {D} P s t d b v e c =
    let u : SameBut 4 264 W Y = same-join (omega arith) (omega arith) s t in
    let vars : variables_of Y ≡ variables_of W = u.before 1 (omega arith) in
    let rows : rows_in Y ≡ rows_in W = u.before 2 (omega arith) in
    let set : dirty_of Y ≡ D = same_set t (omega (arith, s.len, P.ours.len)) ∙ d in
    record {
      ours = record {
        len = u.len ∙ P.ours.len;
        mark = u.before 0 (omega arith) ∙ P.ours.mark;
        some = rw vars P.ours.some;
        few = rw vars P.ours.few;
        few_rows = rw rows P.ours.few_rows;
      };
      rows = rw (vars, rows) (same-decode u (omega arith) (variables_of W) (rows_in W) ∙ P.rows);
      box = rw (vars, rows, b) (record {
        some = P.box.some;
        few = P.box.few;
        few_rows = P.box.few_rows;
        box = v;
        coefs_len = P.box.coefs_len;
        coefs = P.box.coefs;
        rhs_len = P.box.rhs_len;
        rhs = P.box.rhs;
        kinds_len = P.box.kinds_len;
        kinds = P.box.kinds;
      });
      non_empty = rw (vars, b) e;
      hearers = rw (vars, rows) (record {
        rising = λ j h r k l. rw (same-rise u (omega arith) j) (P.hearers.rising j h r k l);
        falling = λ j h r k l. rw (same-fall u (omega arith) j) (P.hearers.falling j h r k l);
      });
      calm = rw (vars, rows, b, set) c;
    }
