-- A row of a prepared model was propagated: which rows are calm then.
use Prim.Native.Nat.{◌*◌, ◌+◌, ◌-◌, ◌%◌, ◌<◌, ◌≤◌, ℕ}
use lib.Dec.{T, eqb→eq}
use lib.IntN.{ℤ}
use lib.ListN.{drop, get_or, length, take}
use mathlib.Core.Bool.{Bool, false, not, true}
use mathlib.Core.List.{List}
use mathlib.Core.Path.{◌∙◌, ◌≡◌, ap, refl, sym}
use native.Mathlib.Decide.{ℕ_discrete}
use native.Mathlib.Nat.{mul-le-mul_right, suc-mul}
use native.Mathlib.Omega.{arith}
use Rattle.integer.proofs.Tests.{false→T, true→T}
use Rattle.marked_row.proofs.MarkedRowLaws.{zero-stays}
use Rattle.model.specs.Box.{NonEmpty, empty_box}
use Rattle.model.specs.Rows.{Row, Rows, is_equality, row_at}
use Rattle.model.proofs.BoxLaws.{inside-refl, not-in-empty}
use Rattle.packed_row.specs.Words.{Readable, row_of_words}
use Rattle.prepared_model.specs.Layout.{decode, fall_of, rise_of, row_in, row_words}
use Rattle.prepared_model.specs.RowReasons.{Lent}
use Rattle.prepared_model.proofs.DecodeLaws.{decode-row, length-words, row-readable}
use Rattle.prepared_notes.specs.Heard.{Missed, Noting}
use Rattle.prepared_notes.proofs.HeardLaws.{unheard}
use Rattle.row.specs.Kinds.{propagate_row_of}
use Rattle.row.specs.Outcome.{is_changed, is_infeasible, unchanged}
use Rattle.row.proofs.KindLaws.{kinded-infeasible-box, kinded-stays, kinded-unchanged, kinded-valid}
use Rattle.row_set.specs.Bits.{bit_at}
use Rattle.row_set.specs.Readers.{Calm, Hearers}
use Rattle.row_set.proofs.RoomLaws.{calm-kept}
use Rattle.sweep.proofs.StableLaws.{kinded-after}
use Rattle.prepared_row.specs.Blaming.{Blaming}
use Rattle.prepared_row.specs.Looking.{Looking, LookingAt, Sized}

-- a row that moves nothing is taken out
pub calm-removed : {n m : ℕ} {A : Rows} {B : List ℤ} {D D' : List ℕ} (r : ℕ) → Calm n m A B D
    → (NonEmpty n B → propagate_row_of n (row_at n A r) B ≡ record { outcome = unchanged; moved = 0; box = B })
    → ((i : ℕ) → (i ≡ r → ⊥) → bit_at D' i ≡ bit_at D i) → Calm n m A B D'
calm-removed {n} {m} {A} {B} {D} {D'} r c e f = record { same = λ p i k z. go p i k z (ℕ_discrete i r) }
  where
    go : NonEmpty n B → (i : ℕ) → i < m → bit_at D' i ≡ 0 → Dec (i ≡ r) → propagate_row_of n (row_at n A i) B ≡ record { outcome = unchanged; moved = 0; box = B }
    go p i k z (yes d) = rw d (e p)
    go p i k z (no d) = c.same p i k (sym (f i d) ∙ z)

-- of the empty box nothing is said
pub calm-empty : {n m : ℕ} {A : Rows} {B : List ℤ} (D : List ℕ) → 0 < n → B ≡ empty_box n → Calm n m A B D
calm-empty {n} D h e = record { same = λ p. absurd (not-in-empty n _ h p (rw e (inside-refl n (empty_box n)))) }

module _ {n m : ℕ} {A : Rows} (W : List ℕ) {B : List ℤ} {D : List ℕ} (r : ℕ) (row : Row) (same : row_at n A r ≡ row) (few : m ≤ 128) (h : 0 < n) (p : NonEmpty n B)
    (k : Hearers n m A (rise_of W) (fall_of W)) (c : Calm n m A B D) {Q : List ℤ} (q : Q ≡ (propagate_row_of n row B).box) where
  pub calm-broken : T (is_infeasible (propagate_row_of n row B).outcome) → Calm n m A Q D
  calm-broken t = calm-empty D h (q ∙ kinded-infeasible-box n row B t)

  module _ (f : T (not (is_infeasible (propagate_row_of n row B).outcome))) where
    -- it moved nothing
    pub calm-unmoved : T (not (is_changed (propagate_row_of n row B).outcome)) → (D' : List ℕ) → ((i : ℕ) → (i ≡ r → ⊥) → bit_at D' i ≡ bit_at D i) → Calm n m A Q D'
    calm-unmoved u D' g =
        let e = kinded-unchanged row p f u in
        let b : Q ≡ B = q ∙ e in
        rw b (calm-removed {D = D} {D' = D'} r c (λ _. rw same (kinded-stays row h p e)) g)

    -- it moved a bound, which was noted
    pub calm-moved : (D₁ D₂ : List ℕ) → ((i : ℕ) → i < 128 → bit_at D₁ i ≡ 0 → (bit_at D i ≡ 0) × ((j : ℕ) → j < n → Missed W i B Q j))
        → ((i : ℕ) → (i ≡ r → ⊥) → bit_at D₂ i ≡ bit_at D₁ i) → (T (is_equality row) → D₂ ≡ D₁) → Calm n m A Q D₂
    calm-moved D₁ D₂ noted others kept = go (is_equality row) refl
      where
        noted-calm : Calm n m A Q D₁
        noted-calm = calm-kept {D = D} {D' = D₁} h p c (λ i l z. let w = noted i (omega arith) z in (w.0, λ j o. unheard W k l o (w.1 j o)))

        go : (b : Bool) → is_equality row ≡ b → Calm n m A Q D₂
        go true e = rw (kept (true→T (is_equality row) e)) noted-calm
        go false e = calm-removed {D = D₁} {D' = D₂} r noted-calm (λ _. rw (same, q) (kinded-after row h p (false→T (is_equality row) e) f)) others

-- ---- what the code asks

pub nothing-in : {X : Type 0} {n : ℕ} {B : List ℤ} → 0 < n → B ≡ empty_box n → NonEmpty n B → X
nothing-in {n = n} h e p = absurd (not-in-empty n _ h p (rw e (inside-refl n (empty_box n))))

module _ {ws W : List ℕ} {r : ℕ} {B seen : List ℤ} {D : List ℕ} (v : LookingAt ws W r B seen D) (rhs_word_of : ℕ) where
  abbrev n : ℕ
  n = length ws

  abbrev row : Row
  row = row_of_words ws rhs_word_of

  pub moved-noting : {Q : List ℤ} → Q ≡ (propagate_row_of n row B).box → T (not (is_infeasible (propagate_row_of n row B).outcome)) → Noting ws W seen Q D
  unfolding row_of_words
  moved-noting q f = record {
    few = v.words.few;
    len = v.len;
    set = v.set;
    old_len = rw v.known v.words.box.len;
    new_len = rw q (kinded-valid row v.words.box).len;
    elsewhere = λ k h e. rw (v.known, q) (zero-stays n row B f k h e);
  }

  pub moved-blaming : {Q : List ℤ} {R : List ℕ} → Lent n R → Q ≡ (propagate_row_of n row B).box → T (not (is_infeasible (propagate_row_of n row B).outcome))
      → Blaming ws seen Q R
  moved-blaming l q f =
      let w = moved-noting q f in
      record { few = w.few; old_len = w.old_len; new_len = w.new_len; lent = l; elsewhere = w.elsewhere }

  pub kept-kind : {D₁ D₂ : List ℕ} → (rhs_word_of % 2 ≡ 1 → D₂ ≡ D₁) → T (is_equality row) → D₂ ≡ D₁
  unfolding row_of_words is_equality
  kept-kind f t = f (eqb→eq (rhs_word_of % 2) 1 t)

-- ---- row r of a workspace, as a part of it

module _ {n m : ℕ} {W : List ℕ} {B : List ℤ} (v : Sized n m W B) (r : ℕ) (h : r < m) where
  abbrev pub part : List ℕ
  part = take (1_408 + r * n + n - (1_408 + r * n)) (drop (1_408 + r * n) W)

  room : 1_408 + m * n ≤ length W
  room =
      let a = mul-le-mul_right n v.few_rows in
      let b : 120 * n ≤ 15_360 = omega (arith, v.few) in
      omega (arith, v.len)

  pub row_room : 1_408 + r * n + n ≤ 16_768
  row_room = omega (arith, room, v.len, mul-le-mul_right n h, suc-mul r n)

  part-is : part ≡ row_words n W r
  unfolding row_words
  part-is = let k : 1_408 + r * n + n - (1_408 + r * n) ≡ n = omega arith in ap (λ (i : ℕ). take i (drop (1_408 + r * n) W)) k

  pub part_length : length part ≡ n
  part_length = ap length part-is ∙ length-words n m W room r h

  pub part-row : row_of_words part (get_or W (264 + r) 0) ≡ row_at n (decode n m W) r
  unfolding row_in
  part-row = ap (λ (ws : List ℕ). row_of_words ws (get_or W (264 + r) 0)) part-is ∙ sym (decode-row n m W room r h)

  pub part-readable : Readable part B
  part-readable = rw part-is (row-readable n m W room r h v.some v.few v.box)

pub part-looking : {n m : ℕ} {W : List ℕ} {B seen : List ℤ} {D : List ℕ} (v : Looking n m W B seen D) (r : ℕ) (h : r < m) → LookingAt (part v.sized r h) W r B seen D
part-looking v r h = record {
  words = part-readable v.sized r h;
  non_empty = rw (part_length v.sized r h) v.non_empty;
  known = v.known;
  len = v.sized.len;
  set = v.set;
  row = omega (arith, v.sized.few_rows);
}
