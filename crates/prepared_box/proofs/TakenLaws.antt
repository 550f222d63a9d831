-- A box that is copied, number by number and in parts (`copied-..`). The box that a workspace keeps becomes another, in parts (`noted-..`),
-- and what all together say of the rows.
use Prim.Native.Nat.{◌*◌, ◌+◌, ◌<◌, ◌≤◌, ℕ}
use lib.IntN.{pos, ℤ}
use lib.ListN.{get_or, length, length-set, set}
use lib.Seq.{ext_get_or, get_or-set_other, get_or-set_same}
use mathlib.Core.List.{List}
use mathlib.Core.Logic.{◌⊎◌, inl, inr, ⊎_elim}
use mathlib.Core.Path.{◌∙◌, ◌≡◌, refl, sym}
use native.Mathlib.Decide.{dec_lt}
use native.Mathlib.Omega.{arith}
use Rattle.model.specs.Box.{at}
use Rattle.model.specs.Rows.{Rows}
use Rattle.prepared_model.specs.Layout.{bound_of, box_in, dirty_of, rows_in, variables_of}
use Rattle.prepared_model.specs.Prepared.{Prepared}
use Rattle.prepared_model.proofs.DecodeLaws.{box-at}
use Rattle.prepared_notes.specs.Heard.{Missed}
use Rattle.prepared_notes.proofs.HeardLaws.{deaf-read, missed-same, unheard}
use Rattle.row_set.specs.Bits.{bit_at}
use Rattle.row_set.specs.Readers.{Calm}
use Rattle.row_set.proofs.RoomLaws.{calm-kept}
use Rattle.prepared_box.specs.TakenBox.{Copied, NotedKept}

-- numbers that are copied: none, and one more
pub copied_none : {new before : List ℤ} (p : ℕ) → Copied p p new before before
copied_none p = record { len = refl; within = λ i a b. absurd (let z : ⊥ = omega arith in z); without = λ i _. refl }

pub copied-one : {new before box : List ℤ} {p i : ℕ} {x : ℤ} → p ≤ i → i < length before → x ≡ at new i → Copied p i new before box
    → Copied p (i + 1) new before (set box i x)
copied-one {new} {before} {box} {p} {i} {x} h l e c = record {
  len = length-set box i x ∙ c.len;
  within = λ k a b. inside k a b (dec_lt k i);
  without = λ k w.
      get_or-set_other box i k x (pos 0) (⊎_elim (λ a z. omega arith) (λ a z. omega arith) w)
      ∙ c.without k (⊎_elim (λ a. inl a) (λ a. inr (omega arith)) w);
}
  where
    inside : (k : ℕ) → p ≤ k → k < i + 1 → Dec (k < i) → at (set box i x) k ≡ at new k
    inside k a b (yes d) = get_or-set_other box i k x (pos 0) (λ z. omega arith) ∙ c.within k a d
    inside k a b (no d) = let z : k ≡ i = omega arith in rw z (get_or-set_same box i x (pos 0) (omega (arith, c.len)) ∙ e)

-- two parts in turn, the upper one first
pub copied-join : {new a b box : List ℤ} {p q s t : ℕ} → p ≤ t → t ≡ q → q ≤ s → Copied q s new a b → Copied p t new b box
    → Copied p s new a box
copied-join {new} {a} {b} {box} {p} {q} {s} {t} h e l c d = record {
  len = d.len ∙ c.len;
  within = λ i x y. inside i x y (dec_lt i q);
  without = λ i w.
      d.without i (⊎_elim (λ x. inl x) (λ x. inr (omega arith)) w) ∙ c.without i (⊎_elim (λ x. inl (omega arith)) (λ x. inr x) w);
}
  where
    inside : (i : ℕ) → p ≤ i → i < s → Dec (i < q) → at box i ≡ at new i
    inside i x y (yes o) = d.within i x (omega arith)
    inside i x y (no o) = d.without i (inr (omega arith)) ∙ c.within i (omega arith) y

-- all
pub copied_all : {new a box : List ℤ} (n : ℕ) → length a ≡ 2 * n → length new ≡ 2 * n → Copied 0 (2 * n) new a box → box ≡ new
copied_all n a b c = ext_get_or (pos 0) _ _ (c.len ∙ a ∙ sym b) (λ i k. c.within i (omega arith) (omega (arith, c.len)))

dec-elim : {P C : Type 0} → Dec P → (P → C) → ((P → ⊥) → C) → C
dec-elim (yes p) f g = f p
dec-elim (no n) f g = g n

module _ {W : List ℕ} {new : List ℤ} where
  -- variables that have the bounds that are kept
  pub noted-same : {D : List ℕ} {p q t : ℕ} → t ≡ 2 * q → q ≤ 128
      → ((i : ℕ) → 2 * p ≤ i → i < t → bound_of (get_or W (8 + i) 0) ≡ at new i) → NotedKept W new D p q D
  noted-same e h f = record {
    set = refl;
    heard = λ r o z. (
      z,
      λ k x y. missed-same W r
          (sym (box-at 128 W (2 * k) (omega arith) ∙ f (2 * k) (omega arith) (omega arith)))
          (sym (box-at 128 W (2 * k + 1) (omega arith) ∙ f (2 * k + 1) (omega arith) (omega arith))),
    );
  }

  pub noted-none : {D : List ℕ} (p : ℕ) → NotedKept W new D p p D
  noted-none p = record { set = refl; heard = λ r o z. (z, λ k a b. absurd (let n : ⊥ = omega arith in n)) }

  -- one variable
  pub noted_one : {D D' : List ℕ} {j : ℕ} → length D' ≡ length D
      → ((r : ℕ) → r < 128 → bit_at D' r ≡ 0 → (bit_at D r ≡ 0) × Missed W r (box_in 128 W) new j) → NotedKept W new D j (j + 1) D'
  noted_one {j = j} e f = record {
    set = e;
    heard = λ r o z. let w = f r o z in (w.0, λ k a b. let d : k ≡ j = omega arith in rw d w.1);
  }

  -- two parts in turn: the lower one first, or the upper one
  noted-parts : {D D₁ D₂ : List ℕ} {p q s t a b : ℕ} → NotedKept W new D p q D₁ → NotedKept W new D₁ s t D₂
      → ((k : ℕ) → a ≤ k → k < b → ((p ≤ k) × (k < q)) ⊎ ((s ≤ k) × (k < t))) → NotedKept W new D a b D₂
  noted-parts u v f = record {
    set = v.set ∙ u.set;
    heard = λ r o z.
        let w = v.heard r o z in
        let x = u.heard r o w.0 in
        (x.0, λ k l m. ⊎_elim (λ i. x.1 k i.0 i.1) (λ i. w.1 k i.0 i.1) (f k l m));
  }

  pub noted-up : {D D₁ D₂ : List ℕ} {p q s : ℕ} → NotedKept W new D p q D₁ → NotedKept W new D₁ q s D₂ → NotedKept W new D p s D₂
  noted-up {q = q} u v = noted-parts u v (λ k l m. dec-elim (dec_lt k q) (λ o. inl (l, o)) (λ o. inr (omega arith, m)))

  pub noted-down : {D D₁ D₂ : List ℕ} {p q s : ℕ} → NotedKept W new D q s D₁ → NotedKept W new D₁ p q D₂ → NotedKept W new D p s D₂
  noted-down {q = q} u v = noted-parts u v (λ k l m. dec-elim (dec_lt k q) (λ o. inr (l, o)) (λ o. inl (omega arith, m)))

-- from the box that a prepared workspace knows
pub noted-calm : {W : List ℕ} {new : List ℤ} {A : Rows} {D : List ℕ} → Prepared W A
    → NotedKept W new (dirty_of W) 0 (variables_of W) D → Calm (variables_of W) (rows_in W) A new D
noted-calm {W} {new} {A} {D} p t =
    calm-kept {D = dirty_of W} {D' = D} p.ours.some p.non_empty p.calm
    (λ r h z. let w = t.heard r (omega (arith, p.ours.few_rows)) z in
    (w.0, λ j l. unheard W p.hearers h l (known r j l (w.1 j (omega arith) l))))
  where
    same : (i : ℕ) → i < 2 * variables_of W → at (box_in 128 W) i ≡ at (box_in (variables_of W) W) i
    same i l = box-at 128 W i (omega (arith, p.ours.few)) ∙ sym (box-at (variables_of W) W i l)

    known : (r j : ℕ) → j < variables_of W → Missed W r (box_in 128 W) new j → Missed W r (box_in (variables_of W) W) new j
    known r j l w = record {
      low = deaf-read (same (2 * j) (omega arith)) refl w.low;
      high = deaf-read (same (2 * j + 1) (omega arith)) refl w.high;
    }
