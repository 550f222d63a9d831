-- What a row reads, and which rows stay clean when a box becomes a smaller one.
use Prim.Native.Nat.{◌*◌, ◌+◌, ◌<◌, ℕ}
use lib.IntN.{pos, ℤ}
use lib.Dec.{T, eqb, eqb→eq, not_T}
use lib.ListN.{drop, get_or}
use lib.Seq.{get_or-drop, get_or-take}
use lib.Signed.{◌<ℤ◌, ◌≤ℤ◌}
use mathlib.Core.Bool.{Bool, ◌&&◌, ◌||◌, false, not, true}
use mir.Val.{bool_byte}
use mathlib.Core.List.{List}
use mathlib.Core.Logic.{◌≢◌, ◌⊎◌, inl, inr}
use mathlib.Core.Path.{◌∙◌, ◌≡◌, refl}
use native.Mathlib.Decide.{ℕ_discrete}
use native.Mathlib.Omega.{arith}
use Rattle.integer.proofs.Parts.{lt-is, lt-isn't, zarith}
use Rattle.integer.proofs.Tests.{T→false, lt-or-ge}
use Rattle.model.specs.Box.{Inside, NonEmpty, at, empty_box, with_bounds}
use Rattle.model.proofs.BoxLaws.{inside-refl, not-in-empty, ≤ℤ-antisymm}
use Rattle.model.proofs.BoxLoops.{with_bounds-other}
use Rattle.model.specs.Rows.{Row, Rows, is_equality, row_at, row_of}
use Rattle.sweep.proofs.StableLaws.{SameBounds, SameReads, kinded-kept}
use Rattle.row_index.specs.Index.{sign_of}
use Rattle.row_marks.specs.Marks.{Clean, Unread, reads}

pub at_row : (n : ℕ) (C : List ℤ) (r j : ℕ) → j < n → at (row_of n C r) j ≡ at C (r * n + j)
unfolding row_of
at_row n C r j h = get_or-take n (drop (r * n) C) j (pos 0) h ∙ get_or-drop (r * n) C j (pos 0)

sign_pos : {a : ℤ} → pos 0 <ℤ a → sign_of a ≡ 1
unfolding sign_of
sign_pos s = rw (lt-is s)

sign-neg : {a : ℤ} → a <ℤ pos 0 → sign_of a ≡ 2
unfolding sign_of
sign-neg {a} s = let n : a ≤ℤ pos 0 = omega zarith in rw (lt-isn't n, lt-is s)

-- a ≤ row reads the bound of its coefficient's sign, an = row both where it is not 0
reads-low : (kind : ℕ) {a : ℤ} → pos 0 <ℤ a → reads kind (sign_of a) 1 ≡ true
unfolding reads
reads-low kind s = rw (sign_pos s)

reads-high : (kind : ℕ) {a : ℤ} → a <ℤ pos 0 → reads kind (sign_of a) 2 ≡ true
unfolding reads
reads-high kind s = rw (sign-neg s)

reads_both : {kind : ℕ} {a : ℤ} → kind ≡ 1 → a ≢ pos 0 → (reads kind (sign_of a) 1 ≡ true) × (reads kind (sign_of a) 2 ≡ true)
unfolding reads
reads_both {kind} {a} e f = go (lt-or-ge (pos 0) a) (lt-or-ge a (pos 0))
  where
    go : (pos 0 <ℤ a) ⊎ (a ≤ℤ pos 0) → (a <ℤ pos 0) ⊎ (pos 0 ≤ℤ a) → (reads kind (sign_of a) 1 ≡ true) × (reads kind (sign_of a) 2 ≡ true)
    go (inl s) t = rw (e, sign_pos s) (refl, refl)
    go (inr s) (inl t) = rw (e, sign-neg t) (refl, refl)
    go (inr s) (inr t) = absurd (f (≤ℤ-antisymm s t))

-- and nothing else
eqb_no : {a b : ℕ} → (a ≡ b → ⊥) → eqb a b ≡ false
eqb_no {a} {b} f = T→false (eqb a b) (not_T (eqb a b) (λ t. f (eqb→eq a b t)))

none_read : (a b d : Bool) → bool_byte a * 2 + bool_byte b + bool_byte d < 2 → (a || (b && d)) ≡ false
none_read true b d h = absurd (let z : ⊥ = omega arith in z)
none_read false true true h = absurd (let z : ⊥ = omega arith in z)
none_read false true false h = refl
none_read false false d h = refl

-- a bool counts as a byte: the sum that `kept` compares is below 2 where the row does not read the bound
pub reads-not : (kind s bound : ℕ) → bool_byte (eqb s bound) * 2 + bool_byte (eqb kind 1) + bool_byte (not (eqb s 3)) < 2 → reads kind s bound ≡ false
unfolding reads
reads-not kind s bound h = none_read (eqb s bound) (eqb kind 1) (not (eqb s 3)) h

pub kind-one : (r : Row) → T (is_equality r) → r.kind ≡ 1
unfolding is_equality
kind-one r t = eqb→eq r.kind 1 t

module _ {n : ℕ} (A : Rows) {P Q : List ℤ} (r : ℕ) (u : (j : ℕ) → j < n → Unread n A.coefs A.kinds r P Q j) where
  same_reads : SameReads n (row_at n A r).coefs P Q
  same_reads = record {
    low = λ j k s. (u j k).low (reads-low _ (rw (at_row n A.coefs r j k) at s));
    high = λ j k s. (u j k).high (reads-high _ (rw (at_row n A.coefs r j k) at s));
  }

  same-bounds : T (is_equality (row_at n A r)) → SameBounds n (row_at n A r).coefs P Q
  same-bounds t = record {
    low = λ j k s. (u j k).low (reads_both (kind-one (row_at n A r) t) (rw (at_row n A.coefs r j k) at s)).0;
    high = λ j k s. (u j k).high (reads_both (kind-one (row_at n A r) t) (rw (at_row n A.coefs r j k) at s)).1;
  }

pub clean-remarked : {n m : ℕ} {A : Rows} {P Q : List ℤ} {marks marks' : List ℕ} → 0 < n → NonEmpty n P → Inside n Q P → Clean n m A P marks
    → ((r : ℕ) → r < m → get_or marks' r 0 ≡ 1 → (get_or marks r 0 ≡ 1) × ((j : ℕ) → j < n → Unread n A.coefs A.kinds r P Q j))
    → Clean n m A Q marks'
clean-remarked {n} {A = A} h p i c f = record {
  same = λ q r k e. let w = f r k e in
      kinded-kept (row_at n A r) h p q i (λ _. same_reads A r w.1) (same-bounds A r w.1) (c.same p r k w.0);
}

-- ---- another box

-- of the empty box nothing is said
pub clean-empty : {n m : ℕ} {A : Rows} {B : List ℤ} (marks : List ℕ) → 0 < n → B ≡ empty_box n → Clean n m A B marks
clean-empty {n} marks h e = record { same = λ p. absurd (not-in-empty n _ h p (rw e (inside-refl n (empty_box n)))) }

-- a box that is empty or lies inside keeps the marks of rows that read nothing that moved
pub clean-narrower : {n m : ℕ} {A : Rows} {P Q : List ℤ} {marks marks' : List ℕ} → 0 < n → NonEmpty n P
    → (Q ≡ empty_box n) ⊎ (NonEmpty n Q × Inside n Q P) → Clean n m A P marks
    → ((r : ℕ) → r < m → get_or marks' r 0 ≡ 1 → (get_or marks r 0 ≡ 1) × ((j : ℕ) → j < n → Unread n A.coefs A.kinds r P Q j))
    → Clean n m A Q marks'
clean-narrower {marks' = marks'} h p (inl e) c f = clean-empty marks' h e
clean-narrower h p (inr i) c f = clean-remarked h p i.1 c f

-- the marks of a box whose variable k alone moved
pub unread-at : {n : ℕ} {C : List ℤ} {K : List ℕ} {r : ℕ} {P : List ℤ} (k : ℕ) (l u : ℤ) → Unread n C K r P (with_bounds P k l u) k → (j : ℕ) → Unread n C K r P (with_bounds P k l u) j
unread-at {n} {C} {K} {r} {P} k l u w j = go (ℕ_discrete j k)
  where
    go : Dec (j ≡ k) → Unread n C K r P (with_bounds P k l u) j
    go (yes e) = rw e w
    go (no e) = record {
      low = λ _. with_bounds-other P k l u (2 * j) (omega arith) (omega arith);
      high = λ _. with_bounds-other P k l u (2 * j + 1) (omega arith) (omega arith);
    }
