-- What the loops that make the index need: a step more in a row, from its end, and a row or a column more.
use Prim.Native.Nat.{◌*◌, ◌+◌, ◌<◌, ◌≤◌, ℕ}
use lib.IntN.{ℤ}
use lib.ListN.{get_or, length}
use mathlib.Core.List.{List}
use mathlib.Core.Path.{◌∙◌, ◌≡◌}
use mathlib.Core.Logic.{◌⊎◌, inl, inr}
use native.Mathlib.Decide.{dec_lt, ℕ_discrete}
use native.Mathlib.Nat.{mul-le-mul_right, mul-zero, suc-mul}
use native.Mathlib.Omega.{arith}
use Rattle.model.specs.Box.{at}
use Rattle.row_index.specs.Index.{ColumnSigns, GoodStep, RowSteps, sign_of}

pub line-end : (r m n : ℕ) → r < m → r * n + n ≤ m * n
line-end r m n h = omega (arith, mul-le-mul_right n h, suc-mul r n)

-- a row's steps stay good where only later numbers change
pub good-kept : {n : ℕ} {C : List ℤ} {start : ℕ} {S T : List ℕ} {j : ℕ} → get_or T (start + j) 0 ≡ get_or S (start + j) 0 → GoodStep n C start S j → GoodStep n C start T j
good-kept e g = record { forward = rw e g.forward; within = rw e g.within; zeros = rw e g.zeros }

-- ---- a row or a column more is known

-- the lines of w numbers before and after line r lie apart from it
line-apart : (i r w : ℕ) → (i ≡ r → ⊥) → (k : ℕ) → k < w → (i * w + k < r * w) ⊎ (r * w + w ≤ i * w + k)
line-apart i r w ne k h = go (dec_lt i r)
  where
    go : Dec (i < r) → (i * w + k < r * w) ⊎ (r * w + w ≤ i * w + k)
    go (yes l) = inl (omega (arith, line-end i r w l))
    go (no l) = let t : r < i = omega arith in inr (omega (arith, line-end r i w t))

line-start : (i w : ℕ) → i * w + 0 ≡ i * w
line-start i w = omega arith

module _ {n m : ℕ} {C : List ℤ} {S T : List ℕ} (r : ℕ) (h : r < m) (x : RowSteps n m C S) (l : length T ≡ length S)
    (g : (j : ℕ) → j < n → GoodStep n C (r * n) T j) (o : (q : ℕ) → (q < r * n) ⊎ (r * n + n ≤ q) → get_or T q 0 ≡ get_or S q 0) where
  pub steps-more : RowSteps n m C T
  steps-more = record { some = x.some; few = x.few; matrix = x.matrix; room = omega (arith, x.room); right = λ i k e. go i k e (ℕ_discrete i r) }
    where
      go : (i : ℕ) → i < m → (get_or T (i * n) 0 ≡ 0 → ⊥) → Dec (i ≡ r) → (j : ℕ) → j < n → GoodStep n C (i * n) T j
      go i k e (yes d) = rw d g
      go i k e (no d) =
          let s : get_or T (i * n) 0 ≡ get_or S (i * n) 0 = rw (line-start i n) at (o (i * n + 0) (line-apart i r n d 0 x.some)) in
          λ j a. good-kept (o (i * n + j) (line-apart i r n d j a)) (x.right i k (λ z. e (s ∙ z)) j a)

module _ {n m : ℕ} {C : List ℤ} {S T : List ℕ} (j : ℕ) (h : j < n) (x : ColumnSigns n m C S) (l : length T ≡ length S)
    (g : (r : ℕ) → r < m → get_or T (j * m + r) 0 ≡ sign_of (at C (r * n + j))) (o : (q : ℕ) → (q < j * m) ⊎ (j * m + m ≤ q) → get_or T q 0 ≡ get_or S q 0) where
  pub signs-more : ColumnSigns n m C T
  signs-more = record { some = omega (arith, x.some); matrix = x.matrix; room = omega (arith, x.room); right = λ i k e. go i k e (ℕ_discrete i j) }
    where
      go : (i : ℕ) → i < n → (get_or T (i * m) 0 ≡ 0 → ⊥) → Dec (i ≡ j) → (r : ℕ) → r < m → get_or T (i * m + r) 0 ≡ sign_of (at C (r * n + i))
      go i k e (yes d) = rw d g
      go i k e (no d) = λ r a.
          let s : get_or T (i * m) 0 ≡ get_or S (i * m) 0 = rw (line-start i m) at (o (i * m + 0) (line-apart i j m d 0 (omega arith))) in
          o (i * m + r) (line-apart i j m d r a) ∙ x.right i k (λ z. e (s ∙ z)) r a

-- ---- where they stand

pub column-end : {n m : ℕ} {C : List ℤ} {signs : List ℕ} (x : ColumnSigns n m C signs) (j : ℕ) → j < n → j * m + m ≤ length signs
column-end {n} {m} x j h = omega (arith, line-end j n m h, x.room)

pub column-start : {n m : ℕ} {C : List ℤ} {signs : List ℕ} (x : ColumnSigns n m C signs) (j : ℕ) → j < n → j * m < length signs
column-start {n} {m} {C} {signs} x j h = go (ℕ_discrete m 0)
  where
    go : Dec (m ≡ 0) → j * m < length signs
    go (yes e) = rw (e, mul-zero j) x.some
    go (no e) = omega (arith, column-end x j h)

pub row-end : {n m : ℕ} {C : List ℤ} {across : List ℕ} (x : RowSteps n m C across) (r : ℕ) → r < m → (r * n + n ≤ length across) × (r * n + n ≤ length C)
row-end {n} {m} x r h = (omega (arith, line-end r m n h, x.room), omega (arith, line-end r m n h, x.matrix))
