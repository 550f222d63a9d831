-- Laws of rows: where a row's numbers stand in the matrix, and what stays and what is new where one row becomes another.
use Prim.Native.Nat.{◌*◌, ◌+◌, ◌-◌, ◌<◌, ◌≤◌, suc, zero, ℕ}
use lib.IntN.{pos, ℤ}
use lib.ListN.{get_or-append, drop, get_or, set, length, length-append, length-drop, length-take, take, take-append-drop}
use lib.Seq.{drop-drop, ext_get_or, get_or-append-add, get_or-drop, get_or-set_other, get_or-set_same, get_or-take, length-take-le, set-get_or}
use mathlib.Core.List.{List, [], ◌++◌, ◌∷◌}
use mathlib.Core.Logic.{◌≢◌}
use mathlib.Core.Path.{◌∙◌, ◌≡◌, ap, refl, subst, sym}
use native.Mathlib.Decide.{dec_lt, ℕ_discrete}
use native.Mathlib.Nat.{mul-le-mul_right}
use native.Mathlib.Omega.{arith}
use Rattle.model.specs.Box.{at}
use Rattle.model.specs.Rows.{Row, Rows, row_at, row_of, set_row, splice}

-- ---- rows of a matrix

pub index-lt : (d p q p' q' : ℕ) → q < d → p < p' → p * d + q < p' * d + q'
index-lt d p q p' q' a b = let m : suc p * d ≤ p' * d = mul-le-mul_right d b in omega arith

pub at-row_of : (n : ℕ) (C : List ℤ) (i j : ℕ) → j < n → at (row_of n C i) j ≡ at C (i * n + j)
unfolding row_of
at-row_of n C i j h = get_or-take n (drop (i * n) C) j (pos 0) h ∙ get_or-drop (i * n) C j (pos 0)

pub length-row_of : (n m : ℕ) (C : List ℤ) (i : ℕ) → length C ≡ m * n → i < m → length (row_of n C i) ≡ n
unfolding row_of
length-row_of n m C i l h = let a : suc i * n ≤ m * n = mul-le-mul_right n h in simp (length-take, length-drop) (omega arith)

-- ---- A in place of the numbers from p on

module _ (C A : List ℤ) (p : ℕ) (fits : p + length A ≤ length C) where
  head-len : length (take p C) ≡ p
  head-len = length-take-le p C (omega arith)

  pub splice-before : (i : ℕ) → i < p → at (splice C A p) i ≡ at C i
  unfolding splice
  splice-before i h =
      get_or-append (take p C) (A ++ drop (p + length A) C) (pos 0) i (omega (arith, head-len)) ∙ get_or-take p C i (pos 0) h

  pub splice_at : (i : ℕ) → i < length A → at (splice C A p) (p + i) ≡ at A i
  unfolding splice
  splice_at i h =
      subst (λ (q : ℕ). at (take p C ++ (A ++ drop (p + length A) C)) (q + i) ≡ at A i) head-len
      (get_or-append-add (take p C) (A ++ drop (p + length A) C) i (pos 0) ∙ get_or-append A (drop (p + length A) C) (pos 0) i h)

  after : (i : ℕ) → at (splice C A p) (p + (length A + i)) ≡ at C (p + length A + i)
  unfolding splice
  after i =
      subst (λ (q : ℕ). at (take p C ++ (A ++ drop (p + length A) C)) (q + (length A + i)) ≡ at C (p + length A + i)) head-len
      (get_or-append-add (take p C) (A ++ drop (p + length A) C) (length A + i) (pos 0)
      ∙ get_or-append-add A (drop (p + length A) C) i (pos 0)
      ∙ get_or-drop (p + length A) C i (pos 0))

  pub splice-after : (i : ℕ) → p + length A ≤ i → at (splice C A p) i ≡ at C i
  splice-after i h =
      let d : ℕ = i - (p + length A) in
      let e : p + (length A + d) ≡ i = omega arith in
      let f : p + length A + d ≡ i = omega arith in
      rw e at (after d ∙ ap (at C) f)

  pub length-splice : length (splice C A p) ≡ length C
  unfolding splice
  length-splice = simp (length-append, length-take, length-drop) (omega arith)

  -- what holds of the numbers of both holds of the new list's
  pub splice_all : (P : ℤ → Type 0) → ((i : ℕ) → P (at C i)) → ((i : ℕ) → P (at A i)) → (i : ℕ) → P (at (splice C A p) i)
  splice_all P f g i = cases (dec_lt i p) (dec_lt i (p + length A))
    where
      cases : Dec (i < p) → Dec (i < p + length A) → P (at (splice C A p) i)
      cases (yes h) d = rw (splice-before i h) (f i)
      cases (no h) (yes k) =
          let e : p + (i - p) ≡ i = omega arith in
          subst (λ (j : ℕ). P (at (splice C A p) j)) e (rw (splice_at (i - p) (omega arith)) (g (i - p)))
      cases (no h) (no k) = rw (splice-after i (omega arith)) (f i)

take-drop-length : (n : ℕ) (D : List ℤ) → take n D ++ drop (length (take n D)) D ≡ D
take-drop-length zero D = refl
take-drop-length (suc n) [] = refl
take-drop-length (suc n) (x ∷ D) = ap (λ (l : List ℤ). x ∷ l) (take-drop-length n D)

splice-same : (C : List ℤ) (n p : ℕ) → splice C (take n (drop p C)) p ≡ C
unfolding splice
splice-same C n p =
    rw (← drop-drop (length (take n (drop p C))) p C, take-drop-length n (drop p C)) (take-append-drop p C)

-- a row that is as it was
pub set_row-same : (n : ℕ) (A : Rows) (i : ℕ) (r : Row) → r ≡ row_at n A i → set_row n A i r ≡ A
unfolding set_row row_of
set_row-same n A i r e =
    rw (e, splice-same A.coefs n (i * n), set-get_or A.rhs i (pos 0), set-get_or A.kinds i 0)

-- ---- row i of rows with the right lengths becomes r

module _ (n m : ℕ) (A : Rows) (i : ℕ) (r : Row)
    (coefs_len : length A.coefs ≡ m * n) (rhs_len : length A.rhs ≡ m) (kinds_len : length A.kinds ≡ m) (im : i < m) (len : length r.coefs ≡ n) where
  pub fits : i * n + length r.coefs ≤ length A.coefs
  fits = let a : suc i * n ≤ m * n = mul-le-mul_right n im in omega arith

  pub set_row-coefs : (k j : ℕ) → j < n → k ≢ i → at (set_row n A i r).coefs (k * n + j) ≡ at A.coefs (k * n + j)
  unfolding set_row
  set_row-coefs k j h ne = cases (dec_lt k i)
    where
      cases : Dec (k < i) → at (splice A.coefs r.coefs (i * n)) (k * n + j) ≡ at A.coefs (k * n + j)
      cases (yes l) = splice-before A.coefs r.coefs (i * n) fits (k * n + j) (omega (arith, index-lt n k j i 0 h l))
      cases (no l) =
          let a : suc i * n ≤ k * n = mul-le-mul_right n (omega arith) in
          splice-after A.coefs r.coefs (i * n) fits (k * n + j) (omega arith)

  -- where r differs from the old row in coefficient k only
  pub set_row-coef : (k : ℕ) → ((j : ℕ) → j ≢ k → at r.coefs j ≡ at (row_at n A i).coefs j)
      → (p : ℕ) → p ≢ i * n + k → at (set_row n A i r).coefs p ≡ at A.coefs p
  unfolding set_row
  set_row-coef k f p ne = cases (dec_lt p (i * n)) (dec_lt p (i * n + length r.coefs))
    where
      cases : Dec (p < i * n) → Dec (p < i * n + length r.coefs) → at (splice A.coefs r.coefs (i * n)) p ≡ at A.coefs p
      cases (yes l) d = splice-before A.coefs r.coefs (i * n) fits p l
      cases (no l) (yes h) =
          let j : ℕ = p - i * n in
          let e : i * n + j ≡ p = omega arith in
          rw e at (splice_at A.coefs r.coefs (i * n) fits j (omega arith) ∙ f j (omega arith) ∙ at-row_of n A.coefs i j (omega arith))
      cases (no l) (no h) = splice-after A.coefs r.coefs (i * n) fits p (omega arith)

  pub set_row-rhs : (k : ℕ) → k ≢ i → at (set_row n A i r).rhs k ≡ at A.rhs k
  unfolding set_row
  set_row-rhs k ne = get_or-set_other A.rhs i k r.rhs (pos 0) ne

  pub set_row-kinds : (k : ℕ) → k ≢ i → get_or (set_row n A i r).kinds k 0 ≡ get_or A.kinds k 0
  unfolding set_row
  set_row-kinds k ne = get_or-set_other A.kinds i k r.kind 0 ne

  pub set_row-length : length (set_row n A i r).coefs ≡ m * n
  unfolding set_row
  set_row-length = length-splice A.coefs r.coefs (i * n) fits ∙ coefs_len

  -- the rows then
  pub set_row-row : row_at n (set_row n A i r) i ≡ r
  unfolding set_row
  set_row-row = rw (coefs, rhs, kind)
    where
      coefs : row_of n (splice A.coefs r.coefs (i * n)) i ≡ r.coefs
      coefs =
          let C = splice A.coefs r.coefs (i * n) in
          let l = length-row_of n m C i set_row-length im in
          ext_get_or (pos 0) (row_of n C i) r.coefs (cc)
          (λ j h. at-row_of n C i j (omega arith) ∙ splice_at A.coefs r.coefs (i * n) fits j (omega arith))

      rhs : at (set A.rhs i r.rhs) i ≡ r.rhs
      rhs = get_or-set_same A.rhs i r.rhs (pos 0) (omega arith)

      kind : get_or (set A.kinds i r.kind) i 0 ≡ r.kind
      kind = get_or-set_same A.kinds i r.kind 0 (omega arith)

  pub set_row-other : (k : ℕ) → k < m → k ≢ i → row_at n (set_row n A i r) k ≡ row_at n A k
  set_row-other k h ne = rw (coefs, set_row-rhs k ne, set_row-kinds k ne)
    where
      coefs : row_of n (set_row n A i r).coefs k ≡ row_of n A.coefs k
      coefs =
          let l = length-row_of n m (set_row n A i r).coefs k set_row-length h in
          let o = length-row_of n m A.coefs k coefs_len h in
          ext_get_or (pos 0) (row_of n (set_row n A i r).coefs k) (row_of n A.coefs k) (cc)
          (λ j q. at-row_of n (set_row n A i r).coefs k j (omega arith) ∙ set_row-coefs k j (omega arith) ne
          ∙ sym (at-row_of n A.coefs k j (omega arith)))

  -- what holds of r, and held of the other rows before, holds of the rows
  pub set_row-ind : (P : ℕ → Row → Type 0) → P i r → ((k : ℕ) → k < m → k ≢ i → P k (row_at n A k))
      → (k : ℕ) → k < m → P k (row_at n (set_row n A i r) k)
  set_row-ind P p f k h = cases (ℕ_discrete k i)
    where
      cases : Dec (k ≡ i) → P k (row_at n (set_row n A i r) k)
      cases (yes e) = subst (λ (z : ℕ). P z (row_at n (set_row n A i r) z)) (sym e) (subst (P i) (sym set_row-row) p)
      cases (no ne) = subst (P k) (sym (set_row-other k h ne)) (f k h ne)
