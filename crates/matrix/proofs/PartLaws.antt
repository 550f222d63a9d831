-- The part of a matrix that is lent as row r: what it holds, how long it is, and the rows after it came back. Assumes nothing.
use Prim.Native.Nat.{◌*◌, ◌+◌, ◌-◌, ◌≤◌, ℕ}
use lib.IntN.{ℤ}
use lib.ListN.{drop, get_or, length, length-drop, set, take}
use lib.Seq.{drop-drop, length-take-le, set-get_or}
use mathlib.Core.List.{List, ◌++◌}
use mathlib.Core.Path.{◌∙◌, ◌≡◌, ap, sym}
use native.Mathlib.Omega.{arith}
use Rattle.model.specs.Rows.{Row, row_of, row_with, rows_of, set_row, splice}

pub part-is : (r n : ℕ) (C : List ℤ) → take (r * n + n - r * n) (drop (r * n) C) ≡ row_of n C r
unfolding row_of
part-is r n C = let d : r * n + n - r * n ≡ n = omega arith in rw d

-- a row that lies in the matrix has n coefficients
pub part_length : (r n : ℕ) (C : List ℤ) → r * n + n ≤ length C → length (row_of n C r) ≡ n
unfolding row_of
part_length r n C h = length-take-le n (drop (r * n) C) (omega (arith, length-drop (r * n) C))

-- the matrix with the numbers A in the part that was lent of row r
abbrev with_part : List ℤ → ℕ → ℕ → List ℤ → List ℤ
with_part C r n A = take (r * n) C ++ (A ++ drop (r * n + n - r * n) (drop (r * n) C))

part-spliced : (C A : List ℤ) (r n : ℕ) → length A ≡ n → with_part C r n A ≡ splice C A (r * n)
unfolding splice
part-spliced C A r n e = let k : r * n + n - r * n ≡ n = omega arith in rw (k, drop-drop n (r * n) C, e)

-- what a call leaves of row r, its coefficients, its right side and its kind, is the row q: so are the rows
module _ (C R : List ℤ) (K : List ℕ) (r n : ℕ) {A : List ℤ} {b : ℤ} (l : length A ≡ n) where
  pub row-changed : {kind : ℕ} {q : Row} → row_with A b kind ≡ q → rows_of (with_part C r n A) (set R r b) (set K r kind) ≡ set_row n (rows_of C R K) r q
  unfolding set_row
  row-changed {kind} e = ap (λ (D : List ℤ). rows_of D (set R r b) (set K r kind)) (part-spliced C A r n l) ∙ ap (set_row n (rows_of C R K) r) e

  -- the same where the kind is read only
  pub row-changed-kept : {q : Row} → row_with A b (get_or K r 0) ≡ q → rows_of (with_part C r n A) (set R r b) K ≡ set_row n (rows_of C R K) r q
  row-changed-kept e = ap (rows_of (with_part C r n A) (set R r b)) (sym (set-get_or K r 0)) ∙ row-changed e
