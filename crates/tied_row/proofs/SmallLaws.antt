-- Laws of rows whose numbers are within their limits: those of a valid model are; where a row lies, and that it is one, also when
-- the rows before it are done.
use Prim.Native.Nat.{◌*◌, ◌+◌, ◌-◌, ◌<◌, ◌≤◌, ℕ}
use lib.IntN.{pos, ℤ}
use lib.ListN.{drop, length, length-drop, length-replicate, replicate, take}
use lib.Seq.{length-take-le}
use mathlib.Core.List.{List, [], ◌++◌}
use mathlib.Core.Path.{◌≡◌, ap, refl}
use native.Mathlib.Nat.{mul-le-mul_right, suc-mul}
use native.Mathlib.Omega.{arith}
use Rattle.integer.specs.Range.{Within}
use Rattle.integer.proofs.IndexLaws.{get_d-all}
use Rattle.integer.proofs.RangeLaws.{within-lit}
use Rattle.model.specs.Box.{at}
use Rattle.model.specs.Limits.{max_coef, min_coef}
use Rattle.model.specs.Model.{Model}
use Rattle.model.specs.Rows.{Rows, row_of, rows_of, set_row, splice}
use Rattle.model.specs.Valid.{ValidModel}
use Rattle.model.proofs.RowsLaws.{at-row_of, length-row_of}
use Rattle.row.proofs.RowLoops.{rhs-within, within-between}
use Rattle.matrix.proofs.PartLaws.{row-changed-kept}
use Rattle.ties.specs.TiedRow.{tie_coefs_to, tie_rhs_to, tie_rows_to}
use Rattle.ties.proofs.TiedRowsLaws.{coefs-still, rhs-still, tie_rows-lengths}
use Rattle.tied_row.specs.SmallRow.{SmallRow, SmallRows}

-- the rows of a model that passed the checks; their kinds are not asked for
pub valid-small : {M : Model} → ValidModel M → SmallRows M.n M.m (rows_of M.rows.coefs M.rows.rhs [])
valid-small v = record {
  coefs_len = v.coefs_len;
  rhs_len = v.rhs_len;
  coefs = λ i. within-between {l = min_coef} {u = max_coef} (within-lit tt) (within-lit tt) (v.coefs i).above (v.coefs i).below;
  rhs = λ i. rhs-within (v.rhs i);
}

pub tied-lengths : {n m : ℕ} {A : Rows} → SmallRows n m A → (k j w i : ℕ) → i ≤ m
    → (length (tie_coefs_to i n k j w A.coefs) ≡ m * n) × (length (tie_rhs_to i n j w A.coefs A.rhs) ≡ m)
unfolding tie_rows_to
tied-lengths {n} {m} {A} v k j w i h =
    let l = tie_rows-lengths n m (rows_of A.coefs A.rhs (replicate m 0)) k j w v.coefs_len v.rhs_len (length-replicate m 0) i h in (l.0, l.1)

module _ {n m : ℕ} {A : Rows} (v : SmallRows n m A) (i : ℕ) (h : i < m) where
  abbrev C : List ℤ
  C = A.coefs

  abbrev R : List ℤ
  R = A.rhs

  pub row_lies : (i * n + n ≤ length C) × (i < length R)
  row_lies = (rw v.coefs_len (omega (arith, mul-le-mul_right n h, suc-mul i n)), rw v.rhs_len h)

  pub row_small : {k j : ℕ} → k < n → j < n → SmallRow (row_of n C i) (at R i) k j
  row_small kn jn =
      let l = length-row_of n m C i v.coefs_len h in
      record {
        variable = rw l kn;
        replaced = rw l jn;
        coefs = get_d-all (row_of n C i) (pos 0) (Within 1_000_000) (within-lit tt) (λ q k. rw (at-row_of n C i q (omega arith)) (v.coefs (i * n + q)));
        rhs = v.rhs i;
      }

  pub row-still-lies : (k j w : ℕ) → (i * n + n ≤ length (tie_coefs_to i n k j w C)) × (i < length (tie_rhs_to i n j w C R))
  row-still-lies k j w = let l = tied-lengths v k j w i (omega arith) in
      (rw l.0 (omega (arith, mul-le-mul_right n h, suc-mul i n)), rw l.1 h)

  -- row i of the rows of which those below i are done
  pub row-still-small : {k j : ℕ} (w : ℕ) → k < n → j < n → SmallRow (row_of n (tie_coefs_to i n k j w C) i) (at (tie_rhs_to i n j w C R) i) k j
  row-still-small {k} {j} w kn jn =
      rw (coefs-still n m C R k j w v.coefs_len v.rhs_len i h, rhs-still n m C R k j w v.coefs_len v.rhs_len i h) (row_small kn jn)

-- the part of the matrix that was lent of row i comes back with the numbers A
pub part-back : (C A : List ℤ) (i n : ℕ) → length A ≡ n → take (i * n) C ++ (A ++ drop (i * n + n - i * n) (drop (i * n) C)) ≡ splice C A (i * n)
unfolding set_row
part-back C A i n l = ap (λ (Z : Rows). Z.coefs) (row-changed-kept C [] [] i n {b = pos 0} l refl)

pub length_part : (C : List ℤ) (i n : ℕ) → i * n + n ≤ length C → length (row_of n C i) ≡ n
unfolding row_of
length_part C i n h = length-take-le n (drop (i * n) C) (omega (arith, length-drop (i * n) C))
