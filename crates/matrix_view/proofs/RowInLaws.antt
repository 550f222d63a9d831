-- Row r of a model that passed the checks: it lies in the matrix and is a valid one.
use Prim.Native.Nat.{◌*◌, ◌+◌, ◌-◌, ◌<◌, ◌≤◌, ℕ}
use lib.IntN.{pos, ℤ}
use lib.ListN.{drop, length}
use lib.Seq.{get_or-drop, get_or-take}
use mathlib.Core.List.{List}
use mathlib.Core.Path.{◌≡◌}
use native.Mathlib.Nat.{mul-le-mul_right, suc-mul}
use native.Mathlib.Omega.{arith}
use Rattle.integer.proofs.IndexLaws.{get_d-all}
use Rattle.integer.proofs.Parts.{zarith}
use Rattle.model.specs.Box.{at}
use Rattle.model.specs.Limits.{max_coef, min_coef}
use Rattle.model.specs.Rows.{Rows, row_at, row_of}
use Rattle.model.specs.Valid.{Between, ValidBox, ValidModel}
use Rattle.model.specs.Model.{model_of}
use Rattle.matrix.proofs.PartLaws.{part_length}
use Rattle.row.specs.ValidRow.{ValidRow}
use Rattle.matrix_view.specs.RowIn.{RowIn}

row-end : (r m n : ℕ) → r < m → r * n + n ≤ m * n
row-end r m n h = omega (arith, mul-le-mul_right n h, suc-mul r n)

module _ {n m : ℕ} {B₀ : List ℤ} {A : Rows} (v : ValidModel (model_of n m B₀ A)) (r : ℕ) (h : r < m) where
  pub row_fits : r * n + n ≤ length A.coefs
  row_fits = rw v.coefs_len (row-end r m n h)

  pub row-length : length (row_of n A.coefs r) ≡ n
  row-length = part_length r n A.coefs row_fits

  row-range : (j : ℕ) → Between min_coef max_coef (at (row_of n A.coefs r) j)
  unfolding row_of
  row-range = get_d-all (row_of n A.coefs r) (pos 0) (Between min_coef max_coef) (record { above = omega zarith; below = omega zarith })
      (λ j k. rw (get_or-take n (drop (r * n) A.coefs) j (pos 0) (omega (arith, row-length)), get_or-drop (r * n) A.coefs j (pos 0)) (v.coefs (r * n + j)))

  pub valid-row : {B : List ℤ} → ValidBox n B → ValidRow n (row_at n A r).coefs (row_at n A r).rhs B
  valid-row b = record { coefs = record { some = v.some; few = v.few; len = row-length; range = row-range; box = b }; rhs = v.rhs r }

  pub row_in : RowIn n A r
  row_in = record { coefs = row_fits; rhs = rw v.rhs_len h; kinds = rw v.kinds_len h }
