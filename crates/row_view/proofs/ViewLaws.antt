-- What is asked and told of a view of a row, in terms of the row. Assumes nothing.
use mathlib.Core.Path.{◌≡◌, subst, subst⁻¹}
use Prim.Native.Nat.{ℕ}
use mathlib.Core.List.{List}
use lib.IntN.{ℤ}
use lib.ListN.{length}
use Rattle.model.specs.Rows.{Row, row_with}
use Rattle.row.specs.Answers.{propagated_row_of}
use Rattle.row.specs.Kinds.{propagate_row_of}
use Rattle.row.specs.ValidRow.{ValidRow}
use Rattle.row.specs.declared.propagation.RowPropagation.{RowPropagation}
use Rattle.sweep.specs.Steps.{Steps}
use Rattle.row_view.specs.declared.Row.{Row as View}

-- the numbers of a view
abbrev pub viewed : View → Row
viewed d = row_with d.coefs.now d.b d.kind

-- what is asked and told of the view d of the row r
module _ {n : ℕ} {r : Row} {B : List ℤ} (valid : ValidRow n r.coefs r.rhs B) (d : View) (e : viewed d ≡ r) where
  pub view-valid : ValidRow (length d.coefs.now) d.coefs.now d.b B
  view-valid = subst⁻¹ (λ (q : Row). ValidRow (length q.coefs) q.coefs q.rhs B) e (rw valid.coefs.len valid)

  pub view-told : (a : RowPropagation) (zs : List ℤ)
      → propagated_row_of a zs ≡ propagate_row_of (length d.coefs.now) (viewed d) B → propagated_row_of a zs ≡ propagate_row_of n r B
  view-told a zs t = rw valid.coefs.len at (subst (λ (q : Row). propagated_row_of a zs ≡ propagate_row_of (length q.coefs) q B) e t)

  pub view-steps : {S : List ℕ} → Steps n r.coefs S → Steps (length d.coefs.now) d.coefs.now S
  view-steps {S} s = subst⁻¹ (λ (q : Row). Steps (length q.coefs) q.coefs S) e (rw valid.coefs.len s)
