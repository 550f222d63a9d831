-- What the reasons mean: "which variables' bounds moved, and for each the row that moved it last; where infeasible, the row that was"
-- (D-61). A list that the call fills says of each bound whether it is another than the one that was lent (`reasons-mean`).
use Rattle.std.specs.Prelude.{◌*◌, ◌<◌, ℕ, T, ℤ, get_or, not, List, ◌≡◌}
use Rattle.model.specs.Box.{at}
use Rattle.model.specs.Rows.{Rows}
use Rattle.semantics.specs.Propagate.{is_none, propagate}
use Rattle.prepared_model.specs.Reasons.{no_row, reasons_of}

-- number i of the reasons S and of the boxes B before and Q after: no row moved the bound, which is as it was, or one of m rows did
pub record Tells (m : ℕ) (B Q : List ℤ) (S : List ℕ) (i : ℕ) : Type 0 where
  pub still : get_or S i 0 ≡ no_row → at Q i ≡ at B i
  pub moved : (get_or S i 0 ≡ no_row → ⊥) → (get_or S i 0 < m) × (at Q i ≡ at B i → ⊥)

-- a propagation that tells 2n numbers
pub record ReasonsMean (budget n m : ℕ) (A : Rows) (B : List ℤ) : Type 0 where
  pub bounds : T (not (is_none (propagate budget n m A B).ending)) → (i : ℕ) → i < 2 * n
      → Tells m B (propagate budget n m A B).box (reasons_of budget n m A B (2 * n)).movers i
  pub none : T (not (is_none (propagate budget n m A B).ending)) → (reasons_of budget n m A B (2 * n)).infeasible ≡ no_row
  pub row : T (is_none (propagate budget n m A B).ending) → (reasons_of budget n m A B (2 * n)).infeasible < m
