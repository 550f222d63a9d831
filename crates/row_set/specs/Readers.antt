-- Which rows may move a bound in a box that moved none in another, whichever of the two is wider. A bound that rises leaves a ≤ row less
-- room where its coefficient is above 0: a lower one makes its minimum activity greater, an upper one its term wider. One that falls
-- does where its coefficient is below 0. The others only leave it more. An = row, by its two forms, hears of every move (`row-unmoved`).
use Rattle.std.specs.Prelude.{◌<◌, ℕ, pos, ℤ, ◌≤ℤ◌, Bool, ◌&&◌, ◌||◌, true, List, ◌≡◌}
use Rattle.std.specs.Int.Signed.{lt_z}
use Rattle.model.specs.Box.{NonEmpty, at, lower, upper}
use Rattle.model.specs.Rows.{Row, Rows, is_equality, row_at}
use Rattle.row.specs.Kinds.{propagate_row_of}
use Rattle.row.specs.Outcome.{unchanged}
use Rattle.row_set.specs.Bits.{bit_at}

-- a row with the coefficient a hears that a bound rises, or falls
unfoldable pub hears_rise : Bool → ℤ → Bool
hears_rise equality a = lt_z (pos 0) a || (equality && lt_z a (pos 0))

unfoldable pub hears_fall : Bool → ℤ → Bool
hears_fall equality a = lt_z a (pos 0) || (equality && lt_z (pos 0) a)

-- between the boxes P and Q the row hears nothing of variable j
pub record Unheard (row : Row) (P Q : List ℤ) (j : ℕ) : Type 0 where
  pub rise : hears_rise (is_equality row) (at row.coefs j) ≡ true → (lower Q j ≤ℤ lower P j) × (upper Q j ≤ℤ upper P j)
  pub fall : hears_fall (is_equality row) (at row.coefs j) ≡ true → (lower P j ≤ℤ lower Q j) × (upper P j ≤ℤ upper Q j)

-- the rows that hear of variable j: `rise` and `fall` hold at least them
pub record Hearers (n m : ℕ) (A : Rows) (rise fall : ℕ → List ℕ) : Type 0 where
  pub rising : (j : ℕ) → j < n → (r : ℕ) → r < m → hears_rise (is_equality (row_at n A r)) (at (row_at n A r).coefs j) ≡ true → bit_at (rise j) r ≡ 1
  pub falling : (j : ℕ) → j < n → (r : ℕ) → r < m → hears_fall (is_equality (row_at n A r)) (at (row_at n A r).coefs j) ≡ true → bit_at (fall j) r ≡ 1

-- a row that is not in the set D moves nothing in the box B; of the empty box nothing is said
pub record Calm (n m : ℕ) (A : Rows) (B : List ℤ) (D : List ℕ) : Type 0 where
  pub same : NonEmpty n B → (r : ℕ) → r < m → bit_at D r ≡ 0
      → propagate_row_of n (row_at n A r) B ≡ record { outcome = unchanged; moved = 0; box = B }
