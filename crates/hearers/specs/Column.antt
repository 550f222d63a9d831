-- The sets of rows that hear of one variable.
use Rattle.std.specs.Prelude.{◌*◌, ◌+◌, ◌<◌, ℕ, eqb, ℤ, get_or, true, List, ◌≡◌}
use Rattle.model.specs.Box.{at}
use Rattle.row_set.specs.Bits.{bit_at}
use Rattle.row_set.specs.Readers.{hears_fall, hears_rise}

-- the two sets hold the rows below m that hear of variable j; C is the matrix, K the kinds
pub record Column (n m : ℕ) (C : List ℤ) (K : List ℕ) (j : ℕ) (rise fall : List ℕ) : Type 0 where
  pub rising : (r : ℕ) → r < m → hears_rise (eqb (get_or K r 0) 1) (at C (r * n + j)) ≡ true → bit_at rise r ≡ 1
  pub falling : (r : ℕ) → r < m → hears_fall (eqb (get_or K r 0) 1) (at C (r * n + j)) ≡ true → bit_at fall r ≡ 1
