-- One row of a valid model, with the box: what the functions of this crate ask for.
use Rattle.std.specs.Prelude.{◌*◌, ◌<◌, ◌≤◌, ℕ, negsuc, pos, ℤ, length, ◌≤ℤ◌, List, ◌⊎◌, ◌≡◌}
use Rattle.integer.specs.Range.{Within}
use Rattle.model.specs.Box.{at}
use Rattle.model.specs.Limits.{bound_size, coef_size, max_coef, max_rhs, max_variables, min_coef, min_rhs, rhs_size}
use Rattle.model.specs.Valid.{Between, ValidBox}

-- a row of n coefficients over a box of n variables
pub record ValidCoefs (n : ℕ) (A B : List ℤ) : Type 0 where
  pub some : 0 < n
  pub few : n ≤ max_variables
  pub len : length A ≡ n
  pub range : (j : ℕ) → Between min_coef max_coef (at A j)
  pub box : ValidBox n B

-- 1 or −1: the row itself, or its negated form
abbrev pub IsSign : ℤ → Type 0
IsSign s = (s ≡ pos 1) ⊎ (s ≡ negsuc 0)

-- with its right side
pub record ValidRow (n : ℕ) (A : List ℤ) (b : ℤ) (B : List ℤ) : Type 0 where
  pub coefs : ValidCoefs n A B
  pub rhs : Between min_rhs max_rhs b

-- the numbers from which the bounds of one variable follow: least, at most b, is the row's minimum activity
pub record ImpliesBounds (a b least l u : ℤ) : Type 0 where
  pub coef : Within coef_size a
  pub rhs : Within rhs_size b
  pub activity : Within 5_000_000_000_000 least
  pub met : least ≤ℤ b
  pub low : Within bound_size l
  pub high : Within bound_size u

-- the same of all variables of a row
pub record ImpliesBox (n : ℕ) (A : List ℤ) (b least : ℤ) (B : List ℤ) : Type 0 where
  pub len : length A ≡ n
  pub box_len : length B ≡ 2 * n
  pub few : n ≤ max_variables
  pub coefs : (j : ℕ) → Within coef_size (at A j)
  pub rhs : Within rhs_size b
  pub activity : Within 5_000_000_000_000 least
  pub met : least ≤ℤ b
  pub bounds : (i : ℕ) → Within bound_size (at B i)
