-- What the functions that hold proposals against a model ask for (`one_proposal`, `verdicts`).
use Rattle.std.specs.Prelude.{◌*◌, ◌<◌, ◌≤◌, ℕ, ℤ, get_or, length, List, ◌≡◌}
use Rattle.integer.specs.Range.{Within}
use Rattle.model.specs.Box.{at}
use Rattle.model.specs.Limits.{bound_size, coef_size, max_variables}
use Rattle.model.specs.Model.{Model}
use Rattle.model.specs.Valid.{ValidModel}
use Rattle.proposals.specs.Proposals.{max_proposals, proposal}
use Rattle.proposals.specs.Telling.{Says}
use Rattle.proposals.specs.Verdict.{Verdict}

-- n coefficients A and a proposal x that is inside the box: their sum fits 64 bits
pub record Holdable (n : ℕ) (A x : List ℤ) : Type 0 where
  pub few : n ≤ max_variables
  pub len : length x ≡ n
  pub coefs : (j : ℕ) → Within coef_size (at A j)
  pub numbers : (j : ℕ) → Within bound_size (at x j)

-- count proposals P of n numbers each, and room Y for their verdicts
pub record Lent (n count : ℕ) (P : List ℤ) (Y : List ℕ) : Type 0 where
  pub few : n ≤ max_variables
  pub few_proposals : count ≤ max_proposals
  pub len : length P ≡ count * n
  pub room : length Y ≡ 2 * count

-- each of them has a verdict, and a row of n coefficients A can be held against those that are inside so far
pub record Pending (n count : ℕ) (A P : List ℤ) (Y : List ℕ) : Type 0 where
  pub lent : Lent n count P Y
  pub len : length A ≡ n
  pub told : (c : ℕ) → c < count → (v : Verdict) × Says Y c v
  pub small : (c : ℕ) → c < count → get_or Y (2 * c) 0 ≡ 0 → Holdable n A (proposal n P c)

-- an accepted call
pub record Judgeable (M : Model) (count : ℕ) (P : List ℤ) (Y : List ℕ) : Type 0 where
  pub valid : ValidModel M
  pub lent : Lent M.n count P Y
