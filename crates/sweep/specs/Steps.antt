-- How far it is from each variable of a row to the next whose coefficient is not 0, so that a sweep over the row passes over zeros.
use Rattle.std.specs.Prelude.{◌+◌, ◌<◌, ◌≤◌, ℕ, pos, ℤ, get_or, length, List, ◌≡◌}
use Rattle.model.specs.Box.{at}

-- variable j is followed by variable j + S j: it is at most n, and each coefficient between them is 0
pub record Steps (n : ℕ) (A : List ℤ) (S : List ℕ) : Type 0 where
  pub len : length S ≡ n
  pub forward : (j : ℕ) → j < n → 0 < get_or S j 0
  pub within : (j : ℕ) → j < n → j + get_or S j 0 ≤ n
  pub zeros : (j : ℕ) → j < n → (k : ℕ) → j < k → k < j + get_or S j 0 → at A k ≡ pos 0
