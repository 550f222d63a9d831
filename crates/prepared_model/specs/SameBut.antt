-- What a call that writes into a workspace leaves of it.
use Rattle.std.specs.Prelude.{◌<◌, ◌≤◌, ℕ, get_or, length, List, ◌≡◌}

-- X has the numbers of W but at the places from p on and below q
pub record SameBut (p q : ℕ) (W X : List ℕ) : Type 0 where
  pub len : length X ≡ length W
  pub before : (i : ℕ) → i < p → get_or X i 0 ≡ get_or W i 0
  pub after : (i : ℕ) → q ≤ i → get_or X i 0 ≡ get_or W i 0
