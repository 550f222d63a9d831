-- Row k of the list against the rows before it.
use Rattle.std.specs.Prelude.{ℕ, ℤ, Bool, not, List}
use Rattle.integer.specs.Index.{all}
use Rattle.model.specs.Box.{same_list}
use Rattle.model.specs.Rows.{row_of}

-- it differs from each of them
unfoldable pub differs : ℕ → List ℤ → ℕ → Bool
differs n C k = all k (λ i. not (same_list (row_of n C i) (row_of n C k)))
