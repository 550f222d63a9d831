-- A number in a line of text: after one space.
use Rattle.std.specs.Prelude.{ℕ, ℤ, length, List, ◌∷◌}
use Rattle.model.specs.Box.{at}
use Rattle.text.specs.Decimal.{signed}
use Rattle.text.specs.Text.{texts}

-- a number after one space
unfoldable pub field : ℤ → List ℕ
field z = 32 ∷ signed z

unfoldable pub fields : List ℤ → List ℕ
fields xs = texts (length xs) (λ j. field (at xs j))

-- the bytes of a number of 32 bits after its space
abbrev pub max_field : ℕ
max_field = 12

-- of one of 64 bits
abbrev pub max_long_field : ℕ
max_long_field = 21
