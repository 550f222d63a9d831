-- Sets of rows, as bits: row r is bit r % 32 of word r / 32.
use Rattle.std.specs.Prelude.{◌/◌, ◌%◌, ◌^◌, ℕ, get_or, List}

-- 1 where row r is in the set, else 0
unfoldable pub bit_at : List ℕ → ℕ → ℕ
bit_at D r = get_or D (r / 32) 0 / 2 ^ (r % 32) % 2
