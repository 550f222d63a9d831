-- What is kept of an input of any length: 01 says only that "The program `reduce` reads a book on standard input". By our decision
-- D-13 the input is read whole, however long it is, and its trailer is its last 16 bytes.
use Rattle.std.specs.Prelude.{◌≤◌, ℕ, drop, length, replicate, take, List, ◌++◌, ◌≡◌}

-- the last 16 bytes of an input, before whose first byte stand zeros; from 16 bytes on its trailer (`last-trailer`)
unfoldable pub last_bytes : List ℕ → List ℕ
last_bytes bs = drop (length bs) (replicate 16 0 ++ bs)

-- as many bytes as t has, the last of t and a piece
unfoldable pub shifted : List ℕ → List ℕ → List ℕ
shifted t piece = drop (length piece) (t ++ piece)

-- of the input bs: its length, its last 16 bytes, and all of it where it fits
pub record Held (bs start tail : List ℕ) (len : ℕ) : Type 0 where
  pub size : len ≡ length bs
  pub whole : length bs ≤ length start → take (length bs) start ≡ bs
  pub end : tail ≡ last_bytes bs
