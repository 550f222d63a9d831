-- Numbers as bytes (01, "Book"): little-endian over any width, and two's complement over 32 bits.
use Rattle.std.specs.Prelude.{◌%◌, ◌*◌, ◌+◌, ◌-◌, ◌/◌, ◌<◌, suc, zero, ℕ, ltb, ◌-ℤ◌, negsuc, pos, ℤ, get_or, length, cond, List, [], ◌∷◌}
use Rattle.model.specs.Box.{at}
use Rattle.little_endian.specs.Pieces.{joined, list_of, part}

-- a byte is one of so many numbers, from 0 on
abbrev pub byte_count : ℕ
byte_count = 256

-- and two bytes are one of so many
abbrev pub pair_count : ℕ
pair_count = 65_536

-- the w bytes of x, the lowest first
unfoldable pub bytes_of : ℕ → ℕ → List ℕ
bytes_of zero x = []
bytes_of (suc w) x = x % byte_count ∷ bytes_of w (x / byte_count)

-- the number of a list of bytes, the lowest first
unfoldable pub number_of : List ℕ → ℕ
number_of [] = 0
number_of (b ∷ bs) = b + byte_count * number_of bs

-- every number of bs is a byte
pub record Bytes (bs : List ℕ) : Type 0 where
  pub below : (i : ℕ) → get_or bs i 0 < byte_count

-- 32 bits as a signed number: from 2³¹ on, 2³² less
unfoldable pub signed_of : ℕ → ℤ
signed_of x = cond (ltb x 2_147_483_648) (pos x) (pos x -ℤ pos 4_294_967_296)

-- the 32 bits of a signed number: below 0, 2³² more
unfoldable pub bits_of : ℤ → ℕ
bits_of (pos n) = n
bits_of (negsuc n) = 4_294_967_296 - suc n

-- the four bytes of a signed number
unfoldable pub integer_bytes : ℤ → List ℕ
integer_bytes z = bytes_of 4 (bits_of z)

-- the bytes of signed numbers, one after the other
unfoldable pub integers_bytes : List ℤ → List ℕ
integers_bytes xs = joined (length xs) (λ i. integer_bytes (at xs i))

-- the number in the w bytes from place p of bs
unfoldable pub number_at : ℕ → ℕ → List ℕ → ℕ
number_at w p bs = number_of (part p w bs)

-- the signed number in the four bytes from place p
unfoldable pub integer_at : ℕ → List ℕ → ℤ
integer_at p bs = signed_of (number_at 4 p bs)

-- k signed numbers from place p on, one every `step` bytes
unfoldable pub integers_at : ℕ → ℕ → ℕ → List ℕ → List ℤ
integers_at p step k bs = list_of k (λ i. integer_at (p + i * step) bs)
