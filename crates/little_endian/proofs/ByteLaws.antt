-- Laws of bytes: the bytes of a number and the number of bytes are inverse to each other, over every width; so are the 32 bits
-- of a signed number and the number of 32 bits.
use Prim.Native.Nat.{◌%◌, ◌*◌, ◌+◌, ◌-◌, ◌/◌, ◌<◌, ◌^◌, ◌≤◌, suc, zero, ℕ}
use borrow.Author.Tests.{le-ltb, lt-ltb}
use lib.IntN.{◌-ℤ◌, negsuc, pos, ℤ}
use lib.ListN.{drop, get_or, length, length-take}
use lib.Seq.{drop-cons}
use mathlib.Core.List.{List, [], ◌++◌, ◌∷◌}
use mathlib.Core.Path.{◌∙◌, ◌≡◌, ap, refl, sym}
use mir.Facts.{of_z-to_z, sfits_to_z}
use mir.Syntax.{w16, w32}
use mir.Val.{Fits, SFits, of_z, to_z}
use native.Mathlib.Decide.{dec_lt}
use native.Mathlib.Nat.{div-div-eq-div-mul, div-lt_iff_lt-mul, div-one, mod-add-div, mul_assoc, pow-suc, pow-succ'}
use native.Mathlib.Omega.{arith}
use Rattle.std.specs.Int.{from_le_bytes, to_le_bytes}
use Rattle.integer.proofs.IndexLaws.{get_d-all}
use Rattle.integer.proofs.Parts.{zify}
use Rattle.model.specs.Box.{at}
use Rattle.little_endian.specs.Bytes.{Bytes, bits_of, bytes_of, integer_at, integer_bytes, integers_at, integers_bytes, number_at, number_of, signed_of}
use Rattle.little_endian.specs.Pieces.{joined, part}
use Rattle.little_endian.proofs.PieceLaws.{get_d-list_of, get_d_part, joined-cong, length-list_of, length_part, part-add}

-- ---- a number over w bytes

pub length-bytes_of : (w x : ℕ) → length (bytes_of w x) ≡ w
unfolding bytes_of
length-bytes_of zero x = refl
length-bytes_of (suc w) x = ap suc (length-bytes_of w (x / 256))

pub number-bytes : (w x : ℕ) → x < 256 ^ w → number_of (bytes_of w x) ≡ x
unfolding bytes_of number_of
number-bytes zero x h = omega arith
number-bytes (suc w) x h =
    let k : x / 256 < 256 ^ w = let z : 0 < 256 = omega arith in (div-lt_iff_lt-mul z).1 (rw (pow-suc 256 w) at h) in
    omega (arith, number-bytes w (x / 256) k)

pub bytes-number : (bs : List ℕ) → Bytes bs → bytes_of (length bs) (number_of bs) ≡ bs
unfolding bytes_of number_of
bytes-number [] h = refl
bytes-number (b ∷ bs) h =
    let l : b < 256 = h.below 0 in
    let q : (b + 256 * number_of bs) / 256 ≡ number_of bs = omega arith in
    let r : (b + 256 * number_of bs) % 256 ≡ b = omega arith in
    rw (q, r) (ap (λ (cs : List ℕ). b ∷ cs) (bytes-number bs (record { below = λ i. h.below (suc i) })))

pub number-below : (bs : List ℕ) → Bytes bs → number_of bs < 256 ^ length bs
unfolding number_of
number-below [] h = omega arith
number-below (b ∷ bs) h = omega (arith, h.below 0, number-below bs (record { below = λ i. h.below (suc i) }), pow-succ' 256 (length bs))

-- ---- two widths are one

pub number_append : (xs ys : List ℕ) → number_of (xs ++ ys) ≡ number_of xs + 256 ^ length xs * number_of ys
unfolding number_of
number_append [] ys = omega arith
number_append (x ∷ xs) ys =
    let e : 256 ^ suc (length xs) * number_of ys ≡ 256 * (256 ^ length xs * number_of ys) = rw (pow-succ' 256 (length xs)) (mul_assoc 256 (256 ^ length xs) (number_of ys)) in
    omega (arith, number_append xs ys)

pub bytes-append : (a b x : ℕ) → bytes_of (a + b) x ≡ bytes_of a x ++ bytes_of b (x / 256 ^ a)
unfolding bytes_of
bytes-append zero b x = let e : 0 + b ≡ b = omega arith in rw (e, div-one x)
bytes-append (suc a) b x =
    let e : suc a + b ≡ suc (a + b) = omega arith in
    rw (e, bytes-append a b (x / 256), pow-succ' 256 a, div-div-eq-div-mul x 256 (256 ^ a))

-- the w lowest bytes
pub bytes-lowest : (w x y : ℕ) → bytes_of w (x + 256 ^ w * y) ≡ bytes_of w x
unfolding bytes_of
bytes-lowest zero x y = refl
bytes-lowest (suc w) x y =
    let e : 256 ^ suc w * y ≡ 256 * (256 ^ w * y) = rw (pow-succ' 256 w) (mul_assoc 256 (256 ^ w) y) in
    let q : (x + 256 ^ suc w * y) / 256 ≡ x / 256 + 256 ^ w * y = omega arith in
    let r : (x + 256 ^ suc w * y) % 256 ≡ x % 256 = omega arith in
    rw (q, r) (ap (λ (bs : List ℕ). x % 256 ∷ bs) (bytes-lowest w (x / 256) y))

pub bytes-mod : (w x : ℕ) → bytes_of w (x % 256 ^ w) ≡ bytes_of w x
bytes-mod w x = sym (bytes-lowest w (x % 256 ^ w) (x / 256 ^ w)) ∙ ap (bytes_of w) (mod-add-div x (256 ^ w))

-- ---- numbers in a list of bytes

pub number_at-add : (a b p : ℕ) (bs : List ℕ) → p + a ≤ length bs → number_at (a + b) p bs ≡ number_at a p bs + 256 ^ a * number_at b (p + a) bs
unfolding number_at
number_at-add a b p bs h = rw (part-add p a b bs, number_append (part p a bs) (part (p + a) b bs), length_part p a bs h)

-- one byte
pub number_at-byte : (p : ℕ) (bs : List ℕ) → p < length bs → number_at 1 p bs ≡ get_or bs p 0
unfolding number_at number_of
number_at-byte p bs h = rw (drop-cons bs p 0 h) (omega arith)

pub part_bytes : (p w : ℕ) (bs : List ℕ) → Bytes bs → Bytes (part p w bs)
part_bytes p w bs h = record {
  below = get_d-all (part p w bs) 0 (λ x. x < 256) (omega arith)
      (λ i k. let l : i < w = omega (arith, length-take w (drop p bs)) in rw (get_d_part p w i bs 0 l) (h.below (p + i)));
}

pub number_at-below : (w p : ℕ) (bs : List ℕ) → Bytes bs → p + w ≤ length bs → number_at w p bs < 256 ^ w
unfolding number_at
number_at-below w p bs h k = rw (length_part p w bs k) at (number-below (part p w bs) (part_bytes p w bs h))

pub bytes-number_at : (w p : ℕ) (bs : List ℕ) → Bytes bs → p + w ≤ length bs → bytes_of w (number_at w p bs) ≡ part p w bs
unfolding number_at
bytes-number_at w p bs h k = rw (length_part p w bs k) at (bytes-number (part p w bs) (part_bytes p w bs h))

-- ---- two's complement

-- as the machine has it
pub bits-machine : (z : ℤ) → bits_of z ≡ of_z w32 z
unfolding bits_of
bits-machine (pos n) = refl
bits-machine (negsuc n) = refl

pub bits_below : (z : ℤ) → SFits w32 z → bits_of z < 256 ^ 4
unfolding bits_of
bits_below (pos n) h = omega (arith, h.sfits)
bits_below (negsuc n) h = omega (arith, h.sfits)

pub signed_low : (x : ℕ) → x < 2_147_483_648 → signed_of x ≡ pos x
unfolding signed_of
signed_low x h = rw (lt-ltb x 2_147_483_648 h)

pub signed_high : (x : ℕ) → 2_147_483_648 ≤ x → signed_of x ≡ pos x -ℤ pos 4_294_967_296
unfolding signed_of
signed_high x h = rw (le-ltb x 2_147_483_648 h)

pub signed-bits : (z : ℤ) → SFits w32 z → signed_of (bits_of z) ≡ z
unfolding bits_of
signed-bits (pos n) h = signed_low n h.sfits
signed-bits (negsuc n) h =
    let k : n < 2_147_483_648 = h.sfits in
    signed_high (4_294_967_296 - suc n) (omega arith) ∙ simp zify (omega arith)

pub bits-signed : (x : ℕ) → x < 256 ^ 4 → bits_of (signed_of x) ≡ x
unfolding bits_of
bits-signed x h = go (dec_lt x 2_147_483_648)
  where
    go : Dec (x < 2_147_483_648) → bits_of (signed_of x) ≡ x
    go (yes k) = rw (signed_low x k)
    go (no k) =
        let e : pos x -ℤ pos 4_294_967_296 ≡ negsuc (4_294_967_295 - x) = simp zify (omega arith) in
        ap bits_of (signed_high x (omega arith) ∙ e) ∙ (let z : 4_294_967_296 - suc (4_294_967_295 - x) ≡ x = omega arith in z)

pub signed-machine : (x : ℕ) → Fits w32 x → signed_of x ≡ to_z w32 x
signed-machine x h =
    let e : bits_of (to_z w32 x) ≡ x = bits-machine (to_z w32 x) ∙ of_z-to_z h in
    ap signed_of (sym e) ∙ signed-bits (to_z w32 x) (sfits_to_z h)

-- ---- std's words for bytes

pub le_bytes-two : (x : ℕ) → to_le_bytes w16 x ≡ bytes_of 2 x
unfolding bytes_of
le_bytes-two x = refl

pub le_bytes-four : (x : ℕ) → to_le_bytes w32 x ≡ bytes_of 4 x
unfolding bytes_of
le_bytes-four x =
    let two : x / 65_536 ≡ x / 256 / 256 = omega arith in
    let three : x / 16_777_216 ≡ x / 256 / 256 / 256 = omega arith in
    rw (two, three)

pub le_number-two : (p : ℕ) (bs : List ℕ) → p + 2 ≤ length bs → from_le_bytes w16 (get_or bs p 0 ∷ get_or bs (p + 1) 0 ∷ []) ≡ number_at 2 p bs
le_number-two p bs h =
    omega (arith, number_at-add 1 1 p bs (omega arith), number_at-byte p bs (omega arith), number_at-byte (p + 1) bs (omega arith))

pub le_number-four : (p : ℕ) (bs : List ℕ) → p + 4 ≤ length bs
    → from_le_bytes w32 (get_or bs p 0 ∷ get_or bs (p + 1) 0 ∷ get_or bs (p + 2) 0 ∷ get_or bs (p + 3) 0 ∷ []) ≡ number_at 4 p bs
le_number-four p bs h =
    let three : p + 2 + 1 ≡ p + 3 = omega arith in
    let low = number_at-add 1 1 p bs (omega arith) in
    let high = rw three at (number_at-add 1 1 (p + 2) bs (omega arith)) in
    omega (
      arith,
      number_at-add 2 2 p bs (omega arith),
      low,
      high,
      number_at-byte p bs (omega arith),
      number_at-byte (p + 1) bs (omega arith),
      number_at-byte (p + 2) bs (omega arith),
      number_at-byte (p + 3) bs (omega arith),
    )

-- ---- signed numbers in a list of bytes

pub length-integer_bytes : (z : ℤ) → length (integer_bytes z) ≡ 4
unfolding integer_bytes
length-integer_bytes z = length-bytes_of 4 (bits_of z)

-- the numbers of a part, one after the other
pub integers_bytes-part : (p w : ℕ) (xs : List ℤ) → p + w ≤ length xs → integers_bytes (part p w xs) ≡ joined w (λ i. integer_bytes (at xs (p + i)))
unfolding integers_bytes
integers_bytes-part p w xs h = rw (length_part p w xs h) (joined-cong w _ _ (λ i k. ap integer_bytes (get_d_part p w i xs (pos 0) k)))

-- the four bytes that are written are the number that is read
pub integer-written : (p : ℕ) (bs : List ℕ) (z : ℤ) → SFits w32 z → part p 4 bs ≡ integer_bytes z → integer_at p bs ≡ z
unfolding integer_at number_at integer_bytes
integer-written p bs z h e = rw (e, number-bytes 4 (bits_of z) (bits_below z h)) (signed-bits z h)

-- and the other way
pub integer-read : (p : ℕ) (bs : List ℕ) → Bytes bs → p + 4 ≤ length bs → integer_bytes (integer_at p bs) ≡ part p 4 bs
unfolding integer_at integer_bytes
integer-read p bs h k = rw (bits-signed (number_at 4 p bs) (number_at-below 4 p bs h k)) (bytes-number_at 4 p bs h k)

-- ---- k signed numbers, one every `step` bytes

module _ (p step k : ℕ) (bs : List ℕ) where
  pub length-integers_at : length (integers_at p step k bs) ≡ k
  unfolding integers_at
  length-integers_at = length-list_of k _

  pub at-integers_at : (i : ℕ) → i < k → at (integers_at p step k bs) i ≡ integer_at (p + i * step) bs
  unfolding integers_at
  at-integers_at i h = get_d-list_of k _ i (pos 0) h
