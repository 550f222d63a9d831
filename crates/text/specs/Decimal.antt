-- Decimal notation in ASCII bytes, the most significant digit first: `0` is 48, `9` is 57, `-` is 45.
use Rattle.std.specs.Prelude.{◌%◌, ◌*◌, ◌+◌, ◌-◌, ◌/◌, ◌<◌, suc, zero, ℕ, ltb, negsuc, pos, ℤ, cond, List, [], ◌++◌, ◌∷◌}

-- the digits of n, for which `places` places are enough
unfoldable pub digits : ℕ → ℕ → List ℕ
digits zero n = []
digits (suc places) n =
    let front = digits places (n / 10) in
    cond (ltb n 10) ((48 + n) ∷ []) (front ++ ((48 + n % 10) ∷ []))

-- A natural number, `0` for 0. It needs no more than n + 1 places. Right by `decimal-numeral`, and the only right text by
-- `numeral-decimal`.
unfoldable pub decimal : ℕ → List ℕ
decimal n = digits (suc n) n

-- a whole number with its sign; negsuc n is −(n + 1)
unfoldable pub signed : ℤ → List ℕ
signed (pos n) = decimal n
signed (negsuc n) = 45 ∷ decimal (suc n)

-- text is n in decimal notation: a digit, or what is n / 10 in decimal notation and not 0, and then the last digit
pub data Numeral : List ℕ → ℕ → Type 0 where
  digit : {d : ℕ} → d < 10 → Numeral ((48 + d) ∷ []) d
  more : {text : List ℕ} {n d : ℕ} → Numeral text n → 0 < n → d < 10 → Numeral (text ++ ((48 + d) ∷ [])) (n * 10 + d)

-- the value of digits that follow a number n, and of digits alone
unfoldable pub value_after : ℕ → List ℕ → ℕ
value_after n [] = n
value_after n (b ∷ text) = value_after (n * 10 + (b - 48)) text

unfoldable pub value : List ℕ → ℕ
value text = value_after 0 text
