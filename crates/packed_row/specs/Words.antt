-- A row packed in 32-bit words, one for each variable: its coefficient and the number of zeros that follow it, so that a sweep goes from
-- coefficient to coefficient. Any words say a row that is valid (`packed-valid`): what is skipped is 0, and so is what is out of range.
use Rattle.std.specs.Prelude.{◌/◌, ◌%◌, ◌<◌, ◌≤◌, suc, zero, ℕ, leb, ◌-ℤ◌, pos, ℤ, length, cond, List, [], ◌∷◌}
use Rattle.model.specs.Limits.{max_coef, max_rhs, max_variables}
use Rattle.model.specs.Rows.{Row}
use Rattle.model.specs.Valid.{ValidBox}

-- the greatest coefficient and the greatest right side, raised so that the least is 0
abbrev pub raised_coef : ℕ
raised_coef = 2_000_000

abbrev pub raised_rhs : ℕ
raised_rhs = 2_000_000_000

-- the coefficient in a word: (a + 1,000,000) × 128, and beside it the number of zeros that follow, at most 127
unfoldable pub coef_of : ℕ → ℤ
coef_of w = cond (leb (w / 128) raised_coef) (pos (w / 128) -ℤ max_coef) (pos 0)

-- the coefficients that words say, of which the first k are skipped
unfoldable pub coefs_from : List ℕ → (k : ℕ) → List ℤ
coefs_from [] k = []
coefs_from (w ∷ ws) zero = coef_of w ∷ coefs_from ws (w % 128)
coefs_from (w ∷ ws) (suc k) = pos 0 ∷ coefs_from ws k

-- the right side and the kind in one word: (b + 1,000,000,000) × 2 + kind
unfoldable pub rhs_of : ℕ → ℤ
rhs_of w = cond (leb (w / 2) raised_rhs) (pos (w / 2) -ℤ max_rhs) (pos 0)

-- the row that words and the word of its right side say
unfoldable pub row_of_words : List ℕ → ℕ → Row
row_of_words ws rhs_word = record { coefs = coefs_from ws 0; rhs = rhs_of rhs_word; kind = rhs_word % 2 }

-- words for a row of a box that passed the checks
pub record Readable (ws : List ℕ) (B : List ℤ) : Type 0 where
  pub some : 0 < length ws
  pub few : length ws ≤ max_variables
  pub box : ValidBox (length ws) B
