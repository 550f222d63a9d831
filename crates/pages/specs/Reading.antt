-- Pages read back (C-23): "the numbers on the pages give back the bounds and those implications, all of them and no others".
use Rattle.std.specs.Prelude.{◌%◌, ◌*◌, ◌+◌, ◌-◌, ◌/◌, suc, zero, ℕ, eqb, ltb, neg_ℤ, pos, ℤ, drop, length, take, Bool, ◌&&◌, cond, false, true, List, [], ◌++◌, ◌∷◌}
use Rattle.model.specs.Box.{lower, upper}
use Rattle.text.specs.Decimal.{value}
use Rattle.pages.specs.Page.{implied, joined, page_size}

-- ---- numbers in columns

unfoldable pub is_digit : ℕ → Bool
is_digit b = ltb 47 b && ltb b 58

unfoldable pub is_minus : ℕ → Bool
is_minus b = eqb b 45

-- the bytes of a text that pass a test
unfoldable pub keep : (ℕ → Bool) → List ℕ → List ℕ
keep p [] = []
keep p (b ∷ text) = cond (p b) (b ∷ keep p text) (keep p text)

unfoldable pub is_none : List ℕ → Bool
is_none [] = true
is_none (b ∷ text) = false

-- no digit stands there
unfoldable pub is_blank : List ℕ → Bool
is_blank text = is_none (keep is_digit text)

-- the number that the digits there say, and with the sign before them
unfoldable pub natural_in : List ℕ → ℕ
natural_in text = value (keep is_digit text)

unfoldable pub whole_in : List ℕ → ℤ
whole_in text = cond (is_none (keep is_minus text)) (pos (natural_in text)) (neg_ℤ (pos (natural_in text)))

-- columns from .. to of a line, from 1
unfoldable pub columns : ℕ → ℕ → List ℕ → List ℕ
columns from to line = take (suc to - from) (drop (from - 1) line)

-- ---- one line

-- the number 2j + w of the literal in six columns, if there is one
unfoldable pub literal_in : List ℕ → List ℕ
literal_in text = cond (is_blank text) [] ((2 * natural_in text + cond (is_none (keep is_minus text)) 1 0) ∷ [])

unfoldable pub literals_in : ℕ → List ℕ → List ℕ
literals_in zero text = []
literals_in (suc c) text = literal_in (take 6 text) ++ literals_in c (drop 6 text)

-- the literals from column 24; a ninth on the line would be read too
unfoldable pub line_literals : List ℕ → List ℕ
line_literals line = literals_in 9 (drop 23 line)

-- a line with a number in columns 1 to 6 begins a variable
unfoldable pub begins : List ℕ → Bool
begins line = cond (is_blank (columns 1 6 line)) false true

-- ---- lines

pub record Entry : Type 0 where
  pub variable : ℕ
  pub low : ℤ
  pub high : ℤ
  pub implies : List ℕ

-- the literals of the lines before the next that begins a variable
unfoldable pub pending : List (List ℕ) → List ℕ
pending [] = []
pending (line ∷ lines) = cond (begins line) [] (line_literals line ++ pending lines)

unfoldable pub entry : List ℕ → List ℕ → Entry
entry line more =
    record {
      variable = natural_in (columns 1 6 line);
      low = whole_in (columns 8 14 line);
      high = whole_in (columns 16 22 line);
      implies = line_literals line ++ more;
    }

unfoldable pub entries : List (List ℕ) → List Entry
entries [] = []
entries (line ∷ lines) = cond (begins line) (entry line (pending lines) ∷ entries lines) (entries lines)

-- ---- pages

-- content line c of the pages, without the page numbers' lines
unfoldable pub line_in : List ℕ → ℕ → List ℕ
line_in bytes c = take 80 (drop (page_size * (c / 59) + 81 * suc (c % 59)) bytes)

unfoldable pub lines_in : List ℕ → List (List ℕ)
lines_in bytes = joined (59 * (length bytes / page_size)) (λ c. line_in bytes c ∷ [])

unfoldable pub read_pages : List ℕ → List Entry
read_pages bytes = entries (lines_in bytes)

-- what the pages say of variable k
unfoldable pub entry_of : ℕ → List ℤ → List ℕ → ℕ → Entry
entry_of n B t k = record { variable = k; low = lower B k; high = upper B k; implies = implied n t k }

-- ---- what the entries say

-- the box
unfoldable pub box_in : List Entry → List ℤ
box_in [] = []
box_in (e ∷ es) = e.low ∷ e.high ∷ box_in es

-- what "variable k is 1" implies
unfoldable pub implied_in : List Entry → ℕ → List ℕ
implied_in [] k = []
implied_in (e ∷ es) zero = e.implies
implied_in (e ∷ es) (suc k) = implied_in es k

-- q is one of the numbers
unfoldable pub has : ℕ → List ℕ → Bool
has q [] = false
has q (x ∷ xs) = cond (eqb q x) true (has q xs)
