-- The pages as code writes them: one line after the other, each page's number before its first line.
use Rattle.std.specs.Prelude.{◌%◌, ◌*◌, ◌+◌, ◌-◌, ◌/◌, ℕ, eqb, ℤ, get_or, length, Bool, cond, List, [], ◌++◌, ◌∷◌}
use Rattle.text.specs.Decimal.{decimal, signed}
use Rattle.pages.specs.Page.{joined, newline, number_line, right}

-- ---- the literals of a variable, from its part of the table

-- byte q of the part is 1
unfoldable pub is_one : List ℕ → ℕ → Bool
is_one part q = eqb (get_or part q 0) 1

-- the numbers from q to q + r − 1 that pass a test
unfoldable pub passing_from : (ℕ → Bool) → ℕ → ℕ → List ℕ
passing_from f q r = joined r (λ i. cond (f (q + i)) ((q + i) ∷ []) [])

-- the bytes 1 from byte q on: what is left where a loop over q stands (`ones-here`, `ones-not`)
unfoldable pub ones_from : List ℕ → ℕ → List ℕ
ones_from part q = passing_from (is_one part) q (length part - q)

-- ---- lines on pages; content lines count from 0, the lines of page numbers not among them

-- columns 1 to 23 of a variable's first line
unfoldable pub fields : ℕ → ℤ → ℤ → List ℕ
fields k l u = right 6 (decimal k) ++ right 8 (signed l) ++ right 8 (signed u) ++ (32 ∷ [])

-- the page's number, where content line c is the first of a page
unfoldable pub heading : ℕ → List ℕ
heading c = cond (eqb (c % 59) 0) (number_line (c / 59) ++ newline) []

-- the bytes before content line c, and before the page's number where one comes
unfoldable pub start : ℕ → ℕ
start c = 81 * (c + (c + 58) / 59)

-- the first content line from c on that begins a page
unfoldable pub filled : ℕ → ℕ
filled c = 59 * ((c + 58) / 59)

-- lines that begin at content line c
unfoldable pub sheet : ℕ → List (List ℕ) → List ℕ
sheet c [] = []
sheet c (l ∷ ls) = heading c ++ (l ++ newline) ++ sheet (c + 1) ls
