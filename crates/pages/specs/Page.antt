-- The pages for the floor (C-23). Bytes are ASCII: 32 is a space, 43 is +, 45 is -, 10 ends a line. Variables count from 0, pages
-- and columns from 1.
use Rattle.std.specs.Prelude.{◌%◌, ◌*◌, ◌+◌, ◌-◌, ◌/◌, ◌≤◌, suc, zero, ℕ, eqb, ℤ, drop, get_or, length, replicate, Bool, cond, List, [], ◌++◌, ◌∷◌, ◌≡◌}
use Rattle.model.specs.Box.{at, lower, upper}
use Rattle.model.specs.Limits.{max_bound, max_variables, min_bound}
use Rattle.model.specs.Valid.{Between}
use Rattle.text.specs.Decimal.{decimal, signed}
use Rattle.text.specs.Text.{texts}
use Rattle.semantics.specs.Probe.{byte_of, literal}

-- a page: 60 lines of 80 columns and a line feed each
abbrev pub page_size : ℕ
page_size = 4_860

-- ---- fields

abbrev pub spaces : ℕ → List ℕ
spaces w = replicate w 32

abbrev pub newline : List ℕ
newline = 10 ∷ []

-- a text in w columns, right-aligned, and left-aligned; it has at most w bytes
unfoldable pub right : ℕ → List ℕ → List ℕ
right w text = spaces (w - length text) ++ text

unfoldable pub left : ℕ → List ℕ → List ℕ
left w text = text ++ spaces (w - length text)

-- ---- what a variable implies

-- f 0, f 1, .. f (n − 1), one after the other
unfoldable pub joined : {A : Type 0} → ℕ → (ℕ → List A) → List A
joined zero f = []
joined (suc n) f = joined n f ++ f n

-- f 0 + f 1 + .. + f (n − 1)
unfoldable pub total : ℕ → (ℕ → ℕ) → ℕ
total zero f = 0
total (suc n) f = total n f + f n

-- the numbers below n that pass a test, rising
unfoldable pub passing : (ℕ → Bool) → ℕ → List ℕ
passing f n = joined n (λ q. cond (f q) (q ∷ []) [])

-- byte of "variable k is 1 implies literal q"
unfoldable pub implies_one : ℕ → List ℕ → ℕ → ℕ → Bool
implies_one n t k q = eqb (get_or t (byte_of n (literal k 1) q) 0) 1

-- "those that `this variable is 1` implies, rising", by their numbers 2j + w
unfoldable pub implied : ℕ → List ℕ → ℕ → List ℕ
implied n t k = passing (implies_one n t k) (2 * n)

-- ---- lines

-- "+ for `is 1` or - for `is 0`, then the variable's number"
unfoldable pub literal_text : ℕ → List ℕ
literal_text q = cond (eqb (q % 2) 1) 43 45 ∷ decimal (q / 2)

-- the first c literals of six columns each, and empty columns where there are fewer
unfoldable pub slots : ℕ → List ℕ → List ℕ
slots zero qs = []
slots (suc c) [] = spaces 6 ++ slots c []
slots (suc c) (q ∷ qs) = left 6 (literal_text q) ++ slots c qs

-- from column 24: "up to eight literals"
unfoldable pub literals : List ℕ → List ℕ
literals qs = slots 8 qs ++ spaces 9

-- "Columns 1 to 6 hold the variable, 8 to 14 l, 16 to 22 u, right-aligned"
unfoldable pub first_line : ℕ → ℤ → ℤ → List ℕ → List ℕ
first_line k l u qs = right 6 (decimal k) ++ (32 ∷ (right 7 (signed l) ++ (32 ∷ (right 7 (signed u) ++ (32 ∷ literals qs)))))

-- "Further ones go on a new line with the first 23 columns empty."
unfoldable pub further_line : List ℕ → List ℕ
further_line qs = spaces 23 ++ literals qs

unfoldable pub further_lines : ℕ → List ℕ → List (List ℕ)
further_lines zero qs = []
further_lines (suc c) qs = further_line qs ∷ further_lines c (drop 8 qs)

-- the lines after the first of a variable with that many literals
unfoldable pub further_count : ℕ → ℕ
further_count some = (some - 1) / 8

unfoldable pub variable_lines : ℕ → ℤ → ℤ → List ℕ → List (List ℕ)
variable_lines k l u qs = first_line k l u qs ∷ further_lines (further_count (length qs)) (drop 8 qs)

-- "variables upwards"
unfoldable pub contents : ℕ → List ℤ → List ℕ → List (List ℕ)
contents n B t = joined n (λ k. variable_lines k (lower B k) (upper B k) (implied n t k))

-- ---- pages

abbrev pub empty_line : List ℕ
empty_line = spaces 80

-- "Line 1 of each page is the page number, from 1, right-aligned in columns 75 to 80."; p counts from 0
unfoldable pub number_line : ℕ → List ℕ
number_line p = spaces 74 ++ right 6 (decimal (suc p))

-- line i of page p, both from 0; "the last page is filled with empty lines"
unfoldable pub page_line : List (List ℕ) → ℕ → ℕ → List ℕ
page_line ls p zero = number_line p
page_line ls p (suc i) = get_or ls (59 * p + i) empty_line

-- "60 lines of 80 columns, .., each ended by a line feed"
unfoldable pub page : List (List ℕ) → ℕ → List ℕ
page ls p = texts 60 (λ i. page_line ls p i ++ newline)

-- the number of content lines and of pages, from the table alone
unfoldable pub line_total : ℕ → List ℕ → ℕ
line_total n t = total n (λ k. 1 + further_count (length (implied n t k)))

unfoldable pub page_count : ℕ → List ℕ → ℕ
page_count n t = (line_total n t + 58) / 59

unfoldable pub pages : ℕ → List ℤ → List ℕ → List ℕ
pages n B t = texts (page_count n t) (page (contents n B t))

-- what the checks 3, 5 and 6 grant (`paper-valid`)
pub record Paper (n : ℕ) (B : List ℤ) : Type 0 where
  pub few : n ≤ max_variables
  pub len : length B ≡ 2 * n
  pub range : (i : ℕ) → Between min_bound max_bound (at B i)
