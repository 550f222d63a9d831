-- What `reduce` prints (01, "Book"): "`refused N`, or `none`, or: `reduced n m rounds`; `v`, variable, l, u; `r`, row, b,
-- coefficients, for rows not all zero; `i`, k, v, j, w, for table bytes 1 in rising order". Bytes are ASCII: 32 is a space, 10 ends
-- a line, and each letter stands beside its line.
use Rattle.std.specs.Prelude.{◌%◌, ◌*◌, ◌+◌, ◌/◌, ◌≤◌, ℕ, eqb, pos, ℤ, get_or, length, Bool, ◌&&◌, cond, List, [], ◌++◌, ◌∷◌, ◌≡◌}
use Rattle.integer.specs.Index.{all}
use Rattle.integer.specs.Order.{eq_z}
use Rattle.model.specs.Box.{at, lower, upper}
use Rattle.model.specs.Limits.{max_rows, max_variables}
use Rattle.model.specs.Rows.{Row, row_at}
use Rattle.model.specs.State.{State}
use Rattle.text.specs.Fields.{field, fields, max_field, max_long_field}
use Rattle.text.specs.Text.{texts, then}

-- ---- the lines

abbrev pub newline : List ℕ
newline = 10 ∷ []

-- refused N
unfoldable pub refused_line : ℕ → List ℕ
refused_line number = (114 ∷ 101 ∷ 102 ∷ 117 ∷ 115 ∷ 101 ∷ 100 ∷ []) ++ field (pos number) ++ newline

-- none
unfoldable pub none_line : List ℕ
none_line = (110 ∷ 111 ∷ 110 ∷ 101 ∷ []) ++ newline

-- reduced n m rounds
unfoldable pub reduced_line : ℕ → ℕ → ℕ → List ℕ
reduced_line n m rounds =
    (114 ∷ 101 ∷ 100 ∷ 117 ∷ 99 ∷ 101 ∷ 100 ∷ []) ++ field (pos n) ++ field (pos m) ++ field (pos rounds) ++ newline

-- v, variable, l, u
unfoldable pub variable_line : ℕ → ℤ → ℤ → List ℕ
variable_line j l u = (118 ∷ []) ++ field (pos j) ++ field l ++ field u ++ newline

-- r, row, b, coefficients
unfoldable pub row_line : ℕ → ℤ → List ℤ → List ℕ
row_line r b coefs = (114 ∷ []) ++ field (pos r) ++ field b ++ fields coefs ++ newline

-- i, k, v, j, w
unfoldable pub implication_line : ℕ → ℕ → ℕ → ℕ → List ℕ
implication_line k v j w = (105 ∷ []) ++ field (pos k) ++ field (pos v) ++ field (pos j) ++ field (pos w) ++ newline

-- ---- the report

unfoldable pub variable_at : List ℤ → ℕ → List ℕ
variable_at B j = variable_line j (lower B j) (upper B j)

-- "rows not all zero": a coefficient or b is not zero (D-16)
unfoldable pub is_zero_row : Row → Bool
is_zero_row row = eq_z row.rhs (pos 0) && all (length row.coefs) (λ j. eq_z (at row.coefs j) (pos 0))

-- of row r; its kind is not printed (`report-kindless`)
unfoldable pub row_text : ℕ → Row → List ℕ
row_text r row = cond (is_zero_row row) [] (row_line r row.rhs row.coefs)

-- Byte i of the table is p · 2n + q, with p = 2k + v and q = 2j + w (`implication-byte`).
unfoldable pub byte_line : ℕ → ℕ → List ℕ
byte_line n i =
    let p = i / (2 * n) in
    let q = i % (2 * n) in
    implication_line (p / 2) (p % 2) (q / 2) (q % 2)

unfoldable pub implication_at : ℕ → List ℕ → ℕ → List ℕ
implication_at n t i = cond (eqb (get_or t i 0) 1) (byte_line n i) []

-- after so many rounds, of the state that they leave
unfoldable pub report : ℕ → State → List ℕ
report rounds s =
    let M = s.model in
    let n = M.n in
    reduced_line n M.m rounds ++ texts n (variable_at M.box) ++ texts M.m (λ r. row_text r (row_at n M.rows r))
    ++ texts (4 * (n * n)) (implication_at n s.table)

-- ---- the report by its lines, counted from 0, where a zero row and a byte that is not 1 are lines without text

unfoldable pub line_count : ℕ → ℕ → ℕ
line_count n m = 1 + (n + (m + 4 * (n * n)))

-- the lines up to line_count are the report (`report-lines`)
unfoldable pub line_at : ℕ → State → ℕ → List ℕ
line_at rounds s =
    let M = s.model in
    let n = M.n in
    then 1 (λ i. reduced_line n M.m rounds)
    (then n (variable_at M.box) (then M.m (λ r. row_text r (row_at n M.rows r)) (implication_at n s.table)))

-- ---- room

-- the bytes of any line but a row's, of a row's line with n coefficients, of any line
abbrev pub max_short_line : ℕ
max_short_line = 8 + max_field * 2 + max_long_field

abbrev pub max_row_line : ℕ → ℕ
max_row_line n = 2 + max_field * (2 + n)

abbrev pub max_line : ℕ
max_line = max_row_line max_variables

-- what is printed has the limits and lengths that the checks 3 and 5 ask
pub record Printable (s : State) : Type 0 where
  pub few : s.model.n ≤ max_variables
  pub few_rows : s.model.m ≤ max_rows
  pub box : length s.model.box ≡ 2 * s.model.n
  pub coefs : length s.model.rows.coefs ≡ s.model.m * s.model.n
  pub rhs : length s.model.rows.rhs ≡ s.model.m
  pub table : length s.table ≡ 4 * (s.model.n * s.model.n)
