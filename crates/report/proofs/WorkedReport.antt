-- 01's example: the report on the book with bounds 0, 1, 0, 1 and the row 4, 3, 2, byte for byte. Computed from the definitions.
use lib.IntN.{negsuc, pos}
use mathlib.Core.List.{List, [], ◌++◌, ◌∷◌}
use mathlib.Core.Path.{◌≡◌, refl}
use Prim.Native.Nat.{ℕ}
use Rattle.text.specs.Decimal.{decimal, digits, signed}
use Rattle.text.specs.Fields.{field, fields}
use Rattle.report.specs.Report.{byte_line, implication_at, implication_line, is_zero_row, reduced_line, report, row_line, row_text, variable_at, variable_line}
use Rattle.text.specs.Text.{texts}
use Rattle.integer.specs.Index.{all}
use Rattle.integer.specs.Order.{eq_z}
use Rattle.model.specs.Rows.{row_of, rows_of}
use Rattle.model.specs.State.{State, state_of}

-- x0 = 1 implies x1 = 0, and x1 = 1 implies x0 = 0: bytes 6 and 12 of 16
table : List ℕ
table = 0 ∷ 0 ∷ 0 ∷ 0 ∷ 0 ∷ 0 ∷ 1 ∷ 0 ∷ 0 ∷ 0 ∷ 0 ∷ 0 ∷ 1 ∷ 0 ∷ 0 ∷ 0 ∷ []

-- the state that the rounds leave
left : State
left = state_of 2 1 (pos 0 ∷ pos 1 ∷ pos 0 ∷ pos 1 ∷ []) (rows_of (pos 1 ∷ pos 1 ∷ []) (pos 1 ∷ []) (0 ∷ [])) table

example : report 2 left ≡
    -- reduced 2 1 2
    114 ∷ 101 ∷ 100 ∷ 117 ∷ 99 ∷ 101 ∷ 100 ∷ 32 ∷ 50 ∷ 32 ∷ 49 ∷ 32 ∷ 50 ∷ 10
    -- v 0 0 1, v 1 0 1
    ∷ 118 ∷ 32 ∷ 48 ∷ 32 ∷ 48 ∷ 32 ∷ 49 ∷ 10
    ∷ 118 ∷ 32 ∷ 49 ∷ 32 ∷ 48 ∷ 32 ∷ 49 ∷ 10
    -- r 0 1 1 1
    ∷ 114 ∷ 32 ∷ 48 ∷ 32 ∷ 49 ∷ 32 ∷ 49 ∷ 32 ∷ 49 ∷ 10
    -- i 0 1 1 0, i 1 1 0 0
    ∷ 105 ∷ 32 ∷ 48 ∷ 32 ∷ 49 ∷ 32 ∷ 49 ∷ 32 ∷ 48 ∷ 10
    ∷ 105 ∷ 32 ∷ 49 ∷ 32 ∷ 49 ∷ 32 ∷ 48 ∷ 32 ∷ 48 ∷ 10
    ∷ []
unfolding table left state_of report reduced_line variable_at variable_line row_text row_line row_of implication_at implication_line byte_line is_zero_row all eq_z texts field fields signed decimal digits
example = refl

-- r 0 4 3 2: the right side stands before the coefficients
row : row_line 0 (pos 4) (pos 3 ∷ pos 2 ∷ []) ≡ 114 ∷ 32 ∷ 48 ∷ 32 ∷ 52 ∷ 32 ∷ 51 ∷ 32 ∷ 50 ∷ 10 ∷ []
unfolding row_line field fields texts signed decimal digits
row = refl

-- −1000000, and 0
minus : signed (negsuc 999_999) ++ decimal 0 ≡ 45 ∷ 49 ∷ 48 ∷ 48 ∷ 48 ∷ 48 ∷ 48 ∷ 48 ∷ 48 ∷ []
unfolding signed decimal digits
minus = refl
