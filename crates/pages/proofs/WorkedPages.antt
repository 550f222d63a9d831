-- 01's example on paper, byte for byte, and a variable with nine literals. Computed from the definitions.
use Prim.Native.Nat.{ℕ}
use lib.IntN.{negsuc, pos}
use mathlib.Core.List.{List, [], ◌++◌, ◌∷◌}
use mathlib.Core.Path.{◌≡◌, refl}
use Rattle.text.specs.Decimal.{decimal, digits, signed}
use Rattle.text.specs.Text.{texts}
use Rattle.semantics.specs.Probe.{byte_of, literal}
use Rattle.pages.specs.Page.{contents, first_line, further_count, further_line, further_lines, implied, implies_one, joined, left, line_total, literal_text, literals, number_line, page, page_count, page_line, pages, passing, right, slots, spaces, total, variable_lines}

-- x0 = 1 implies x1 = 0, and x1 = 1 implies x0 = 0: bytes 6 and 12 of 16
table : List ℕ
table = 0 ∷ 0 ∷ 0 ∷ 0 ∷ 0 ∷ 0 ∷ 1 ∷ 0 ∷ 0 ∷ 0 ∷ 0 ∷ 0 ∷ 1 ∷ 0 ∷ 0 ∷ 0 ∷ []

-- bounds 0, 1 and −32768, 32767; one page
example : pages 2 (pos 0 ∷ pos 1 ∷ negsuc 32_767 ∷ pos 32_767 ∷ []) table ≡
    -- the page number in column 80
    spaces 79 ++ (49 ∷ 10 ∷ [])
    -- 0, 0, 1, -1
    ++ (spaces 5 ++ (48 ∷ []) ++ spaces 7 ++ (48 ∷ []) ++ spaces 7 ++ (49 ∷ []) ++ spaces 1 ++ (45 ∷ 49 ∷ []) ++ spaces 55 ++ (10 ∷ []))
    -- 1, -32768, 32767, -0
    ++ (spaces 5 ++ (49 ∷ []) ++ spaces 2 ++ (45 ∷ 51 ∷ 50 ∷ 55 ∷ 54 ∷ 56 ∷ []) ++ spaces 3 ++ (51 ∷ 50 ∷ 55 ∷ 54 ∷ 55 ∷ []) ++ spaces 1 ++ (45 ∷ 48 ∷ []) ++ spaces 55 ++ (10 ∷ []))
    -- 57 empty lines
    ++ texts 57 (λ i. spaces 80 ++ (10 ∷ []))
unfolding table pages page_count line_total total further_count page page_line number_line contents variable_lines first_line further_lines further_line literals slots literal_text left right implied implies_one passing joined byte_of literal texts signed decimal digits
example = refl

-- the ninth literal, +104 here, goes on a new line
nine : variable_lines 5 (pos 0) (pos 1) (0 ∷ 3 ∷ 4 ∷ 6 ∷ 8 ∷ 12 ∷ 14 ∷ 16 ∷ 209 ∷ []) ≡
    (spaces 5 ++ (53 ∷ []) ++ spaces 7 ++ (48 ∷ []) ++ spaces 7 ++ (49 ∷ []) ++ spaces 1
    -- -0, +1, -2, -3, -4, -6, -7, -8
    ++ (45 ∷ 48 ∷ []) ++ spaces 4 ++ (43 ∷ 49 ∷ []) ++ spaces 4 ++ (45 ∷ 50 ∷ []) ++ spaces 4 ++ (45 ∷ 51 ∷ []) ++ spaces 4
    ++ (45 ∷ 52 ∷ []) ++ spaces 4 ++ (45 ∷ 54 ∷ []) ++ spaces 4 ++ (45 ∷ 55 ∷ []) ++ spaces 4 ++ (45 ∷ 56 ∷ []) ++ spaces 13)
    ∷ (spaces 23 ++ (43 ∷ 49 ∷ 48 ∷ 52 ∷ []) ++ spaces 53)
    ∷ []
unfolding variable_lines first_line further_lines further_line further_count literals slots literal_text left right signed decimal digits
nine = refl
