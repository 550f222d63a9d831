-- The checks of the two calls. They are lent n and neither m nor a row: 3 is of n alone.
use Rattle.std.specs.Prelude.{◌*◌, ℕ, eqb, ℤ, length, List, ◌++◌, ◌∷◌}
use Rattle.model.specs.Checks.{Check, box_checks, must, size_checks, table, table_byte_checks, table_length_checks}
use Rattle.pages.specs.Page.{page_count, page_size}

-- 3, and 5 of the table
unfoldable pub lent_checks : ℕ → List ℕ → List Check
lent_checks n t = size_checks n 0 ++ table_length_checks n (table t)

-- telling the number of pages: 3, 5, 10
unfoldable pub count_checks : ℕ → List ℕ → List Check
count_checks n t = lent_checks n t ++ table_byte_checks (table t)

-- Writing them: 3, 5, 6, 7, 23, 10. "a lent buffer of 4,860 bytes for each page": `room` is its length. The pages are counted by the
-- bytes that are 1; any other byte is left to 10.
unfoldable pub page_checks : ℕ → List ℤ → List ℕ → ℕ → List Check
page_checks n B t room =
    lent_checks n t
    ++ (must (eqb (length B) (2 * n)) 5 ∷ must (eqb room (page_count n t * page_size)) 5 ∷ (box_checks n B ++ table_byte_checks (table t)))
