-- The checks of a sparse book (02, C-18), by their numbers and in their order: 1, 2, 3, 4, 19 or 20, 6, 7, 23, 8, 9, 16.
use Rattle.std.specs.Prelude.{◌*◌, ◌-◌, suc, zero, ℕ, eqb, leb, ltb, length, Bool, ◌&&◌, not, true, List, [], ◌++◌, ◌∷◌}
use Rattle.model.specs.Checks.{Check, first, must, size_checks}
use Rattle.little_endian.specs.Pieces.{joined}
use Rattle.book.specs.Book.{bounds_offset, rows, rows_offset, trailer_of, variables}
use Rattle.book.specs.BookChecks.{given_length_checks, model_number_checks}
use Rattle.sparse_layout.specs.SparseBook.{column_at, count_at, decode_sparse, is_zero, row_start, value_at}

-- 4, of a trailer: "the offsets are 0 and 8n .. for a trailer alone it means the offsets only"
unfoldable pub sparse_offset_checks : List ℕ → List Check
sparse_offset_checks t = must (eqb (bounds_offset t) 0 && eqb (rows_offset t) (8 * variables t)) 4 ∷ []

-- 3 and 4 of the 16 trailer bytes
unfoldable pub sparse_frame_checks : List ℕ → List Check
sparse_frame_checks t = size_checks (variables t) (rows t) ++ sparse_offset_checks t

-- The trailer call: 1, more than 16 bytes by 5, then 3 and 4.
unfoldable pub sparse_trailer_checks : List ℕ → List Check
sparse_trailer_checks t = must (leb 16 (length t)) 1 ∷ must (leb (length t) 16) 5 ∷ sparse_frame_checks t

-- 4, of a book: "and that the walk over m rows from the rows' offset ends at the trailer"
unfoldable pub walk_checks : ℕ → ℕ → List ℕ → List Check
walk_checks n m bs = must (eqb (row_start n bs m) (length bs - 16)) 4 ∷ []

-- 1. The book has under 16 bytes. 2. The trailer's length is not the book's. Then 3 and 4.
unfoldable pub sparse_head_checks : List ℕ → List Check
sparse_head_checks bs =
    let t = trailer_of bs in
    must (leb 16 (length bs)) 1 ∷ given_length_checks t (length bs) ++ (sparse_frame_checks t ++ walk_checks (variables t) (rows t) bs)

-- entry e's column is above the one before
unfoldable pub rises_at : ℕ → List ℕ → ℕ → Bool
rises_at p bs zero = true
rises_at p bs (suc e) = ltb (column_at p bs e) (column_at p bs (suc e))

-- "19, a column not below n or not above the one before; 20, a zero coefficient; .. in one entry the column"
unfoldable pub entry_checks : ℕ → ℕ → List ℕ → ℕ → List Check
entry_checks n p bs e =
    must (ltb (column_at p bs e) n && rises_at p bs e) 19 ∷ must (not (is_zero (value_at p bs e))) 20 ∷ []

-- "the entry read first deciding": those of the row that starts at p, and of all rows
unfoldable pub row_entry_checks : ℕ → List ℕ → ℕ → List Check
row_entry_checks n bs p = joined (count_at p bs) (entry_checks n p bs)

unfoldable pub all_entry_checks : ℕ → ℕ → List ℕ → List Check
all_entry_checks n m bs = joined m (λ i. row_entry_checks n bs (row_start n bs i))

-- 1 to 4, and 19 with 20 "both straight after check 4"
unfoldable pub sparse_layout_checks : List ℕ → List Check
sparse_layout_checks bs = let t = trailer_of bs in sparse_head_checks bs ++ all_entry_checks (variables t) (rows t) bs

-- a book alone: those, and then 6, 7, 23, 8, 9 and 16 of its model
unfoldable pub sparse_checks : List ℕ → List Check
sparse_checks bs = sparse_layout_checks bs ++ model_number_checks (decode_sparse bs)

unfoldable pub sparse_fault : List ℕ → ℕ
sparse_fault bs = first (sparse_checks bs)
