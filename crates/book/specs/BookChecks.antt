-- The checks of a book and of a book to be written, by the numbers of 01 and 02 and in their order.
use Rattle.std.specs.Prelude.{◌*◌, ℕ, eqb, leb, ℤ, get_or, length, Bool, ◌&&◌, not, List, [], ◌++◌, ◌∷◌}
use Rattle.integer.specs.Index.{all}
use Rattle.model.specs.Checks.{Check, first, length_checks, model_checks, must, none, number_checks, size_checks}
use Rattle.model.specs.Model.{Model, model_of}
use Rattle.model.specs.Rows.{Rows}
use Rattle.book.specs.Book.{book_length, bounds_offset, decode, length_given, rows, rows_offset, trailer_of, variables}

-- 4. An offset or the length is not what n and m give.
unfoldable pub offset_checks : List ℕ → List Check
offset_checks t =
    must (eqb (bounds_offset t) 0 && eqb (rows_offset t) (8 * variables t) && eqb (length_given t) (book_length (variables t) (rows t))) 4 ∷ []

-- 3 and 4 of the 16 trailer bytes
unfoldable pub layout_checks : List ℕ → List Check
layout_checks t = size_checks (variables t) (rows t) ++ offset_checks t

-- The trailer call: "it makes check 1, refuses more than 16 bytes by 5, and then makes checks 3 and 4".
unfoldable pub trailer_checks : List ℕ → List Check
trailer_checks t = must (leb 16 (length t)) 1 ∷ must (leb (length t) 16) 5 ∷ layout_checks t

-- 2. The trailer's length is not the book's.
unfoldable pub given_length_checks : List ℕ → ℕ → List Check
given_length_checks t len = must (eqb (length_given t) len) 2 ∷ []

-- 1. The book has under 16 bytes. Then 2, 3 and 4.
unfoldable pub head_checks : List ℕ → List Check
head_checks bs = must (leb 16 (length bs)) 1 ∷ given_length_checks (trailer_of bs) (length bs) ++ layout_checks (trailer_of bs)

-- 6, 7, 23, 8, 9 and 16, of a model's numbers
abbrev pub model_number_checks : Model → List Check
model_number_checks M = number_checks M.n M.box M.rows

-- a book alone: 1 to 4, then those of the numbers
unfoldable pub book_checks : List ℕ → List Check
book_checks bs = head_checks bs ++ model_number_checks (decode bs)

-- reading a book into lent buffers: 1 to 4, 5, then those of the numbers
unfoldable pub read_checks : List ℕ → List ℤ → Rows → List Check
read_checks bs B A = head_checks bs ++ (length_checks (model_of (decode bs).n (decode bs).m B A) ++ model_number_checks (decode bs))

-- no row is an = row: no kind byte is 1 (`inequalities-test`)
unfoldable pub inequalities : List ℕ → Bool
inequalities K = all (length K) (λ i. not (eqb (get_or K i 0) 1))

-- "17, an = row to be written into a first-edition book, straight after 16" (02, C-14)
unfoldable pub first_edition_checks : List ℕ → List Check
first_edition_checks K = must (inequalities K) 17 ∷ []

-- writing a model into a lent book of k bytes: those of the model, of which 16 is the last, then 17
unfoldable pub write_checks : Model → ℕ → List Check
write_checks M k = model_checks M none (eqb k (book_length M.n M.m)) ++ first_edition_checks M.rows.kinds

unfoldable pub book_fault : List ℕ → ℕ
book_fault bs = first (book_checks bs)
