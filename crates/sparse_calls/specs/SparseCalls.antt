-- The calls on sparse books (02, C-18: "Each edition has its own calls"): which checks each makes, in their order, what it answers and
-- what it leaves in the buffers that it is lent.
use Rattle.std.specs.Prelude.{ℕ, eqb, ℤ, length, cond, true, List, ◌++◌, ◌∷◌, Result, Ok, Err}
use Rattle.model.specs.Checks.{Check, first, length_checks, model_fault, must, none}
use Rattle.model.specs.Model.{Model, model_of}
use Rattle.model.specs.Rows.{Rows}
use Rattle.book.specs.Answers.{Answer, lent, sizes_are, unless, written}
use Rattle.book.specs.Book.{book_length, decode, rows, variables}
use Rattle.book.specs.BookChecks.{book_fault, first_edition_checks, head_checks, model_number_checks}
use Rattle.sparse_layout.specs.SparseBook.{decode_sparse, encode_sparse, sparse_length}
use Rattle.sparse_layout.specs.SparseChecks.{sparse_layout_checks, sparse_trailer_checks}
use Rattle.sparse_layout.specs.SparseTrips.{to_first, to_sparse}
use Rattle.model.specs.declared.refusal.Refusal.{Refusal}
use Rattle.model.specs.Refusals.{number_of}

-- ---- the trailer call: 1 5 3 4

unfoldable pub sparse_trailer_call : List ℕ → Answer
sparse_trailer_call t = unless (first (sparse_trailer_checks t)) (sizes_are (variables t) (rows t))

-- ---- reading bs into the buffers B and those of the rows A: 1 2 3 4, 19 or 20, 5, 6 7 23 8 9 16

unfoldable pub sparse_read_checks : List ℕ → List ℤ → Rows → List Check
sparse_read_checks bs B A =
    let M = decode_sparse bs in sparse_layout_checks bs ++ (length_checks (model_of M.n M.m B A) ++ model_number_checks M)

unfoldable pub sparse_read_fault : List ℕ → List ℤ → Rows → ℕ
sparse_read_fault bs B A = first (sparse_read_checks bs B A)

unfoldable pub sparse_read_call : List ℕ → List ℤ → Rows → Answer
sparse_read_call bs B A = unless (sparse_read_fault bs B A) (sizes_are (decode_sparse bs).n (decode_sparse bs).m)

-- what is in the buffers then
unfoldable pub sparse_bounds_read : List ℕ → List ℤ → Rows → List ℤ
sparse_bounds_read bs B A = lent (sparse_read_fault bs B A) B (decode_sparse bs).box

unfoldable pub sparse_coefs_read : List ℕ → List ℤ → Rows → List ℤ
sparse_coefs_read bs B A = lent (sparse_read_fault bs B A) A.coefs (decode_sparse bs).rows.coefs

unfoldable pub sparse_rhs_read : List ℕ → List ℤ → Rows → List ℤ
sparse_rhs_read bs B A = lent (sparse_read_fault bs B A) A.rhs (decode_sparse bs).rows.rhs

unfoldable pub sparse_kinds_read : List ℕ → List ℤ → Rows → List ℕ
sparse_kinds_read bs B A = lent (sparse_read_fault bs B A) A.kinds (decode_sparse bs).rows.kinds

-- ---- writing the model M into the buffer bs: 3, 5 with the book's length among the others, 6 7 23 8 9 16

unfoldable pub sparse_write_fault : Model → List ℕ → ℕ
sparse_write_fault M bs = model_fault M none (eqb (length bs) (sparse_length M))

unfoldable pub sparse_write_call : Model → List ℕ → Answer
sparse_write_call M bs = unless (sparse_write_fault M bs) written

unfoldable pub sparse_written : Model → List ℕ → List ℕ
sparse_written M bs = lent (sparse_write_fault M bs) bs (encode_sparse M)

-- ---- the length of a model's sparse book: 3 5 6 7 23 8 9 16

-- refused by a check's number, or so many bytes
pub data BytesNeeded : Type 0 where
  refused_length : ℕ → BytesNeeded
  bytes_are : ℕ → BytesNeeded

-- what the result of the code stands for; it is injective (`length_injective`)
unfoldable pub length_answer : Result ℕ Refusal → BytesNeeded
length_answer (Err r) = refused_length (number_of r)
length_answer (Ok count) = bytes_are count

unfoldable pub bytes_unless : ℕ → ℕ → BytesNeeded
bytes_unless fault count = cond (eqb fault 0) (bytes_are count) (refused_length fault)

unfoldable pub sparse_length_call : Model → BytesNeeded
sparse_length_call M = bytes_unless (model_fault M none true) (sparse_length M)

-- ---- "Converting goes both ways."

-- a first-edition book into a sparse one of k bytes: as it is read, 1 2 3 4, 5, 6 7 23 8 9; 5 counts the coefficients that are not 0, in
-- range or not
unfoldable pub to_sparse_checks : List ℕ → ℕ → List Check
to_sparse_checks bs k = head_checks bs ++ (must (eqb k (sparse_length (decode bs))) 5 ∷ model_number_checks (decode bs))

unfoldable pub to_sparse_fault : List ℕ → List ℕ → ℕ
to_sparse_fault bs cs = first (to_sparse_checks bs (length cs))

unfoldable pub to_sparse_call : List ℕ → List ℕ → Answer
to_sparse_call bs cs = unless (to_sparse_fault bs cs) written

unfoldable pub to_sparse_written : List ℕ → List ℕ → List ℕ
to_sparse_written bs cs = lent (to_sparse_fault bs cs) cs (to_sparse bs)

-- how many bytes that takes: no buffer is lent for it
unfoldable pub to_sparse_length_call : List ℕ → BytesNeeded
to_sparse_length_call bs = bytes_unless (book_fault bs) (sparse_length (decode bs))

-- a sparse book into a first-edition one of k bytes: as it is read, and then "On the way to the first edition an = row is refused as 17."
unfoldable pub to_first_checks : List ℕ → ℕ → List Check
to_first_checks bs k =
    let M = decode_sparse bs in
    sparse_layout_checks bs ++ (must (eqb k (book_length M.n M.m)) 5 ∷ (model_number_checks M ++ first_edition_checks M.rows.kinds))

unfoldable pub to_first_fault : List ℕ → List ℕ → ℕ
to_first_fault bs cs = first (to_first_checks bs (length cs))

unfoldable pub to_first_call : List ℕ → List ℕ → Answer
to_first_call bs cs = unless (to_first_fault bs cs) written

unfoldable pub to_first_written : List ℕ → List ℕ → List ℕ
to_first_written bs cs = lent (to_first_fault bs cs) cs (to_first bs)
