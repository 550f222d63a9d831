-- The sparse book (02, C-18: "The second edition keeps the bounds and the 16-byte trailer."): the bytes of a model and the model of a
-- book.
use Rattle.std.specs.Prelude.{◌*◌, ◌+◌, ◌<◌, ◌≤◌, suc, zero, ℕ, eqb, pos, ℤ, length, Bool, cond, List, [], ◌++◌}
use Rattle.integer.specs.Order.{eq_z}
use Rattle.model.specs.Box.{at}
use Rattle.model.specs.Model.{Model, model_of}
use Rattle.model.specs.Rows.{Row, Rows, row_at, row_with, rows_of}
use Rattle.little_endian.specs.Bytes.{bytes_of, integer_at, integer_bytes, number_at}
use Rattle.little_endian.specs.Pieces.{joined, list_of}
use Rattle.book.specs.Book.{bound_bytes, bounds_of, rows, trailer_bytes, trailer_of, variables}
use Rattle.model.specs.Limits.{max_rows, max_variables}

-- ---- the bytes of a model

unfoldable pub is_zero : ℤ → Bool
is_zero z = eq_z z (pos 0)

-- how many of f 0, f 1, .., f (n − 1) are not 0
unfoldable pub nonzeros : ℕ → (ℕ → ℤ) → ℕ
nonzeros zero f = 0
nonzeros (suc n) f = nonzeros n f + cond (is_zero (f n)) 0 1

-- "then column (16) and coefficient (32) for each nonzero": the entry of column j, whose coefficient is x
unfoldable pub entry_of : ℕ → ℤ → List ℕ
entry_of j x = cond (is_zero x) [] (bytes_of 2 j ++ integer_bytes x)

abbrev pub entry_bytes : (ℕ → ℤ) → ℕ → List ℕ
entry_bytes f j = entry_of j (f j)

-- "A row is b (32 bits), kind (8), a count (16), then column (16) and coefficient (32) for each nonzero, columns rising."
unfoldable pub sparse_row_bytes : ℕ → Row → List ℕ
sparse_row_bytes n r =
    integer_bytes r.rhs ++ bytes_of 1 r.kind ++ bytes_of 2 (nonzeros n (at r.coefs)) ++ joined n (entry_bytes (at r.coefs))

-- of row i, and how many bytes the first i rows have
abbrev pub sparse_row_bytes_at : ℕ → Rows → ℕ → List ℕ
sparse_row_bytes_at n A i = sparse_row_bytes n (row_at n A i)

unfoldable pub rows_length : ℕ → Rows → ℕ → ℕ
rows_length n A zero = 0
rows_length n A (suc i) = rows_length n A i + (7 + 6 * nonzeros n (at (row_at n A i).coefs))

-- the length of the book of M
unfoldable pub sparse_length : Model → ℕ
sparse_length M = 8 * M.n + rows_length M.n M.rows M.m + 16

unfoldable pub encode_sparse : Model → List ℕ
encode_sparse M =
    bound_bytes M ++ joined M.m (sparse_row_bytes_at M.n M.rows) ++ trailer_bytes M.n M.m (sparse_length M)

-- ---- the model of a book

-- kind and count of the row that starts at p; its right side is `integer_at p bs`
unfoldable pub kind_at : ℕ → List ℕ → ℕ
kind_at p bs = number_at 1 (p + 4) bs

unfoldable pub count_at : ℕ → List ℕ → ℕ
count_at p bs = number_at 2 (p + 5) bs

-- column and coefficient of its entry e
unfoldable pub column_at : ℕ → List ℕ → ℕ → ℕ
column_at p bs e = number_at 2 (p + 7 + e * 6) bs

unfoldable pub value_at : ℕ → List ℕ → ℕ → ℤ
value_at p bs e = integer_at (p + 9 + e * 6) bs

-- "the walk over m rows from the rows' offset": where row i starts, and row i − 1 ends. It rises by at least 7 with each row, so that
-- it ends at the trailer only where every row lies before the trailer (`row_inside`).
unfoldable pub row_start : ℕ → List ℕ → ℕ → ℕ
row_start n bs zero = 8 * n
row_start n bs (suc i) = row_start n bs i + (7 + 6 * count_at (row_start n bs i) bs)

-- bytes, of a length of 32 bits, within which the walk over m rows of n variables stays
pub record HoldsRows (n m : ℕ) (bs : List ℕ) : Type 0 where
  pub few : n ≤ max_variables
  pub few_rows : m ≤ max_rows
  pub body : row_start n bs m ≤ length bs
  pub short : length bs < 4_294_967_296

-- coefficient j of the row that starts at p, by its first c entries
unfoldable pub dense_at : ℕ → List ℕ → ℕ → ℕ → ℤ
dense_at p bs zero j = pos 0
dense_at p bs (suc c) j = cond (eqb (column_at p bs c) j) (value_at p bs c) (dense_at p bs c j)

-- the row that starts at p, with all its n coefficients
abbrev pub row_in : ℕ → List ℕ → ℕ → Row
row_in n bs p = row_with (list_of n (dense_at p bs (count_at p bs))) (integer_at p bs) (kind_at p bs)

-- the rows and the model of a book whose trailer says n and m
unfoldable pub sparse_coefs_of : ℕ → ℕ → List ℕ → List ℤ
sparse_coefs_of n m bs = joined m (λ i. (row_in n bs (row_start n bs i)).coefs)

unfoldable pub sparse_rhs_of : ℕ → ℕ → List ℕ → List ℤ
sparse_rhs_of n m bs = list_of m (λ i. (row_in n bs (row_start n bs i)).rhs)

unfoldable pub sparse_kinds_of : ℕ → ℕ → List ℕ → List ℕ
sparse_kinds_of n m bs = list_of m (λ i. (row_in n bs (row_start n bs i)).kind)

abbrev pub sparse_rows_of : ℕ → ℕ → List ℕ → Rows
sparse_rows_of n m bs = rows_of (sparse_coefs_of n m bs) (sparse_rhs_of n m bs) (sparse_kinds_of n m bs)

unfoldable pub sparse_model_in : ℕ → ℕ → List ℕ → Model
sparse_model_in n m bs = model_of n m (bounds_of n bs) (sparse_rows_of n m bs)

unfoldable pub decode_sparse : List ℕ → Model
decode_sparse bs = let t = trailer_of bs in sparse_model_in (variables t) (rows t) bs
