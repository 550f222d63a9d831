-- The book (01, "Book"): the bytes of a model and the model of a book.
use Rattle.std.specs.Prelude.{◌*◌, ◌+◌, ◌-◌, ◌≤◌, ℕ, ℤ, drop, length, replicate, List, ◌++◌}
use Rattle.model.specs.Box.{at}
use Rattle.model.specs.Model.{Model, model_of}
use Rattle.model.specs.Rows.{Row, Rows, row_at, rows_of}
use Rattle.little_endian.specs.Bytes.{bytes_of, integer_at, integer_bytes, integers_at, number_at}
use Rattle.little_endian.specs.Pieces.{joined, list_of}
use Rattle.model.specs.Limits.{max_rows, max_variables}

-- "length of the book, 32 bits, 8n + m(4 + 4n) + 16"
unfoldable pub book_length : ℕ → ℕ → ℕ
book_length n m = 8 * n + m * (4 + 4 * n) + 16

-- the place of row i: the rows start at 8n, and each is its right side and n coefficients
unfoldable pub row_place : ℕ → ℕ → ℕ
row_place n i = 8 * n + i * (4 + 4 * n)

-- bytes that the bounds and the rows of n variables and m rows lie within
pub record HoldsModel (n m : ℕ) (bs : List ℕ) : Type 0 where
  pub few : n ≤ max_variables
  pub few_rows : m ≤ max_rows
  pub body : 8 * n + m * (4 + 4 * n) ≤ length bs

-- ---- the bytes of a model

-- "First l and u of each variable, 32 bits each"
unfoldable pub bound_bytes : Model → List ℕ
bound_bytes M = joined (2 * M.n) (λ i. integer_bytes (at M.box i))

-- "then for each row b and n coefficients, 32 bits each"; a first-edition book has no byte for the kind
unfoldable pub row_bytes : ℕ → Row → List ℕ
row_bytes n r = integer_bytes r.rhs ++ joined n (λ j. integer_bytes (at r.coefs j))

-- of row i
abbrev pub row_bytes_at : ℕ → Rows → ℕ → List ℕ
row_bytes_at n A i = row_bytes n (row_at n A i)

-- "offset of the bounds (0), offset of the rows (8n), 32 bits each; n, m, 16 bits each; length of the book, 32 bits"
unfoldable pub trailer_bytes : ℕ → ℕ → ℕ → List ℕ
trailer_bytes n m len = bytes_of 4 0 ++ bytes_of 4 (8 * n) ++ bytes_of 2 n ++ bytes_of 2 m ++ bytes_of 4 len

unfoldable pub encode : Model → List ℕ
encode M = bound_bytes M ++ joined M.m (row_bytes_at M.n M.rows) ++ trailer_bytes M.n M.m (book_length M.n M.m)

-- ---- the model of a book

-- "The trailer, the last 16 bytes", and its five numbers
unfoldable pub trailer_of : List ℕ → List ℕ
trailer_of bs = drop (length bs - 16) bs

abbrev pub bounds_offset : List ℕ → ℕ
bounds_offset t = number_at 4 0 t

abbrev pub rows_offset : List ℕ → ℕ
rows_offset t = number_at 4 4 t

abbrev pub variables : List ℕ → ℕ
variables t = number_at 2 8 t

abbrev pub rows : List ℕ → ℕ
rows t = number_at 2 10 t

abbrev pub length_given : List ℕ → ℕ
length_given t = number_at 4 12 t

-- the numbers of a book whose trailer says n and m
unfoldable pub bounds_of : ℕ → List ℕ → List ℤ
bounds_of n bs = integers_at 0 4 (2 * n) bs

unfoldable pub rhs_of : ℕ → ℕ → List ℕ → List ℤ
rhs_of n m bs = list_of m (λ i. integer_at (row_place n i) bs)

unfoldable pub coefs_of : ℕ → ℕ → List ℕ → List ℤ
coefs_of n m bs = joined m (λ i. integers_at (row_place n i + 4) 4 n bs)

-- "First-edition books have kind 0 throughout." (02, C-14)
unfoldable pub kinds_of : ℕ → List ℕ
kinds_of m = replicate m 0

unfoldable pub model_in : ℕ → ℕ → List ℕ → Model
model_in n m bs = model_of n m (bounds_of n bs) (rows_of (coefs_of n m bs) (rhs_of n m bs) (kinds_of m))

unfoldable pub decode : List ℕ → Model
decode bs = let t = trailer_of bs in model_in (variables t) (rows t) bs
