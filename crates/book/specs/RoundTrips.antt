-- The round trips between models and books, as statements (`RoundTripLaws` has the proofs).
use Rattle.std.specs.Prelude.{◌<◌, ℕ, T, not, List, ◌≡◌}
use Rattle.model.specs.Model.{Model}
use Rattle.model.specs.Rows.{is_equality, row_at}
use Rattle.model.specs.Valid.{ValidModel}
use Rattle.book.specs.Book.{decode, encode}
use Rattle.book.specs.BookChecks.{book_fault}
use Rattle.little_endian.specs.Bytes.{Bytes}

-- a book that the checks accept
pub record Accepted (bs : List ℕ) : Type 0 where
  pub bytes : Bytes bs
  pub faultless : book_fault bs ≡ 0

-- a model that is written: a valid one without an = row, for which a first-edition book has no byte
pub record FirstEdition (M : Model) : Type 0 where
  pub valid : ValidModel M
  pub inequality : (i : ℕ) → i < M.m → T (not (is_equality (row_at M.n M.rows i)))

-- Reading a written book returns the same model, its kinds too.
abbrev pub ReadsWritten : Type 0
ReadsWritten = (M : Model) → FirstEdition M → Accepted (encode M) × (decode (encode M) ≡ M)

-- Writing an accepted book's model returns the same bytes.
abbrev pub WritesRead : Type 0
WritesRead = (bs : List ℕ) → Accepted bs → FirstEdition (decode bs) × (encode (decode bs) ≡ bs)

-- No two models have one book.
abbrev pub OneModel : Type 0
OneModel = (M N : Model) → FirstEdition M → FirstEdition N → encode M ≡ encode N → M ≡ N

-- No two books have one model.
abbrev pub OneBook : Type 0
OneBook = (bs cs : List ℕ) → Accepted bs → Accepted cs → decode bs ≡ decode cs → bs ≡ cs
