-- The round trips of the sparse book and between the two editions, as statements (`SparseTripLaws` has the proofs).
use Rattle.std.specs.Prelude.{ℕ, List, ◌≡◌}
use Rattle.model.specs.Model.{Model}
use Rattle.model.specs.Valid.{ValidModel}
use Rattle.little_endian.specs.Bytes.{Bytes}
use Rattle.book.specs.Book.{decode, encode}
use Rattle.book.specs.RoundTrips.{Accepted, FirstEdition}
use Rattle.sparse_layout.specs.SparseBook.{decode_sparse, encode_sparse}
use Rattle.sparse_layout.specs.SparseChecks.{sparse_fault}

-- a sparse book that the checks accept
pub record SparseAccepted (bs : List ℕ) : Type 0 where
  pub bytes : Bytes bs
  pub faultless : sparse_fault bs ≡ 0

-- Reading a written sparse book returns the same model, its kinds too.
abbrev pub SparseReadsWritten : Type 0
SparseReadsWritten = (M : Model) → ValidModel M → SparseAccepted (encode_sparse M) × (decode_sparse (encode_sparse M) ≡ M)

-- Writing an accepted sparse book's model returns the same bytes.
abbrev pub SparseWritesRead : Type 0
SparseWritesRead = (bs : List ℕ) → SparseAccepted bs → ValidModel (decode_sparse bs) × (encode_sparse (decode_sparse bs) ≡ bs)

-- "Converting goes both ways": the book of the same model
unfoldable pub to_sparse : List ℕ → List ℕ
to_sparse bs = encode_sparse (decode bs)

unfoldable pub to_first : List ℕ → List ℕ
to_first bs = encode (decode_sparse bs)

-- "An accepted first-edition book comes back byte for byte"
abbrev pub FirstSparseFirst : Type 0
FirstSparseFirst = (bs : List ℕ) → Accepted bs → SparseAccepted (to_sparse bs) × (to_first (to_sparse bs) ≡ bs)

-- ", and so does an accepted sparse one whose rows are all ≤."
abbrev pub SparseFirstSparse : Type 0
SparseFirstSparse =
    (bs : List ℕ) → SparseAccepted bs → FirstEdition (decode_sparse bs) → Accepted (to_first bs) × (to_sparse (to_first bs) ≡ bs)
