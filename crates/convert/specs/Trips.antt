-- What is converted comes back, as statements (`TripLaws` has the proofs).
use Rattle.std.specs.Prelude.{ℕ, false, List, ◌≡◌}
use Rattle.book.specs.Book.{decode}
use Rattle.book.specs.RoundTrips.{Accepted, FirstEdition}
use Rattle.sparse_layout.specs.SparseBook.{decode_sparse}
use Rattle.sparse_layout.specs.SparseTrips.{SparseAccepted, to_first}
use Rattle.convert.specs.Output.{is_sparse, output}

-- "An accepted first-edition book comes back byte for byte": every one that is not an accepted sparse book too (D-53)
abbrev pub FirstComesBack : Type 0
FirstComesBack = (bs : List ℕ) → Accepted bs → is_sparse bs ≡ false → output (output bs) ≡ bs

-- ", and so does an accepted sparse one whose rows are all ≤", unless its first edition is an accepted sparse book too
abbrev pub SparseComesBack : Type 0
SparseComesBack =
    (bs : List ℕ) → SparseAccepted bs → FirstEdition (decode_sparse bs) → is_sparse (to_first bs) ≡ false → output (output bs) ≡ bs

-- with no rows the editions are the same bytes, and what is written is what was read
abbrev pub NoRowsStay : Type 0
NoRowsStay = (bs : List ℕ) → Accepted bs → (decode bs).m ≡ 0 → output bs ≡ bs
