-- Cases of the checks of a sparse book: two variables from 0 to 1 and one row, by its bytes.
use Rattle.std.specs.Prelude.{◌+◌, ℕ, length, List, [], ◌++◌, ◌∷◌, ◌≡◌}
use Rattle.little_endian.specs.Bytes.{bytes_of}
use Rattle.book.specs.Book.{trailer_bytes}
use Rattle.sparse_layout.specs.SparseChecks.{sparse_fault}

unfoldable pub book_of : List ℕ → List ℕ
book_of row =
    bytes_of 4 0 ++ bytes_of 4 1 ++ bytes_of 4 0 ++ bytes_of 4 1 ++ row ++ trailer_bytes 2 1 (32 + length row)

-- a row with right side 4, its kind, the count that it says and its entries
unfoldable pub row_of_bytes : ℕ → ℕ → List ℕ → List ℕ
row_of_bytes kind count entries = bytes_of 4 4 ++ bytes_of 1 kind ++ bytes_of 2 count ++ entries

unfoldable pub entry : ℕ → ℕ → List ℕ
entry column value = bytes_of 2 column ++ bytes_of 4 value

unfoldable pub fault_of : ℕ → ℕ → List ℕ → ℕ
fault_of kind count entries = sparse_fault (book_of (row_of_bytes kind count entries))

abbrev pub CasesHold : Type 0
CasesHold =
    ◌≡◌ {A = List ℕ}
    (fault_of 0 2 (entry 0 3 ++ entry 1 2)  -- 3x + 2y ≤ 4
    ∷ fault_of 1 0 []  -- 0 = 4
    ∷ fault_of 0 3 (entry 0 3 ++ entry 1 2)  -- an entry too few
    ∷ fault_of 0 1 (entry 0 3 ++ entry 1 2)  -- an entry too many
    ∷ fault_of 0 3 (entry 9 0 ++ entry 9 0)  -- the walk is finished before any entry is looked at
    ∷ fault_of 0 2 (entry 0 0 ++ entry 9 1)  -- entry 0 zero, entry 1 bad column
    ∷ fault_of 0 1 (entry 2 0)  -- in one entry the column
    ∷ fault_of 0 2 (entry 1 3 ++ entry 0 2)  -- columns that fall
    ∷ fault_of 0 2 (entry 1 3 ++ entry 1 2)  -- a column twice
    ∷ fault_of 2 1 (entry 1 0)  -- 20 before 16
    ∷ fault_of 2 1 (entry 1 1_000_001)  -- 8 before 16
    ∷ fault_of 2 1 (entry 1 1)  -- a kind of 2
    ∷ [])
    (0 ∷ 0 ∷ 4 ∷ 4 ∷ 4 ∷ 20 ∷ 19 ∷ 19 ∷ 19 ∷ 20 ∷ 8 ∷ 16 ∷ [])
