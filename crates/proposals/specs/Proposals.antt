-- "up to 64 proposed allocations against a book, each n signed numbers of 32 bits" (02, C-21), and the numbers that tell their verdicts.
use Rattle.std.specs.Prelude.{suc, zero, ℕ, ℤ, List, [], ◌∷◌}
use Rattle.model.specs.Rows.{row_of}
use Rattle.proposals.specs.Verdict.{Verdict, breaks, inside, outside_at}

abbrev pub max_proposals : ℕ
max_proposals = 64

-- the numbers of proposal c: they stand one proposal after the other, as rows do in a matrix
abbrev pub proposal : ℕ → List ℤ → ℕ → List ℤ
proposal n P c = row_of n P c

-- a verdict in two numbers: 0 0 inside, 1 j outside the box at variable j, 2 i breaks row i
unfoldable pub case_of : Verdict → ℕ
case_of inside = 0
case_of (outside_at j) = 1
case_of (breaks i) = 2

unfoldable pub number_of : Verdict → ℕ
number_of inside = 0
number_of (outside_at j) = j
number_of (breaks i) = i

-- those of the verdicts f 0, f 1, .., f (k − 1)
unfoldable pub numbers : ℕ → (ℕ → Verdict) → List ℕ
numbers zero f = []
numbers (suc k) f = case_of (f 0) ∷ number_of (f 0) ∷ numbers k (λ c. f (suc c))
