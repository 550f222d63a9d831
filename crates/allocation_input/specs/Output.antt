-- What `allocations` prints for an input, as bytes: a line for each proposal, or `refused N`. Bytes are ASCII: 10 ends a line, and the
-- word stands beside its line.
use Rattle.std.specs.Prelude.{ℕ, eqb, pos, cond, List, [], ◌++◌, ◌∷◌}
use Rattle.report.specs.Report.{newline, refused_line}
use Rattle.text.specs.Fields.{field}
use Rattle.text.specs.Text.{texts}
use Rattle.proposals.specs.Proposals.{proposal}
use Rattle.proposals.specs.Verdict.{Verdict, breaks, inside, outside_at, verdict}
use Rattle.allocation_input.specs.Input.{book_end, count_at, input_fault, model_of_input, proposals_at}

-- inside; variable J; row I
unfoldable pub verdict_line : Verdict → List ℕ
verdict_line inside = (105 ∷ 110 ∷ 115 ∷ 105 ∷ 100 ∷ 101 ∷ []) ++ newline
verdict_line (outside_at j) = (118 ∷ 97 ∷ 114 ∷ 105 ∷ 97 ∷ 98 ∷ 108 ∷ 101 ∷ []) ++ field (pos j) ++ newline
verdict_line (breaks i) = (114 ∷ 111 ∷ 119 ∷ []) ++ field (pos i) ++ newline

-- no line is longer
abbrev pub max_verdict_line : ℕ
max_verdict_line = 21

abbrev pub input_count : List ℕ → ℕ
input_count bs = count_at (book_end bs) bs

-- what proposal c of the input gets, alone
unfoldable pub input_verdict : List ℕ → ℕ → Verdict
input_verdict bs c =
    let M = model_of_input bs in
    verdict M (proposal M.n (proposals_at M.n (input_count bs) (book_end bs) bs) c)

unfoldable pub output : List ℕ → List ℕ
output bs = cond (eqb (input_fault bs) 0) (texts (input_count bs) (λ c. verdict_line (input_verdict bs c))) (refused_line (input_fault bs))
