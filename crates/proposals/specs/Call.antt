-- The call: its checks, and what it leaves.
use Rattle.std.specs.Prelude.{◌*◌, ℕ, eqb, leb, ℤ, length, ◌&&◌, cond, List, ◌++◌, ◌∷◌}
use Rattle.model.specs.Checks.{Check, first, length_checks, must, number_checks, size_checks}
use Rattle.model.specs.Model.{Model}
use Rattle.proposals.specs.Proposals.{max_proposals, numbers, proposal}
use Rattle.proposals.specs.Verdict.{verdict}

-- Of count proposals P against M, with Y lent for the verdicts. "New numbers: 22, a count not 1 to 64, straight before check 5; buffer
-- lengths fall under check 5." The numbers of a proposal are any.
unfoldable pub allocation_checks : Model → List ℤ → ℕ → List ℕ → List Check
allocation_checks M P count Y =
    size_checks M.n M.m
    ++ (must (leb 1 count && leb count max_proposals) 22
    ∷ (length_checks M
    ++ (must (eqb (length P) (count * M.n) && eqb (length Y) (2 * count)) 5
    ∷ number_checks M.n M.box M.rows)))

unfoldable pub allocation_fault : Model → List ℤ → ℕ → List ℕ → ℕ
allocation_fault M P count Y = first (allocation_checks M P count Y)

-- "The answer gives for each proposal .. It equals what each proposal alone would get."; what is lent stays where a check fails
unfoldable pub verdicts_left : Model → List ℤ → ℕ → List ℕ → List ℕ
verdicts_left M P count Y =
    cond (eqb (allocation_fault M P count Y) 0) (numbers count (λ c. verdict M (proposal M.n P c))) Y
