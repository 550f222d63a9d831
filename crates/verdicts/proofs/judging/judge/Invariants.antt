-- `verdicts::judging::judge`: the invariant says that each proposal is judged by the rows so far (`held-row`).
use Rattle.model.specs.Model.{model_of}
use Rattle.model.specs.Rows.{rows_of}
use Rattle.row_index.specs.Index.{RowSteps}
use Rattle.proposals.specs.Proposals.{proposal}
use Rattle.proposals.specs.Telling.{Tells}
use Rattle.proposals.specs.Verdict.{verdict_by}
use Rattle.verdicts.proofs.judging.judge.Given as goal

abbrev pub invariant-loop-i : goal.invariant-loop-i
invariant-loop-i l =
    RowSteps l.n l.m l.coefs l.across × Tells l.count (λ c. verdict_by l.i (model_of l.n l.m l.bounds (rows_of l.coefs l.rhs l.kinds)) (proposal l.n l.proposals c)) l.verdicts
