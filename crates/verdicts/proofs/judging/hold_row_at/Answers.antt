-- `verdicts::judging::hold_row_at`: what is lent is the row and its steps.
use lib.IntN.{ℤ}
use lib.ListN.{get_or}
use mathlib.Core.List.{List}
use mathlib.Core.Path.{ap₂}
use mir.Facts.{to_z-of_z}
use mir.Syntax.{w32}
use Rattle.model.specs.Rows.{row_with}
use Rattle.proposals.specs.Proposals.{proposal}
use Rattle.proposals.specs.Telling.{held}
use Rattle.proposals.specs.Verdict.{meets}
use Rattle.proposals.proofs.TellingLaws.{tells_as}
use borrow.Author.Rules.{rules}
use mir.Val.{SFits}
use Rattle.model.specs.Box.{at}
use Rattle.verdicts.proofs.judging.hold_row_at.Goals as goal

pub returns : goal.returns
returns c f t =
    let fits : SFits w32 (at c.args.rhs.now c.args.i) = search rules in
    tells_as (λ k. ap₂ (λ (A : List ℤ) (z : ℤ). held c.args.i (meets c.args.n (row_with A z (get_or c.args.kinds.now c.args.i 0)) (proposal c.args.n c.args.proposals.now k)) (f k))
    c.coefficients.ensures (to_z-of_z fits)) (c.hold_row.ensures f t)
