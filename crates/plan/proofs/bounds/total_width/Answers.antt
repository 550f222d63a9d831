-- `plan::bounds::total_width`: 0 where the first variable shows that the box is empty, and else the sum.
use mathlib.Core.Path.{◌∙◌, ◌≡◌, sym}
use native.Mathlib.Omega.{arith}
use Rattle.integer.proofs.Parts.{zarith}
use Rattle.integer.proofs.Tests.{false→T}
use Rattle.model.specs.Box.{NonEmpty, is_empty}
use Rattle.row.proofs.ImpliedBoxLaws.{valid-non_empty}
use Rattle.demands.specs.Passes.{total_width}
use Rattle.demands.proofs.Passes.{total-width-is, total-width-limit}
use Rattle.plan.proofs.bounds.total_width.Goals.{Else-is_empty}
use Rattle.plan.proofs.bounds.total_width.Goals as goal

pub returns-then-is_empty : goal.returns-then-is_empty
unfolding total_width
returns-then-is_empty c =
    let e = sym (c.is_empty.ensures c.args.n c.requires.0 c.requires.2) ∙ c.if-is_empty.true in
    (rw e, omega arith)

-- else the box is not empty
filled : (c : Else-is_empty) → NonEmpty c.args.n c.args.bounds.now
filled c =
    let e = sym (c.is_empty.ensures c.args.n c.requires.0 c.requires.2) ∙ c.if-is_empty.false in
    valid-non_empty c.requires.2 (false→T (is_empty c.args.n c.args.bounds.now) e)

pub sum_of_spans-requires : goal.sum_of_spans-requires
sum_of_spans-requires c = (c.requires.1, c.requires.2, filled (goal.at.sum_of_spans-requires c).Else-is_empty)

pub returns : goal.returns
returns c =
    let e = total-width-is c.requires.0 (filled (goal.at.returns c).Else-is_empty) in
    let r : c.sum_of_spans.result ≡ total_width c.args.n c.args.bounds.now = let q = c.sum_of_spans.ensures in omega zarith in
    (r, omega (arith, total-width-limit c.requires.0 c.requires.1 c.requires.2))
