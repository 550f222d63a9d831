-- One number that is not 0 decides (`zero_row`).
use Rattle.std.proofs.Common.{◌≡◌, ap, sym, ◌∙◌, pos, rules, arith, below_more}
use mir.Facts.{to_z-of_z}
use mir.Syntax.{w32}
use mir.Val.{of_z, to_z, SFits}
use Rattle.integer.proofs.Tests.{test-false, test-true}
use Rattle.model.specs.Box.{at}
use Rattle.model.specs.Rows.{row_with}
use Rattle.report.proofs.ReportLaws.{zero_row}
use Rattle.report.proofs.is_zero_row.Goals as goal

pub returns-then-b-ne0 : goal.returns-then-b-ne0
returns-then-b-ne0 c =
    let a = c.args in
    sym (test-false _ (zero_row (row_with a.coefs.now a.b 0)) (λ h. c.if-b-ne0.true (ap (of_z w32) h.0)))

pub returns-then-coef-ne0 : goal.returns-then-coef-ne0
returns-then-coef-ne0 c =
    let a = c.args in
    let j = c.loop-coef.coef-index in
    sym (test-false _ (zero_row (row_with a.coefs.now a.b 0)) (λ h. c.if-coef-ne0.true (ap (of_z w32) (h.1 j (omega arith)))))

pub loop-coef-preserved : goal.loop-coef-preserved
loop-coef-preserved c =
    let f : SFits w32 (at c.args.coefs.now c.loop-coef.coef-index) = search rules in
    below_more _ _ c.loop-coef.invariant (sym (to_z-of_z f) ∙ ap (to_z w32) c.if-coef-ne0.false)

pub returns : goal.returns
returns c =
    let b : c.args.b ≡ pos 0 = sym (to_z-of_z c.ranges.b) ∙ ap (to_z w32) c.if-b-ne0.false in
    sym (test-true _ (zero_row (row_with c.args.coefs.now c.args.b 0)) (b, λ j h. c.loop-coef.invariant j (omega arith)))
