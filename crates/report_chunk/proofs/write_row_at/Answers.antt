-- `report_chunk::write_row_at`: what is lent is row r (`coefficients`), and the test is the definition's.
use borrow.Author.Rules.{rules}
use lib.ListN.{length}
use mathlib.Core.List.{[]}
use mathlib.Core.Path.{◌∙◌, ◌≡◌, ap, sym}
use mir.Facts.{to_z-of_z}
use mir.Syntax.{w32}
use mir.Val.{SFits}
use native.Mathlib.Omega.{arith}
use Rattle.model.specs.Box.{at}
use Rattle.model.specs.Rows.{row_at, rows_of}
use Rattle.matrix.proofs.PartLaws.{part_length}
use Rattle.report.specs.Report.{is_zero_row, row_text}
use Rattle.text.proofs.TextLaws.{wrote_none}
use Rattle.report_chunk.proofs.write_row_at.Goals as goal

pub returns-then-is_zero_row : goal.returns-then-is_zero_row
unfolding row_text
returns-then-is_zero_row c =
    let fits : SFits w32 (at c.args.rhs.now c.args.r) = search rules in
    let tested : is_zero_row (row_at c.args.n (rows_of c.args.coefs.now c.args.rhs.now []) c.args.r) ≡ c.is_zero_row.result =
    sym (simp (to_z-of_z, fits, c.coefficients-row.ensures) at c.is_zero_row.ensures) in
    rw (tested ∙ c.if-is_zero_row.true) (wrote_none _ _ (omega arith))

pub write_row-requires : goal.write_row-requires
write_row-requires c =
    let e = ap length c.coefficients-row.ensures ∙ part_length c.args.r c.args.n c.args.coefs.now (omega (arith, c.requires)) in
    omega (arith, e, c.requires)

pub returns : goal.returns
unfolding row_text
returns c =
    let fits : SFits w32 (at c.args.rhs.now c.args.r) = search rules in
    let tested : is_zero_row (row_at c.args.n (rows_of c.args.coefs.now c.args.rhs.now []) c.args.r) ≡ c.is_zero_row.result =
    sym (simp (to_z-of_z, fits, c.coefficients-row.ensures) at c.is_zero_row.ensures) in
    let w = c.write_row.ensures.text in
    rw (tested ∙ c.if-is_zero_row.false) (simp (to_z-of_z, fits, c.coefficients-row.ensures) at w)
