-- `report_line::write_row` writes row_line piece by piece (`◌⨾◌`).
use mir.Facts.{to_z-of_z}
use Rattle.report.specs.Report.{row_line}
use Rattle.text.proofs.TextLaws.{◌⨾◌}
use Rattle.report_line.proofs.write_row.Goals as goal

pub returns-clause-text : goal.returns-clause-text
unfolding row_line
returns-clause-text c =
    let fb = c.ranges.b in
    c.write_byte-letter.ensures ⨾ c.write_natural-row.ensures.text ⨾ (simp to_z-of_z at c.write_integer-rhs.ensures.text) ⨾ c.write_integers-end.ensures.text ⨾ c.write_byte.ensures
