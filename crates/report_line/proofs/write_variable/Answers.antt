-- `report_line::write_variable` writes variable_line piece by piece (`◌⨾◌`).
use mir.Facts.{to_z-of_z}
use Rattle.report.specs.Report.{variable_line}
use Rattle.text.proofs.TextLaws.{◌⨾◌}
use Rattle.report_line.proofs.write_variable.Goals as goal

pub returns-clause-text : goal.returns-clause-text
unfolding variable_line
returns-clause-text c =
    let fl = c.ranges.l in
    let fu = c.ranges.u in
    c.write_byte-letter.ensures ⨾ c.write_natural-variable.ensures.text ⨾ (simp to_z-of_z at c.write_integer-lower.ensures.text) ⨾ (simp to_z-of_z at c.write_integer-end.ensures.text) ⨾ c.write_byte.ensures
