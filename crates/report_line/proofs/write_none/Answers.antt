-- `report_line::write_none` writes none_line piece by piece (`◌⨾◌`).
use Rattle.report.specs.Report.{none_line}
use Rattle.text.proofs.TextLaws.{◌⨾◌}
use Rattle.report_line.proofs.write_none.Goals as goal

pub returns-clause-text : goal.returns-clause-text
unfolding none_line
returns-clause-text c =
    c.write_text-end.ensures ⨾ c.write_byte.ensures
