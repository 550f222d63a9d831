-- `report_line::write_reduced` writes reduced_line piece by piece (`◌⨾◌`).
use Rattle.report.specs.Report.{reduced_line}
use Rattle.text.proofs.TextLaws.{◌⨾◌}
use Rattle.report_line.proofs.write_reduced.Goals as goal

pub returns-clause-text : goal.returns-clause-text
unfolding reduced_line
returns-clause-text c =
    c.write_text-word.ensures ⨾ c.write_natural-variables.ensures.text ⨾ c.write_natural-rows.ensures.text ⨾ c.write_long-end.ensures.text ⨾ c.write_byte.ensures
