-- `report_line::write_refused` writes refused_line piece by piece (`◌⨾◌`).
use Rattle.report.specs.Report.{refused_line}
use Rattle.text.proofs.TextLaws.{◌⨾◌}
use Rattle.report_line.proofs.write_refused.Goals as goal

pub returns-clause-text : goal.returns-clause-text
unfolding refused_line
returns-clause-text c = c.write_text-word.ensures ⨾ c.write_natural-end.ensures.text ⨾ c.write_byte.ensures
