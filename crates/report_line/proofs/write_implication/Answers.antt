-- `report_line::write_implication` writes implication_line piece by piece (`◌⨾◌`).
use Rattle.report.specs.Report.{implication_line}
use Rattle.text.proofs.TextLaws.{◌⨾◌}
use Rattle.report_line.proofs.write_implication.Goals as goal

pub returns-clause-text : goal.returns-clause-text
unfolding implication_line
returns-clause-text c =
    c.write_byte-letter.ensures ⨾ c.write_natural-first.ensures.text ⨾ c.write_natural-value.ensures.text ⨾ c.write_natural-second.ensures.text ⨾ c.write_natural-end.ensures.text ⨾ c.write_byte.ensures
