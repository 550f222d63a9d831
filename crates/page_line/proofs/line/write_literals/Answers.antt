-- `page_line::line::write_literals`: eight literals or spaces, nine spaces, and the line feed.
use Rattle.page_line.proofs.MadeLaws.{as-end, spaces-length}
use Rattle.pages.specs.Page.{literals}
use Rattle.text.proofs.TextLaws.{◌⨾◌}
use native.Mathlib.Omega.{arith}
use Rattle.page_line.proofs.line.write_literals.Goals as goal

pub returns-clause-text : goal.returns-clause-text
unfolding literals
returns-clause-text c =
    let v = c.write_spaces-end.ensures in
    let w = c.write_byte.ensures in
    as-end (omega (arith, v.end, w.end, spaces-length 9)) (c.write_slots-next.ensures.text ⨾ v ⨾ w)
