-- `allocation_lines::write_numbered` writes its line piece by piece (`◌⨾◌`).
use native.Mathlib.Omega.{arith}
use Rattle.text.proofs.TextLaws.{◌⨾◌}
use Rattle.allocation_lines.proofs.write_numbered.Goals as goal

pub returns : goal.returns
returns c =
    record { text = c.write_text-start.ensures ⨾ c.write_natural-end.ensures.text ⨾ c.write_byte.ensures; room = omega arith }
