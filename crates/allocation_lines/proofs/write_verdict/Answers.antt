-- `allocation_lines::write_verdict`: the first number tells the word (`line-inside`, `line-outside`, `line-breaks`).
use mathlib.Core.Path.{◌∙◌, sym}
use native.Mathlib.Omega.{arith}
use Rattle.text.proofs.TextLaws.{◌⨾◌}
use Rattle.allocation_input.specs.Output.{verdict_line}
use Rattle.allocation_input.proofs.OutputLaws.{line-breaks, line-inside, line-outside, wrote_as}
use Rattle.allocation_lines.proofs.write_verdict.Goals as goal

pub returns-then-case-eq0 : goal.returns-then-case-eq0
unfolding verdict_line
returns-then-case-eq0 c =
    record { text = λ v e k. wrote_as (line-inside v (sym c.if-case-eq0.true ∙ e)) (c.write_text-end.ensures ⨾ c.write_byte.ensures); room = omega arith }

pub returns-then-case-eq1 : goal.returns-then-case-eq1
unfolding verdict_line
returns-then-case-eq1 c =
    record { text = λ v e k. wrote_as (line-outside v _ (sym c.if-case-eq1.true ∙ e) k) c.write_numbered.ensures.text; room = c.write_numbered.ensures.room }

pub returns : goal.returns
unfolding verdict_line
returns c =
    record {
      text = λ v e k. wrote_as (line-breaks v _ (λ z. c.if-case-eq0.false (e ∙ z)) (λ z. c.if-case-eq1.false (e ∙ z)) k) c.write_numbered-2.ensures.text;
      room = c.write_numbered-2.ensures.room;
    }
