-- What is no longer than the buffer is held whole, and the lines of its answer are those of `output`.
use Rattle.std.proofs.Common.{◌≤◌, ◌∙◌, ap, length, take, arith}
use Rattle.std.proofs.lemmas.Result.{IfOk-equal}
use Rattle.allocation_input.specs.Output.{input_verdict, output}
use Rattle.allocation_input.proofs.InputLaws.{held_whole}
use Rattle.allocation_input.proofs.OutputLaws.{output-refused, output-told}
use Rattle.allocations.proofs.answer.Goals as goal

pub returns-in-Err : goal.returns-in-Err
returns-in-Err g c = λ bs h.
    let a = c.args in
    let r = c.in-Err.ensures in
    let within : a.len ≤ length a.start.now = omega (arith, c.requires.max_input_value.0) in
    IfOk-equal c.refused-in-Err.result _ _ _ (rw c.number-in-Err.ensures at c.refused-in-Err.ensures)
    (ap length (output-refused (take a.len a.start.now) r.0 r.1 ∙ ap output (held_whole h within)))

pub returns-in-Ok : goal.returns-in-Ok
returns-in-Ok g c = λ bs h.
    let a = c.args in
    let input = take a.len a.start.now in
    let j = c.in-Ok.ensures in
    let within : a.len ≤ length a.start.now = omega (arith, c.requires.max_input_value.0) in
    IfOk-equal c.print_verdicts.result _ _ _ (c.print_verdicts.ensures (input_verdict input) j.told)
    (ap length (output-told input j ∙ ap output (held_whole h within)))
