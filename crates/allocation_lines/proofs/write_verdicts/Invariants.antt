-- `allocation_lines::write_verdicts`: after c lines the text is that of c verdicts, and no line is longer than 21 bytes.
use Rattle.std.proofs.Common.{◌≡◌, ◌*◌, ◌≤◌, ℕ, length}
use Rattle.proposals.specs.Proposals.{numbers}
use Rattle.proposals.specs.Verdict.{Verdict}
use Rattle.text.specs.Text.{Wrote, texts}
use Rattle.allocation_input.specs.Output.{verdict_line}
use Rattle.allocation_lines.proofs.write_verdicts.Given as goal

abbrev pub invariant-loop-c : goal.invariant-loop-c
invariant-loop-c l = record {
  short : l.end ≤ l.c * 21;
  room : length l.buf ≡ length l.initial.buf;
  text : (f : ℕ → Verdict) → l.verdicts ≡ numbers l.count f → Wrote l.initial.buf 0 (texts l.c (λ i. verdict_line (f i))) l.end l.buf;
}
