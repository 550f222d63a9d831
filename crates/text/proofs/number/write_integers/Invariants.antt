-- After x-index numbers the text is that of as many fields, and no field is longer than 12 bytes.
use Prim.Native.Nat.{◌*◌, ◌+◌, ◌≤◌}
use Rattle.model.specs.Box.{at}
use Rattle.text.specs.Fields.{field}
use Rattle.text.specs.Text.{Wrote, texts}
use Rattle.text.proofs.number.write_integers.Given as goal

abbrev pub invariant-loop-x : goal.invariant-loop-x
invariant-loop-x l =
    (l.end ≤ l.at + 12 * l.x-index) × Wrote l.initial.buf l.at (texts l.x-index (λ i. field (at l.xs i))) l.end l.buf
