-- What the program prints, by its length.
use Rattle.std.specs.Prelude.{ℕ, length, List, ◌⊎◌, ◌≡◌}
use Rattle.report.specs.Report.{refused_line}
use Rattle.reduction.specs.Output.{output_as}
use Rattle.reduction.specs.declared.Form.{Form}

-- as many bytes as the text of some input has were printed; of one that is too long, which is not read to its end, as `refused 2` has
abbrev pub Printed : Form → ℕ → ℕ → Type 0
Printed form limit k = ((bs : List ℕ) × (k ≡ length (output_as form limit bs))) ⊎ (k ≡ length (refused_line 2))
