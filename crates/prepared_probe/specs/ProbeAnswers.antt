-- The answer of a prepared probe in the semantics, and of each side the row that was infeasible.
use Rattle.std.specs.Prelude.{ℕ, Result, Ok, Err}
use Rattle.model.specs.Refusals.{number_of}
use Rattle.model.specs.declared.refusal.Refusal.{Refusal}
use Rattle.prepared_model.specs.Reasons.{no_row}
use Rattle.prepared_sides.specs.declared.ProbedSides.{ProbedSides}
use Rattle.reducer.specs.OpenCalls.{probing_answer}
use Rattle.semantics.specs.Perform.{Answer, refused}

-- refused N, or what any probe answers that comes to this
abbrev pub prepared_probe_answer : Result ProbedSides Refusal → Answer
prepared_probe_answer (Err r) = refused (number_of r)
prepared_probe_answer (Ok p) = probing_answer p.probing

-- the row at which side 0, and side 1, was infeasible
abbrev pub row0_of : Result ProbedSides Refusal → ℕ
row0_of (Err r) = no_row
row0_of (Ok p) = p.row0

abbrev pub row1_of : Result ProbedSides Refusal → ℕ
row1_of (Err r) = no_row
row1_of (Ok p) = p.row1
