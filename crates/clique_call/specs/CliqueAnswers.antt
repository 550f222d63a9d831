-- What the code's answer and the lent list stand for.
use Rattle.std.specs.Prelude.{ℕ, ℤ, List, Result, Ok, Err}
use Rattle.model.specs.declared.refusal.Refusal.{Refusal}
use Rattle.model.specs.Refusals.{number_of}
use Rattle.cliques.specs.CliqueCall.{CliqueAnswer, CliquesPerformed, refused, written}
use Rattle.cliques.specs.Cliques.{CliqueRows}

-- so many rows in a list
abbrev pub list_of : ℕ → List ℤ → List ℤ → CliqueRows
list_of number C R = record { number = number; coefs = C; rhs = R }

-- it is injective (`clique-answers-injective`)
unfoldable pub cliques_answer : Result ℕ Refusal → CliqueAnswer
cliques_answer (Err r) = refused (number_of r)
cliques_answer (Ok number) = written number

unfoldable pub performed_cliques : Result ℕ Refusal → List ℤ → List ℤ → CliquesPerformed
performed_cliques a C R = record { answer = cliques_answer a; coefs = C; rhs = R }
