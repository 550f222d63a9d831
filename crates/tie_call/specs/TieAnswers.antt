-- The tie call's answer behind what the code returns.
use Rattle.std.specs.Prelude.{Result, Ok, Err}
use Rattle.model.specs.declared.refusal.Refusal.{Refusal}
use Rattle.model.specs.Refusals.{number_of}
use Rattle.ties.specs.TieCall.{TiePerformed, refused, same, tied}
use Rattle.ties.specs.TieCall as answers
use Rattle.ties.specs.Ties.{TiedState}
use Rattle.tie_call.specs.declared.TieMade.{TieMade}
use Rattle.tie_call.specs.declared.TieMade.TheVariants as ties

-- refused N, Tied, Same
unfoldable pub tie_answer : Result TieMade Refusal → answers.TieAnswer
tie_answer (Err r) = refused (number_of r)
tie_answer (Ok ties.Tied) = tied
tie_answer (Ok ties.Unchanged) = same

unfoldable pub performed_tie : Result TieMade Refusal → TiedState → TiePerformed
performed_tie a s = record { answer = tie_answer a; state = s }
