-- What the answers that the code returns stand for in the definitions. The reading is injective (`rounds-answer-injective`).
use Rattle.std.specs.Prelude.{Result, Ok, Err}
use Rattle.model.specs.declared.refusal.Refusal.{Refusal}
use Rattle.model.specs.Refusals.{number_of}
use Rattle.rounds.specs.Rounds as defined
use Rattle.rounds.specs.declared.RoundsMade.{RoundsMade}
use Rattle.rounds.specs.declared.RoundsMade.TheVariants.{Infeasible, NothingChanged, AtLimit}

-- refused N; None, nothing changed, at the limit, each with the number of rounds made and whether a side was Spent in the last of them
unfoldable pub rounds_answer : Result RoundsMade Refusal → defined.RoundsAnswer
rounds_answer (Err refusal) = defined.refused_rounds (number_of refusal)
rounds_answer (Ok (Infeasible rounds spent)) = defined.ended defined.infeasible rounds spent
rounds_answer (Ok (NothingChanged rounds spent)) = defined.ended defined.nothing_changed rounds spent
rounds_answer (Ok (AtLimit rounds spent)) = defined.ended defined.at_limit rounds spent
