-- No answer of the rounds hides another: the reading of the code's answer is injective.
use Rattle.std.proofs.Common.{◌≡◌, ℕ, ap, Result, Ok, Err}
use Rattle.model.specs.declared.refusal.Refusal.{Refusal}
use Rattle.model.proofs.RefusalLaws.{number_of-injective}
use Rattle.rounds.specs.Rounds as defined
use Rattle.rounds.specs.Answers.{rounds_answer}
use Rattle.rounds.specs.declared.RoundsMade.{RoundsMade}
use Rattle.rounds.specs.declared.RoundsMade.TheVariants.{Infeasible, NothingChanged, AtLimit}

numbers-same : {x y : ℕ} → defined.refused_rounds x ≡ defined.refused_rounds y → x ≡ y
numbers-same e = cc

pub rounds-answer-injective : (r s : Result RoundsMade Refusal) → rounds_answer r ≡ rounds_answer s → r ≡ s
unfolding rounds_answer
rounds-answer-injective (Err x) (Err y) e = ap (λ (r : Refusal). Err r) (number_of-injective x y (numbers-same e))
rounds-answer-injective (Err x) (Ok (Infeasible y b)) e = cc
rounds-answer-injective (Err x) (Ok (NothingChanged y b)) e = cc
rounds-answer-injective (Err x) (Ok (AtLimit y b)) e = cc
rounds-answer-injective (Ok (Infeasible x a)) (Err y) e = cc
rounds-answer-injective (Ok (Infeasible x a)) (Ok (Infeasible y b)) e = cc
rounds-answer-injective (Ok (Infeasible x a)) (Ok (NothingChanged y b)) e = cc
rounds-answer-injective (Ok (Infeasible x a)) (Ok (AtLimit y b)) e = cc
rounds-answer-injective (Ok (NothingChanged x a)) (Err y) e = cc
rounds-answer-injective (Ok (NothingChanged x a)) (Ok (Infeasible y b)) e = cc
rounds-answer-injective (Ok (NothingChanged x a)) (Ok (NothingChanged y b)) e = cc
rounds-answer-injective (Ok (NothingChanged x a)) (Ok (AtLimit y b)) e = cc
rounds-answer-injective (Ok (AtLimit x a)) (Err y) e = cc
rounds-answer-injective (Ok (AtLimit x a)) (Ok (Infeasible y b)) e = cc
rounds-answer-injective (Ok (AtLimit x a)) (Ok (NothingChanged y b)) e = cc
rounds-answer-injective (Ok (AtLimit x a)) (Ok (AtLimit y b)) e = cc
