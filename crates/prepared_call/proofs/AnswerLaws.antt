-- No answer of the prepared propagate call hides another: its reading with the infeasible row is injective.
use Rattle.std.specs.Prelude.{◌≡◌, Result, Ok, Err}
use mathlib.Core.Path.{ap}
use Rattle.model.specs.Refusals.{number_of}
use Rattle.model.specs.declared.refusal.Refusal.{Refusal}
use Rattle.model.proofs.RefusalLaws.{number_of-injective}
use Rattle.prepared_call.specs.PreparedCall.{infeasible_row, prepared_answer}
use Rattle.prepared_call.specs.declared.PreparedPropagation.{PreparedPropagation}
use Rattle.prepared_call.specs.declared.PreparedPropagation.TheVariants.{BudgetSpent, Converged, Infeasible}

pub prepared-answer-injective : (r s : Result PreparedPropagation Refusal) → prepared_answer r ≡ prepared_answer s → infeasible_row r ≡ infeasible_row s → r ≡ s
unfolding prepared_answer infeasible_row
prepared-answer-injective (Err x) (Err y) e f = let same : number_of x ≡ number_of y = cc in ap (λ (r : Refusal). Err r) (number_of-injective x y same)
prepared-answer-injective (Err x) (Ok (Infeasible y k q)) e f = cc
prepared-answer-injective (Err x) (Ok (Converged y k)) e f = cc
prepared-answer-injective (Err x) (Ok (BudgetSpent y k)) e f = cc
prepared-answer-injective (Ok (Infeasible x j p)) (Err y) e f = cc
prepared-answer-injective (Ok (Infeasible x j p)) (Ok (Infeasible y k q)) e f = cc
prepared-answer-injective (Ok (Infeasible x j p)) (Ok (Converged y k)) e f = cc
prepared-answer-injective (Ok (Infeasible x j p)) (Ok (BudgetSpent y k)) e f = cc
prepared-answer-injective (Ok (Converged x j)) (Err y) e f = cc
prepared-answer-injective (Ok (Converged x j)) (Ok (Infeasible y k q)) e f = cc
prepared-answer-injective (Ok (Converged x j)) (Ok (Converged y k)) e f = cc
prepared-answer-injective (Ok (Converged x j)) (Ok (BudgetSpent y k)) e f = cc
prepared-answer-injective (Ok (BudgetSpent x j)) (Err y) e f = cc
prepared-answer-injective (Ok (BudgetSpent x j)) (Ok (Infeasible y k q)) e f = cc
prepared-answer-injective (Ok (BudgetSpent x j)) (Ok (Converged y k)) e f = cc
prepared-answer-injective (Ok (BudgetSpent x j)) (Ok (BudgetSpent y k)) e f = cc
