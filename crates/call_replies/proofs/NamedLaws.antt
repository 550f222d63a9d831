-- Where the error is a refusal, the reply is what the definitions say of the answer: `numbered-named`, answer by answer. Assumes nothing.
use mathlib.Core.Path.{◌≡◌, refl}
use Rattle.std.specs.Prelude.{Result}
use Rattle.book.specs.Answers.{sizes_answer}
use Rattle.book.specs.declared.layout.Sizes.{Sizes}
use Rattle.call.specs.declared.Counts.{Counts}
use Rattle.flat_list.specs.ListAnswers.{list_answer}
use Rattle.model.specs.declared.refusal.Refusal.{Refusal}
use Rattle.model.specs.Refusals.{number_of}
use Rattle.propagation.specs.declared.Propagation.{Propagation}
use Rattle.reducer.specs.OpenCalls.{probe_answer, propagate_answer, remove_answer, rest_verdict, row_answer, tighten_answer}
use Rattle.replies.specs.Replies.{book_reply, call_reply, list_reply, numbered_reply, rest_reply, rounds_reply}
use Rattle.replies.proofs.NamedLaws.{numbered-named}
use Rattle.rest.specs.declared.Rest.{Rest}
use Rattle.rounds.specs.Answers.{rounds_answer}
use Rattle.rounds.specs.declared.RoundsMade.{RoundsMade}
use Rattle.row.specs.declared.propagation.RowPropagation.{RowPropagation}
use Rattle.row.specs.declared.redundancy.RowRemoval.{RowRemoval}
use Rattle.row.specs.declared.tightening.CoefficientTightening.{CoefficientTightening}
use Rattle.two_sides.specs.declared.Probing.{Probing}

pub row-named : (r : Result RowPropagation Refusal) → numbered_reply number_of (λ a. call_reply (row_answer a)) r ≡ call_reply (row_answer r)
unfolding call_reply row_answer
row-named = numbered-named (λ a. call_reply (row_answer a)) (λ z. refl)

pub propagate-named : (r : Result Propagation Refusal) → numbered_reply number_of (λ a. call_reply (propagate_answer a)) r ≡ call_reply (propagate_answer r)
unfolding call_reply propagate_answer
propagate-named = numbered-named (λ a. call_reply (propagate_answer a)) (λ z. refl)

pub probe-named : (r : Result Probing Refusal) → numbered_reply number_of (λ a. call_reply (probe_answer a)) r ≡ call_reply (probe_answer r)
unfolding call_reply probe_answer
probe-named = numbered-named (λ a. call_reply (probe_answer a)) (λ z. refl)

pub tighten-named : (r : Result CoefficientTightening Refusal) → numbered_reply number_of (λ a. call_reply (tighten_answer a)) r ≡ call_reply (tighten_answer r)
unfolding call_reply tighten_answer
tighten-named = numbered-named (λ a. call_reply (tighten_answer a)) (λ z. refl)

pub remove-named : (r : Result RowRemoval Refusal) → numbered_reply number_of (λ a. call_reply (remove_answer a)) r ≡ call_reply (remove_answer r)
unfolding call_reply remove_answer
remove-named = numbered-named (λ a. call_reply (remove_answer a)) (λ z. refl)

pub rest-named : (r : Result Rest Refusal) → numbered_reply number_of (λ a. rest_reply (rest_verdict a)) r ≡ rest_reply (rest_verdict r)
unfolding rest_reply rest_verdict
rest-named = numbered-named (λ a. rest_reply (rest_verdict a)) (λ z. refl)

pub run-named : (r : Result Counts Refusal) → numbered_reply number_of (λ a. list_reply (list_answer a)) r ≡ list_reply (list_answer r)
unfolding list_reply list_answer
run-named = numbered-named (λ a. list_reply (list_answer a)) (λ z. refl)

pub rounds-named : (r : Result RoundsMade Refusal) → numbered_reply number_of (λ a. rounds_reply (rounds_answer a)) r ≡ rounds_reply (rounds_answer r)
unfolding rounds_reply rounds_answer
rounds-named = numbered-named (λ a. rounds_reply (rounds_answer a)) (λ z. refl)

pub sizes-named : (r : Result Sizes Refusal) → numbered_reply number_of (λ a. book_reply (sizes_answer a)) r ≡ book_reply (sizes_answer r)
unfolding book_reply sizes_answer
sizes-named = numbered-named (λ a. book_reply (sizes_answer a)) (λ z. refl)
