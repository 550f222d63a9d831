-- Where the error is a refusal, the reply is what the definitions say of the answer: `numbered-named`, answer by answer.
use Rattle.std.proofs.Common.{◌≡◌, refl}
use Rattle.std.specs.Prelude.{Result}
use Rattle.model.specs.declared.refusal.Refusal.{Refusal}
use Rattle.model.specs.Refusals.{number_of}
use Rattle.plan.specs.Answers.{lengths_answer, passes_answer, width_answer}
use Rattle.plan.specs.declared.BoxBudget.{BoxBudget}
use Rattle.plan.specs.declared.BufferLengths.{BufferLengths}
use Rattle.plan.specs.declared.PassLimit.{PassLimit}
use Rattle.replies.specs.Replies.{numbered_reply, plan_reply}
use Rattle.replies.proofs.NamedLaws.{numbered-named}

pub lengths-named : (r : Result BufferLengths Refusal) → numbered_reply number_of (λ a. plan_reply (lengths_answer a)) r ≡ plan_reply (lengths_answer r)
unfolding plan_reply lengths_answer
lengths-named = numbered-named (λ a. plan_reply (lengths_answer a)) (λ z. refl)

pub width-named : (r : Result BoxBudget Refusal) → numbered_reply number_of (λ a. plan_reply (width_answer a)) r ≡ plan_reply (width_answer r)
unfolding plan_reply width_answer
width-named = numbered-named (λ a. plan_reply (width_answer a)) (λ z. refl)

pub passes-named : (r : Result PassLimit Refusal) → numbered_reply number_of (λ a. plan_reply (passes_answer a)) r ≡ plan_reply (passes_answer r)
unfolding plan_reply passes_answer
passes-named = numbered-named (λ a. plan_reply (passes_answer a)) (λ z. refl)
