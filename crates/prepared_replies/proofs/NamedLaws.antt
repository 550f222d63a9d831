-- Where the error is a refusal, the reply is what the definitions say of the answer: `numbered-named`, answer by answer. Assumes nothing.
use mathlib.Core.Path.{◌≡◌, refl}
use Rattle.std.specs.Prelude.{Result}
use Rattle.model.specs.declared.refusal.Refusal.{Refusal}
use Rattle.model.specs.Refusals.{number_of}
use Rattle.prepared_call.specs.PreparedCall.{infeasible_row, prepared_answer}
use Rattle.prepared_call.specs.declared.PreparedPropagation.{PreparedPropagation}
use Rattle.prepared_probe.specs.ProbeAnswers.{prepared_probe_answer, row0_of, row1_of}
use Rattle.prepared_replies.specs.PreparedReplies.{prepared_reply, with_rows}
use Rattle.prepared_sides.specs.declared.ProbedSides.{ProbedSides}
use Rattle.replies.specs.Replies.{call_reply, numbered_reply}
use Rattle.replies.proofs.NamedLaws.{numbered-named}

pub prepared-named : (r : Result PreparedPropagation Refusal)
    → numbered_reply number_of (λ a. prepared_reply (prepared_answer a) (infeasible_row a)) r ≡ prepared_reply (prepared_answer r) (infeasible_row r)
unfolding prepared_reply prepared_answer call_reply
prepared-named = numbered-named (λ a. prepared_reply (prepared_answer a) (infeasible_row a)) (λ z. refl)

pub probe-named : (r : Result ProbedSides Refusal)
    → numbered_reply number_of (λ a. with_rows (call_reply (prepared_probe_answer a)) (row0_of a) (row1_of a)) r
    ≡ with_rows (call_reply (prepared_probe_answer r)) (row0_of r) (row1_of r)
unfolding with_rows call_reply
probe-named = numbered-named (λ a. with_rows (call_reply (prepared_probe_answer a)) (row0_of a) (row1_of a)) (λ z. refl)
