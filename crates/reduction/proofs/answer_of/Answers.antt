-- `reduction::answer_of`: each answer of the rounds has its text.
use Rattle.std.proofs.Common.{refl}
use Rattle.std.proofs.lemmas.Result.{err_from_is_err_and}
use Rattle.rounds.specs.Answers.{rounds_answer}
use Rattle.reduction.specs.Answers.{answer_text}
use Rattle.reduction.specs.Output.{text_of}
use Rattle.reduction.proofs.answer_of.Goals as goal

pub returns-in_err-rounds : goal.returns-in_err-rounds
unfolding answer_text text_of rounds_answer
returns-in_err-rounds c =
    let p = err_from_is_err_and c.from_residual.result c.from_residual.ensures.1 in
    rw (p.1, p.2) (λ form s. rw c.in_err-rounds.was refl)

pub returns-in-Infeasible : goal.returns-in-Infeasible
unfolding answer_text text_of rounds_answer
returns-in-Infeasible c = λ form s. rw (c.in_ok-rounds.was, c.in-Infeasible.is) refl

pub returns-in-NothingChanged : goal.returns-in-NothingChanged
unfolding answer_text text_of rounds_answer
returns-in-NothingChanged c = λ form s. rw (c.in_ok-rounds.was, c.in-NothingChanged.is) refl

pub returns-in-AtLimit : goal.returns-in-AtLimit
unfolding answer_text text_of rounds_answer
returns-in-AtLimit c = λ form s. rw (c.in_ok-rounds.was, c.in-AtLimit.is) refl
