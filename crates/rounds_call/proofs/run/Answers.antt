-- `rounds_call::run`: refused by the checks, or the rounds of a state that passed them, and what they mean. Assumes nothing.
use Rattle.std.proofs.Common.{◌≡◌, ℕ, ◌∙◌, ap, sym, Result, Err}
use Rattle.std.proofs.lemmas.Result.{err_from_is_err_and}
use Rattle.model.specs.declared.refusal.Refusal.{Refusal}
use Rattle.model.specs.Refusals.{number_of}
use Rattle.model.proofs.RefusalLaws.{number_of-ne0}
use Rattle.model.specs.Rows.{rows_of}
use Rattle.model.specs.State.{State, state_of}
use Rattle.call_laws.proofs.Accepted.{accepted-valid}
use Rattle.rounds.specs.Answers.{rounds_answer}
use Rattle.rounds.specs.Rounds.{rounds_fault}
use Rattle.rounds.specs.declared.RoundsMade.{RoundsMade}
use Rattle.rounds.proofs.RoundsLaws.{Answers, finished, refuses}
use Rattle.rounds_call.proofs.run.Goals as goal

-- an answer that refuses
refused : (limit : ℕ) (s : State) (r : Result RoundsMade Refusal) (x : Refusal) → r ≡ Err x → number_of x ≡ rounds_fault s → Answers limit s (rounds_answer r) s
unfolding rounds_answer
refused limit s r x e f = rw e (refuses limit s f (number_of-ne0 x))

pub returns-in_err-check_model_with_table : goal.returns-in_err-check_model_with_table
unfolding rounds_fault state_of
returns-in_err-check_model_with_table c =
    let a = c.args in
    let p = err_from_is_err_and c.from_residual.result c.from_residual.ensures.1 in
    let w = refused a.limit (state_of a.n a.m a.bounds.now (rows_of a.coefs.now a.rhs.now a.kinds.now) a.table.now) c.from_residual.result p.0 p.1 (ap number_of p.2 ∙ c.in_err-check_model_with_table.ensures) in
    record { answer = w.0; left = w.1.0; meaning = w.1.1.0; unreached = w.1.1.1.0; rest = w.1.1.1.1 }

pub make_rounds-requires : goal.make_rounds-requires
unfolding rounds_fault state_of
make_rounds-requires c =
    let a = c.args in
    accepted-valid (state_of a.n a.m a.bounds.now (rows_of a.coefs.now a.rhs.now a.kinds.now) a.table.now) (sym c.in_ok-check_model_with_table.ensures)

pub returns : goal.returns
unfolding rounds_fault state_of
returns c =
    let a = c.args in
    let w = finished a.limit (state_of a.n a.m a.bounds.now (rows_of a.coefs.now a.rhs.now a.kinds.now) a.table.now) (sym c.in_ok-check_model_with_table.ensures)
    c.make_rounds.ensures.answer c.make_rounds.ensures.left in
    record { answer = w.0; left = w.1.0; meaning = w.1.1.0; unreached = w.1.1.1.0; rest = w.1.1.1.1 }
