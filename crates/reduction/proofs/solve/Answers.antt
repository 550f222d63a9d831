-- `reduction::solve`: what is read is the model that `output` starts from, and the rounds leave what it prints, valid.
use mathlib.Core.Path.{◌∙◌, ap, ap₂, subst, sym}
use Rattle.book.specs.Answers.{sizes_answer}
use Rattle.model.specs.Rows.{rows_of}
use Rattle.model.specs.State.{state_of}
use Rattle.model.specs.Valid.{ValidState}
use Rattle.rounds.specs.Rounds.{run_rounds}
use Rattle.semantics.specs.Run.{run as ran}
use Rattle.reduction.specs.Answers.{answer_text}
use Rattle.reduction.specs.Output.{rounds_text, text_of}
use Rattle.reduction.proofs.OutputLaws.{output-means}
use Rattle.reduction.proofs.ReductionLaws.{accepted-output, accepted-state, accepted-valid, leaves-valid, refused-output}
use Rattle.reduction.proofs.solve.Goals as goal

pub returns-in-Err : goal.returns-in-Err
unfolding answer_text sizes_answer state_of
returns-in-Err c = record {
  text = λ form. refused-output c.requires form _ _ c.in-Err.ensures.answer;
  meaning = λ form. output-means form _ _;
  valid = tt;
}

pub returns-in-Ok : goal.returns-in-Ok
unfolding rounds_text sizes_answer state_of
returns-in-Ok c =
    let a = c.args in
    let h = c.requires in
    let e = c.in-Ok.ensures.answer in
    let left = c.run.new in
    let r = c.in-Ok.ensures in
    let state = accepted-state h _ _ e r.bounds_read r.coefs_read r.rhs_read r.kinds_read in
    record {
      text = λ form. c.answer_of.ensures form (state_of a.n a.m left.bounds (rows_of left.coefs left.rhs left.kinds) left.table)
          ∙ ap₂ (text_of form) c.run.ensures.answer c.run.ensures.left
          ∙ ap (rounds_text form a.limit) state
          ∙ sym (accepted-output h _ _ e form a.limit);
      meaning = λ form. output-means form _ _;
      valid =
          leaves-valid c.answer_of.result (subst ValidState (sym (c.run.ensures.left ∙ ap (λ s. ran s (run_rounds a.limit s).calls) state)) (accepted-valid h _ _ e a.limit));
    }
