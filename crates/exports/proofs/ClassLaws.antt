-- The same of a list whose records' classes are told, with the bytes that it leaves. Assumes nothing.
use Prim.Native.Nat.{ℕ}
use lib.ListN.{length}
use mathlib.Core.List.{List}
use mathlib.Core.Path.{◌∙◌, ◌≡◌, ap}
use Rattle.flat_record.specs.Classes.{ClassesRun, run_classes}
use Rattle.flat_list.specs.ListAnswers.{classes_run, list_answer, list_run}
use Rattle.std.specs.Prelude.{Result}
use Rattle.call.specs.declared.Counts.{Counts}
use Rattle.model.specs.declared.refusal.Refusal.{Refusal}
use Rattle.model.specs.Checks.{size_checks}
use Rattle.model.specs.State.{State}
use Rattle.replies.specs.Replies.{Reply, answer_length, list_reply, returned, written, wrong_length}
use Rattle.exports.specs.Exports.{classes_export, classes_left, exported}
use Rattle.exports.proofs.BookLaws.{lent-after, lent-stays}
use Rattle.exports.proofs.ExportLaws.{length-refused, replied}

module _ (A : List ℕ) (s : State) (calls C : List ℕ) where
  pub classes-refused : {number : ℕ} → (length A ≡ answer_length → ⊥) → number ≡ wrong_length (size_checks s.model.n s.model.m)
      → (exported number A s ≡ classes_export A s calls C) × (C ≡ classes_left A s calls C)
  unfolding classes_export classes_left
  classes-refused wrong e = (length-refused A s _ _ wrong e, lent-stays A C _ wrong)

  pub classes-replied : (r : State) (D : List ℕ) (x : Result Counts Refusal) {q : Reply} {number : ℕ} {places : List ℕ} → length A ≡ answer_length
      → (number ≡ returned q) × (places ≡ written q A) → q ≡ list_reply (list_answer x) → classes_run x r D ≡ run_classes s calls C
      → (exported number places r ≡ classes_export A s calls C) × (D ≡ classes_left A s calls C)
  unfolding classes_export classes_left classes_run list_run
  classes-replied r D x right put e done = (
    replied A s right put (e ∙ ap (λ (p : ClassesRun). list_reply p.list.answer) done) (ap (λ (p : ClassesRun). p.list.state) done),
    lent-after A C right (ap (λ (p : ClassesRun). p.classes) done),
  )
