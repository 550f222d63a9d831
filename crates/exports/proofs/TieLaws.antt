-- The same of the call that ties two variables, with the tie list that it leaves. Assumes nothing.
use Prim.Native.Nat.{ℕ}
use lib.ListN.{length}
use mathlib.Core.List.{List}
use mathlib.Core.Path.{◌∙◌, ◌≡◌, ap}
use Rattle.model.specs.Checks.{size_checks}
use Rattle.tie_call.specs.TieAnswers.{performed_tie, tie_answer}
use Rattle.std.specs.Prelude.{Result}
use Rattle.tie_call.specs.declared.TieMade.{TieMade}
use Rattle.model.specs.declared.refusal.Refusal.{Refusal}
use Rattle.ties.specs.TieCall.{TiePerformed, perform_tie, tie_call_of}
use Rattle.ties.specs.Ties.{TiedState}
use Rattle.replies.specs.Replies.{Reply, answer_length, returned, tie_reply, written, wrong_length}
use Rattle.exports.specs.Exports.{exported, tie_export, ties_export}
use Rattle.exports.proofs.BookLaws.{lent-after, lent-stays}
use Rattle.exports.proofs.ExportLaws.{length-refused, replied}

module _ (A : List ℕ) (s : TiedState) (k j : ℕ) where
  pub tie-refused : {number : ℕ} → (length A ≡ answer_length → ⊥) → number ≡ wrong_length (size_checks s.state.model.n s.state.model.m)
      → (exported number A s.state ≡ tie_export A s k j) × (s.ties ≡ ties_export A s k j)
  unfolding tie_export ties_export
  tie-refused wrong e = (length-refused A s.state _ _ wrong e, lent-stays A s.ties _ wrong)

  pub tie-replied : (r : TiedState) (x : Result TieMade Refusal) {q : Reply} {number : ℕ} {places : List ℕ} → length A ≡ answer_length
      → (number ≡ returned q) × (places ≡ written q A) → q ≡ tie_reply (tie_answer x) → performed_tie x r ≡ perform_tie s (tie_call_of s k j)
      → (exported number places r.state ≡ tie_export A s k j) × (r.ties ≡ ties_export A s k j)
  unfolding tie_export ties_export performed_tie
  tie-replied r x right put e done = (
    replied A s.state right put (e ∙ ap (λ (p : TiePerformed). tie_reply p.answer) done) (ap (λ (p : TiePerformed). p.state.state) done),
    lent-after A s.ties right (ap (λ (p : TiePerformed). p.state.ties) done),
  )
