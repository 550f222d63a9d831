-- What the proofs of the exported calls share: a wrong length is refused, a reply is written. Assumes nothing.
use Prim.Native.Nat.{ℕ}
use borrow.Author.Tests.{eq-eqb, ne_eqb}
use lib.ListN.{length}
use mathlib.Core.Bool.{Bool, cond}
use mathlib.Core.List.{List}
use mathlib.Core.Path.{◌∙◌, ◌≡◌, ap, ap₂, refl, sym}
use Rattle.model.specs.Checks.{size_checks}
use Rattle.flat_list.specs.ListAnswers.{list_answer, list_run}
use Rattle.reducer.specs.OpenCalls.{RestVerdict, performed, rest}
use Rattle.std.specs.Prelude.{Result}
use Rattle.call.specs.declared.Counts.{Counts}
use Rattle.model.specs.declared.refusal.Refusal.{Refusal}
use Rattle.rounds.specs.Rounds.{RoundsAnswer, run_rounds}
use Rattle.semantics.specs.CallList.{ListRun, run_list}
use Rattle.semantics.specs.Perform.{Answer, Performed, perform}
use Rattle.semantics.specs.Run.{run}
use Rattle.model.specs.State.{State}
use Rattle.semantics.specs.Call.{call_of}
use Rattle.replies.specs.Replies.{Reply, answer_length, call_reply, list_reply, rest_reply, returned, rounds_reply, written, wrong_length}
use Rattle.exports.specs.Exports.{answered, call_export, exported, list_export, rest_export, rounds_export}

-- the answer's length is wrong: refused by 3 or 5, and everything stays
pub length-refused : (A : List ℕ) (s : State) (q : Reply) (r : State) {number : ℕ} → (length A ≡ answer_length → ⊥) → number ≡ wrong_length (size_checks s.model.n s.model.m)
    → exported number A s ≡ answered A s q r
unfolding answered
length-refused A s q r wrong e =
    ap (λ (k : ℕ). exported k A s) e
    ∙ sym (ap (λ (t : Bool). cond t (exported (returned q) (written q A) r) (exported (wrong_length (size_checks s.model.n s.model.m)) A s)) (ne_eqb (length A) answer_length wrong))

-- the answer's length is right: the reply q that was written is the call's, p, and so is the state that was left
pub replied : (A : List ℕ) (s : State) {q p : Reply} {r t : State} {number : ℕ} {places : List ℕ} → length A ≡ answer_length
    → (number ≡ returned q) × (places ≡ written q A) → q ≡ p → r ≡ t → exported number places r ≡ answered A s p t
unfolding answered
replied A s {q} {p} {r} {t} right put e f =
    ap₂ (λ (k : ℕ) (xs : List ℕ). exported k xs r) put.0 put.1
    ∙ sym (ap (λ (b : Bool). cond b (exported (returned q) (written q A) r) (exported (wrong_length (size_checks s.model.n s.model.m)) A s)) (eq-eqb (length A) answer_length right))
    ∙ ap₂ (answered A s) e f

-- the same of each call: that it is given an answer of a wrong length, or that it answered x and left r
module _ (A : List ℕ) (s : State) where
  pub call-refused : (kind row variable budget : ℕ) {number : ℕ} → (length A ≡ answer_length → ⊥) → number ≡ wrong_length (size_checks s.model.n s.model.m)
      → exported number A s ≡ call_export A s kind row variable budget
  unfolding call_export
  call-refused kind row variable budget wrong e = length-refused A s _ _ wrong e

  pub call-replied : (r : State) (kind row variable budget : ℕ) (x : Answer) {q : Reply} {number : ℕ} {places : List ℕ} → length A ≡ answer_length
      → (number ≡ returned q) × (places ≡ written q A) → q ≡ call_reply x → performed x r ≡ perform s (call_of s kind row variable budget)
      → exported number places r ≡ call_export A s kind row variable budget
  unfolding call_export performed
  call-replied r kind row variable budget x right put e done =
      replied A s right put (e ∙ ap (λ (p : Performed). call_reply p.answer) done) (ap (λ (p : Performed). p.state) done)

  pub rest-refused : {number : ℕ} → (length A ≡ answer_length → ⊥) → number ≡ wrong_length (size_checks s.model.n s.model.m) → exported number A s ≡ rest_export A s
  unfolding rest_export
  rest-refused wrong e = length-refused A s _ _ wrong e

  pub rest-replied : (x : RestVerdict) {q : Reply} {number : ℕ} {places : List ℕ} → length A ≡ answer_length
      → (number ≡ returned q) × (places ≡ written q A) → q ≡ rest_reply x → x ≡ rest s → exported number places s ≡ rest_export A s
  unfolding rest_export
  rest-replied x right put e done = replied A s right put (e ∙ ap rest_reply done) refl

  pub list-refused : (calls : List ℕ) {number : ℕ} → (length A ≡ answer_length → ⊥) → number ≡ wrong_length (size_checks s.model.n s.model.m)
      → exported number A s ≡ list_export A s calls
  unfolding list_export
  list-refused calls wrong e = length-refused A s _ _ wrong e

  pub list-replied : (r : State) (calls : List ℕ) (x : Result Counts Refusal) {q : Reply} {number : ℕ} {places : List ℕ} → length A ≡ answer_length
      → (number ≡ returned q) × (places ≡ written q A) → q ≡ list_reply (list_answer x) → list_run x r ≡ run_list s calls
      → exported number places r ≡ list_export A s calls
  unfolding list_export list_run
  list-replied r calls x right put e done =
      replied A s right put (e ∙ ap (λ (p : ListRun). list_reply p.answer) done) (ap (λ (p : ListRun). p.state) done)

  pub rounds-refused : (limit : ℕ) {number : ℕ} → (length A ≡ answer_length → ⊥) → number ≡ wrong_length (size_checks s.model.n s.model.m)
      → exported number A s ≡ rounds_export A s limit
  unfolding rounds_export
  rounds-refused limit wrong e = length-refused A s _ _ wrong e

  pub rounds-replied : (r : State) (limit : ℕ) (x : RoundsAnswer) {q : Reply} {number : ℕ} {places : List ℕ} → length A ≡ answer_length
      → (number ≡ returned q) × (places ≡ written q A) → q ≡ rounds_reply x → x ≡ (run_rounds limit s).answer → r ≡ run s (run_rounds limit s).calls
      → exported number places r ≡ rounds_export A s limit
  unfolding rounds_export
  rounds-replied r limit x right put e done left = replied A s right put (e ∙ ap rounds_reply done) left
