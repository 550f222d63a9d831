-- The same of the calls on books. Assumes nothing.
use Prim.Native.Nat.{ℕ}
use borrow.Author.Tests.{eq-eqb, ne_eqb}
use lib.ListN.{length}
use mathlib.Core.Bool.{Bool, cond}
use mathlib.Core.List.{List}
use mathlib.Core.Path.{◌∙◌, ◌≡◌, ap, ap₂, sym}
use Rattle.model.specs.Checks.{Check}
use Rattle.replies.specs.Replies.{Reply, answer_length, returned, written, wrong_length}
use Rattle.exports.specs.Exports.{book_answered, book_exported, lent_to}

pub book-refused : (A : List ℕ) (before : List Check) (q : Reply) {number : ℕ} → (length A ≡ answer_length → ⊥) → number ≡ wrong_length before
    → book_exported number A ≡ book_answered A before q
unfolding book_answered
book-refused A before q wrong e =
    ap (λ (k : ℕ). book_exported k A) e
    ∙ sym (ap (λ (t : Bool). cond t (book_exported (returned q) (written q A)) (book_exported (wrong_length before) A)) (ne_eqb (length A) answer_length wrong))

pub book-replied : (A : List ℕ) (before : List Check) {q p : Reply} {number : ℕ} {places : List ℕ} → length A ≡ answer_length
    → (number ≡ returned q) × (places ≡ written q A) → q ≡ p → book_exported number places ≡ book_answered A before p
unfolding book_answered
book-replied A before {q} {p} right put e =
    ap₂ book_exported put.0 put.1
    ∙ sym (ap (λ (b : Bool). cond b (book_exported (returned q) (written q A)) (book_exported (wrong_length before) A)) (eq-eqb (length A) answer_length right))
    ∙ ap (book_answered A before) e

pub lent-stays : {X : Type 0} (A : List ℕ) (before after : List X) → (length A ≡ answer_length → ⊥) → before ≡ lent_to A before after
unfolding lent_to
lent-stays A before after wrong = sym (ap (λ (t : Bool). cond t after before) (ne_eqb (length A) answer_length wrong))

pub lent-after : {X : Type 0} (A : List ℕ) (before : List X) {after left : List X} → length A ≡ answer_length → left ≡ after → left ≡ lent_to A before after
unfolding lent_to
lent-after A before {after} right e = e ∙ sym (ap (λ (t : Bool). cond t after before) (eq-eqb (length A) answer_length right))
