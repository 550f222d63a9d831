-- Where the error is a refusal, the reply is what the definitions say of the answer: `numbered-named`, answer by answer. Assumes nothing.
use Rattle.std.proofs.Common.{ℕ, ◌≡◌, refl}
use Rattle.std.specs.Prelude.{Result}
use Rattle.book.specs.Answers.{write_answer}
use Rattle.book_replies.specs.SparseReplies.{length_reply}
use Rattle.model.specs.declared.refusal.Refusal.{Refusal}
use Rattle.model.specs.Refusals.{number_of}
use Rattle.replies.specs.Replies.{book_reply, numbered_reply}
use Rattle.replies.proofs.NamedLaws.{numbered-named}
use Rattle.sparse_calls.specs.SparseCalls.{length_answer}

pub write-named : (r : Result (Unit {0}) Refusal) → numbered_reply number_of (λ a. book_reply (write_answer a)) r ≡ book_reply (write_answer r)
unfolding book_reply write_answer
write-named = numbered-named (λ a. book_reply (write_answer a)) (λ z. refl)

pub length-named : (r : Result ℕ Refusal) → numbered_reply number_of (λ a. length_reply (length_answer a)) r ≡ length_reply (length_answer r)
unfolding length_reply length_answer
length-named = numbered-named (λ a. length_reply (length_answer a)) (λ z. refl)
