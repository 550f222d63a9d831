-- Where the error is a refusal, the reply is what the definitions say of the answer (`numbered_reply`). Assumes nothing.
use mathlib.Core.Path.{◌≡◌, refl, sym}
use Prim.Native.Nat.{ℕ}
use Rattle.std.specs.Prelude.{Result, Ok, Err}
use Rattle.clique_call.specs.CliqueAnswers.{cliques_answer}
use Rattle.model.specs.declared.refusal.Refusal.{Refusal}
use Rattle.model.specs.Refusals.{number_of}
use Rattle.page_call.specs.Answers.{count_answer, pages_answer}
use Rattle.replies.specs.CliqueReplies.{clique_reply}
use Rattle.replies.specs.PageReplies.{page_reply}
use Rattle.replies.specs.Replies.{Reply, numbered_reply, refused_by, tie_reply}
use Rattle.tie_call.specs.TieAnswers.{tie_answer}
use Rattle.tie_call.specs.declared.TieMade.{TieMade}

-- a reading that refuses by a refusal's number says of any answer what it says
pub numbered-named : {X : Type 0} (f : Result X Refusal → Reply) → ((z : Refusal) → f (Err z) ≡ refused_by (number_of z))
    → (r : Result X Refusal) → numbered_reply number_of f r ≡ f r
numbered-named f named (Err z) = sym (named z)
numbered-named f named (Ok x) = refl

pub cliques-named : (r : Result ℕ Refusal) → numbered_reply number_of (λ a. clique_reply (cliques_answer a)) r ≡ clique_reply (cliques_answer r)
unfolding clique_reply cliques_answer
cliques-named = numbered-named (λ a. clique_reply (cliques_answer a)) (λ z. refl)

pub count-named : (r : Result ℕ Refusal) → numbered_reply number_of (λ a. page_reply (count_answer a)) r ≡ page_reply (count_answer r)
unfolding page_reply count_answer
count-named = numbered-named (λ a. page_reply (count_answer a)) (λ z. refl)

pub pages-named : (r : Result (Unit {0}) Refusal) → numbered_reply number_of (λ a. page_reply (pages_answer a)) r ≡ page_reply (pages_answer r)
unfolding page_reply pages_answer
pages-named = numbered-named (λ a. page_reply (pages_answer a)) (λ z. refl)

pub tie-named : (r : Result TieMade Refusal) → numbered_reply number_of (λ a. tie_reply (tie_answer a)) r ≡ tie_reply (tie_answer r)
unfolding tie_reply tie_answer
tie-named = numbered-named (λ a. tie_reply (tie_answer a)) (λ z. refl)
