-- The call of the C interface that writes the clique rows: what it returns, the answer A and the lent list afterwards.
use Rattle.std.specs.Prelude.{ℕ, eqb, ℤ, length, cond, List}
use Rattle.model.specs.Checks.{size_checks}
use Rattle.cliques.specs.CliqueCall.{perform_cliques}
use Rattle.replies.specs.CliqueReplies.{clique_reply}
use Rattle.replies.specs.Replies.{answer_length, returned, written, wrong_length}

pub record CliquesExported : Type 0 where
  pub returned : ℕ
  pub answer : List ℕ
  pub coefs : List ℤ
  pub rhs : List ℤ

unfoldable pub cliques_exported : ℕ → List ℕ → List ℤ → List ℤ → CliquesExported
cliques_exported number A C R = record { returned = number; answer = A; coefs = C; rhs = R }

-- "A wrong answer length is check 5, with the other lengths": 3, of n alone, comes first
unfoldable pub cliques_export : List ℕ → ℕ → List ℕ → List ℤ → List ℤ → CliquesExported
cliques_export A n t C R =
    let p = perform_cliques n t C R in
    let q = clique_reply p.answer in
    cond (eqb (length A) answer_length) (cliques_exported (returned q) (written q A) p.coefs p.rhs) (cliques_exported (wrong_length (size_checks n 0)) A C R)
