-- The same of the call that writes the clique rows. Assumes nothing.
use Prim.Native.Nat.{ℕ}
use borrow.Author.Tests.{eq-eqb, ne_eqb}
use lib.IntN.{ℤ}
use lib.ListN.{length}
use mathlib.Core.List.{List}
use mathlib.Core.Path.{◌≡◌, refl, sym}
use Rattle.cliques.specs.CliqueCall.{CliqueAnswer, CliquesPerformed, perform_cliques}
use Rattle.model.specs.Checks.{size_checks}
use Rattle.replies.specs.CliqueReplies.{clique_reply}
use Rattle.replies.specs.Replies.{Reply, answer_length, returned, written, wrong_length}
use Rattle.exports.specs.CliqueExports.{cliques_export, cliques_exported}

module _ (A : List ℕ) (n : ℕ) (t : List ℕ) (C R : List ℤ) where
  pub cliques-refused : {number : ℕ} → (length A ≡ answer_length → ⊥) → number ≡ wrong_length (size_checks n 0) → cliques_exported number A C R ≡ cliques_export A n t C R
  unfolding cliques_export
  cliques-refused wrong e = rw (ne_eqb (length A) answer_length wrong, e) refl

  pub cliques-replied : (a : CliqueAnswer) (C' R' : List ℤ) {q : Reply} {number : ℕ} {places : List ℕ} → length A ≡ answer_length
      → (number ≡ returned q) × (places ≡ written q A) → q ≡ clique_reply a → record { answer = a; coefs = C'; rhs = R' } ≡ perform_cliques n t C R
      → cliques_exported number places C' R' ≡ cliques_export A n t C R
  unfolding cliques_export
  cliques-replied a C' R' right put e done = rw (eq-eqb (length A) answer_length right, sym done, put.0, put.1, e) refl
