-- Laws of the call: what its checks come to, and its answers.
use Prim.Native.Nat.{◌*◌, ◌≤◌, ℕ}
use borrow.Author.Tests.{ne_eqb}
use lib.Dec.{eqb}
use lib.IntN.{ℤ}
use lib.ListN.{length}
use mathlib.Core.List.{List}
use mathlib.Core.Path.{◌≡◌, ap, refl, subst, sym}
use mir.Syntax.{w64}
use mir.Val.{Fits}
use native.Mathlib.Nat.{mul-le-mul}
use native.Mathlib.Omega.{arith}
use Rattle.integer.proofs.Tests.{cond_ind, eqb-test}
use Rattle.std.specs.Prelude.{Result, Ok, Err}
use Rattle.model.specs.declared.refusal.Refusal.{Refusal}
use Rattle.model.specs.Refusals.{number_of}
use Rattle.model.proofs.RefusalLaws.{number_of-injective}
use Rattle.model.specs.Checks.{first, size_checks, table_byte_checks, table_length_checks}
use Rattle.model.proofs.CheckLaws.{first-none, size-test}
use Rattle.cliques.specs.CliqueCall.{CliquesPerformed, clique_checks, perform_cliques, refused, written}
use Rattle.cliques.specs.CliqueClaims.{AnyCliquesMean, CliquesMean}
use Rattle.cliques.specs.Cliques.{CliqueRows, clique_rows}
use Rattle.cliques.proofs.FilledLaws.{cliques-mean}
use Rattle.clique_grow.specs.Candidates.{LentTable}
use Rattle.clique_call.specs.CliqueAnswers.{cliques_answer, list_of}

pub sizes-passed : (n : ℕ) → first (size_checks n 0) ≡ 0 → n ≤ 128
unfolding size_checks
sizes-passed n e = ((size-test n 0).0 ((first-none (size_checks n 0) tt).0 e).0).1

pub square-fits : {n : ℕ} → n ≤ 128 → Fits w64 (n * n)
square-fits {n} h = let a : n * n ≤ 128 * 128 = mul-le-mul h h in omega arith

pub all-passed : (n : ℕ) (t : List ℕ) (C R : List ℤ) → first (clique_checks n t C R) ≡ 0
    → LentTable n t × (length C ≡ 2 * n * n) × (length R ≡ 2 * n)
unfolding clique_checks size_checks table_length_checks table_byte_checks
all-passed n t C R e =
    let h = (first-none (clique_checks n t C R) tt).0 e in (
      record { most = ((size-test n 0).0 h.0).1; len = (eqb-test (length t) (4 * (n * n))).0 h.1.0 },
      (eqb-test (length C) (2 * n * n)).0 h.1.1.0,
      (eqb-test (length R) (2 * n)).0 h.1.1.1.0,
    )

-- ---- the answers

module _ (n : ℕ) (t : List ℕ) (C R : List ℤ) where
  pub refused-by : {r : ℕ} → r ≡ first (clique_checks n t C R) → (r ≡ 0 → ⊥) → record { answer = refused r; coefs = C; rhs = R } ≡ perform_cliques n t C R
  unfolding perform_cliques
  refused-by {r} e f = rw (← e, ne_eqb r 0 f) refl

  pub written-by : {number : ℕ} {C' R' : List ℤ} → first (clique_checks n t C R) ≡ 0 → list_of number C' R' ≡ clique_rows n t
      → record { answer = written number; coefs = C'; rhs = R' } ≡ perform_cliques n t C R
  unfolding perform_cliques
  written-by e f = rw e (ap (λ (r : CliqueRows). record { answer = written r.number; coefs = r.coefs; rhs = r.rhs }) f)

  -- what is performed means what is claimed
  means : (k : ℕ) → (perform_cliques n t C R).answer ≡ written k → CliquesMean n t k (perform_cliques n t C R).coefs (perform_cliques n t C R).rhs
  unfolding perform_cliques AnyCliquesMean
  means = cond_ind (eqb (first (clique_checks n t C R)) 0) _ _ (λ (r : CliquesPerformed). (k : ℕ) → r.answer ≡ written k → CliquesMean n t k r.coefs r.rhs)
      (λ _ k e. subst (λ (j : ℕ). CliquesMean n t j (clique_rows n t).coefs (clique_rows n t).rhs) (written-injective e) (cliques-mean n t))
      (λ _ k e. absurd (not_written e))
    where
      written-injective : {j k : ℕ} → written j ≡ written k → j ≡ k
      written-injective e = cc

      not_written : {j k : ℕ} → refused j ≡ written k → ⊥
      not_written e = let z : ◌≡◌ {A = ℕ} 0 1 = cc in omega arith

  pub promised : (r : CliquesPerformed) → r ≡ perform_cliques n t C R
      → (r ≡ perform_cliques n t C R) × ((k : ℕ) → r.answer ≡ written k → CliquesMean n t k r.coefs r.rhs)
  promised r e = (e, subst (λ (q : CliquesPerformed). (k : ℕ) → q.answer ≡ written k → CliquesMean n t k q.coefs q.rhs) (sym e) means)

-- the code's answers are told apart
pub clique-answers-injective : (a b : Result ℕ Refusal) → cliques_answer a ≡ cliques_answer b → a ≡ b
unfolding cliques_answer
clique-answers-injective (Err r) (Err s) e = let n : number_of r ≡ number_of s = cc in ap Err (number_of-injective r s n)
clique-answers-injective (Err r) (Ok y) e = cc
clique-answers-injective (Ok x) (Err s) e = cc
clique-answers-injective (Ok x) (Ok y) e = cc
