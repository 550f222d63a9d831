-- Demand 1 for the call that writes the clique rows: its checks stand in the order of their places, so the first that fails is the one
-- with the least place.
use Prim.Native.Nat.{◌*◌, ◌<◌, ℕ}
use lib.Dec.{eqb, eqb→eq}
use lib.IntN.{ℤ}
use lib.ListN.{length}
use mathlib.Core.List.{List}
use mathlib.Core.Logic.Iff
use mathlib.Core.Logic.{◌↔◌}
use mathlib.Core.Path.{◌≡◌, ap, refl}
use native.Mathlib.Decide.{dec_lt, ℕ_discrete}
use native.Mathlib.Omega.{arith}
use Rattle.integer.proofs.Tests.{cond_ind, eqb-test, neqb→ne}
use Rattle.model.specs.Checks.{first, size_checks, table_byte_checks, table_length_checks}
use Rattle.model.specs.Places.{place}
use Rattle.model.proofs.CheckLaws.{bits-test, first-none, size-test}
use Rattle.model.proofs.PlaceLaws.{AllPass, first-before, first-fails, hold-pass, place-injective}
use Rattle.cliques.specs.CliqueCall.{CliquesPerformed, clique_checks, perform_cliques, refused, written}
use Rattle.cliques.specs.CliqueRefusals.{CliquePasses, Demand1Cliques}
use Rattle.cliques.specs.Cliques.{clique_rows}

module _ (n : ℕ) (t : List ℕ) (C R : List ℤ) where
  abbrev fault : ℕ
  fault = first (clique_checks n t C R)

  abbrev Passes : ℕ → Type 0
  Passes N = CliquePasses N n t C R

  passes-test : (N : ℕ) → AllPass N (clique_checks n t C R) ↔ Passes N
  unfolding clique_checks size_checks table_length_checks table_byte_checks
  passes-test N =
      let t3 = size-test n 0 in
      let tt5 = eqb-test (length t) (4 * (n * n)) in
      let tc5 = eqb-test (length C) (2 * n * n) in
      let tr5 = eqb-test (length R) (2 * n) in
      let t10 = bits-test t in (
        (λ (p3, (p5, (q5, (r5, (p10, u))))). record {
          check3 = λ e. let s = t3.0 (p3 e) in (s.0, s.1);
          check5 = λ e. (tt5.0 (p5 e), tc5.0 (q5 e), tr5.0 (r5 e));
          check10 = λ e. t10.0 (p10 e);
        }),
        (λ q. (
          (λ e. let s = q.check3 e in t3.1 (s.0, s.1, omega arith)),
          (
            (λ e. tt5.1 (q.check5 e).0),
            (
              (λ e. tc5.1 (q.check5 e).1),
              ((λ e. tr5.1 (q.check5 e).2), ((λ e. t10.1 (q.check10 e)), tt)),
            ),
          ),
        )),
      )

  none_passes : fault ≡ 0 → (N : ℕ) → Passes N
  unfolding clique_checks size_checks table_length_checks table_byte_checks
  none_passes e N = (passes-test N).0 (hold-pass N (clique_checks n t C R) ((first-none (clique_checks n t C R) tt).0 e))

  before-passes : (N : ℕ) → place N < place fault → Passes N
  unfolding clique_checks size_checks table_length_checks table_byte_checks place
  before-passes N h = (passes-test N).0 (first-before N 0 (clique_checks n t C R) tt h)

  fault-fails : (fault ≡ 0 → ⊥) → Passes fault → ⊥
  fault-fails f p = first-fails (clique_checks n t C R) f ((passes-test fault).1 p)

  all_pass : ((N : ℕ) → Passes N) → fault ≡ 0
  all_pass f = decided (ℕ_discrete fault 0)
    where
      decided : Dec (fault ≡ 0) → fault ≡ 0
      decided (yes e) = e
      decided (no g) = absurd (fault-fails g (f fault))

  number-iff : (N : ℕ) → ((fault ≡ N) × (fault ≡ 0 → ⊥)) ↔ ((Passes N → ⊥) × ((M : ℕ) → place M < place N → Passes M))
  number-iff N = (
    (λ h. ((λ p. fault-fails h.1 (rw h.0 p)), (λ M l. before-passes M (omega (arith, ap place h.0))))),
    (λ h. let g : fault ≡ 0 → ⊥ = (λ e. h.0 (none_passes e N)) in
        (least h g (dec_lt (place fault) (place N)) (dec_lt (place N) (place fault)), g)),
  )
    where
      least : (Passes N → ⊥) × ((M : ℕ) → place M < place N → Passes M) → (fault ≡ 0 → ⊥)
          → Dec (place fault < place N) → Dec (place N < place fault) → fault ≡ N
      least h g (yes l) d = absurd (fault-fails g (h.1 fault l))
      least h g (no l) (yes k) = absurd (h.0 (before-passes N k))
      least h g (no l) (no k) = place-injective fault N (omega arith)

  not-refused : {k N : ℕ} → written k ≡ refused N → ⊥
  not-refused e = let z : ◌≡◌ {A = ℕ} 0 1 = cc in omega arith

  refused-iff : (N : ℕ) → ((perform_cliques n t C R).answer ≡ refused N) ↔ ((fault ≡ N) × (fault ≡ 0 → ⊥))
  unfolding perform_cliques
  refused-iff N =
      cond_ind (eqb fault 0) _ _ (λ (r : CliquesPerformed). (r.answer ≡ refused N) ↔ ((fault ≡ N) × (fault ≡ 0 → ⊥)))
      (λ z. ((λ a. absurd (not-refused a)), (λ h. absurd (h.1 (eqb→eq fault 0 z)))))
      (λ z. ((λ a. (cc, neqb→ne fault 0 z)), (λ h. ap refused h.0)))

  refused-keeps : (N : ℕ) → (perform_cliques n t C R).answer ≡ refused N → ((perform_cliques n t C R).coefs ≡ C) × ((perform_cliques n t C R).rhs ≡ R)
  unfolding perform_cliques
  refused-keeps N =
      cond_ind (eqb fault 0) _ _ (λ (r : CliquesPerformed). r.answer ≡ refused N → (r.coefs ≡ C) × (r.rhs ≡ R))
      (λ _ a. absurd (not-refused a)) (λ _ _. (refl, refl))

  accepted-writes : ((N : ℕ) → Passes N) → (perform_cliques n t C R).answer ≡ written (clique_rows n t).number
  unfolding perform_cliques
  accepted-writes f = rw (all_pass f) refl

pub demand-1-cliques : Demand1Cliques
unfolding Demand1Cliques
demand-1-cliques n t C R = record {
  first = λ N. Iff.trans (refused-iff n t C R N) (number-iff n t C R N);
  kept = refused-keeps n t C R;
  accepted = accepted-writes n t C R;
}
