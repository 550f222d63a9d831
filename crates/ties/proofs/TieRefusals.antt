-- Demand 1 for the tie call: its checks stand in the order of their places, so the first that fails is the one with the least place.
use Prim.Native.Nat.{◌*◌, ℕ}
use lib.Dec.{T, eqb, eqb→eq}
use lib.ListN.{length}
use mathlib.Core.Bool.{◌&&◌}
use mathlib.Core.Logic.Iff
use mathlib.Core.Logic.{◌↔◌}
use mathlib.Core.Path.{◌≡◌, ap, refl, subst, sym}
use Rattle.integer.proofs.Tests.{cond_ind, eqb-test, ltb-test, neqb→ne, or-test}
use Rattle.model.specs.Box.{is_empty}
use Rattle.model.specs.Checks.{box_checks, first, length_checks, model_checks, number_checks, ordered, size_checks, table_byte_checks, table_length_checks}
use Rattle.model.specs.Limits.{max_bound, max_coef, max_rhs, min_bound, min_coef, min_rhs}
use Rattle.model.specs.Places.{place}
use Rattle.model.proofs.BoxLaws.{is_empty-test}
use Rattle.model.proofs.CheckLaws.{bits-test, in_range-test, length-test, narrow-test, numbered, size-test}
use Rattle.model.proofs.PlaceLaws.{AllPass, placed_from}
use Rattle.demands.proofs.Demand1.{all_pass, also, none_passes, number-iff, order-test}
use Rattle.ties.specs.TieCall.{TieAnswer, TieCall, TiePerformed, can_tie, given_model_tie, is_lent_tie, perform_tie, refused, says, tie, tie_checks, tie_fault, tie_own_checks, tie_with}
use Rattle.ties.specs.TieRefusals.{Demand1Tie, TieLengthsFit, TiePasses, is_refused_tie}
use Rattle.ties.specs.Ties.{TiedState}
use Rattle.ties.proofs.TieAccepted.{lent-tie-test, places-below}

-- ---- what the tests say

lengths-test : (s : TiedState) (c : TieCall) → let M = s.state.model in
    (T (eqb (length M.box) (2 * c.n) && eqb (length M.rows.coefs) (c.m * c.n) && eqb (length M.rows.rhs) c.m && eqb (length M.rows.kinds) c.m)
    × T (eqb (length s.state.table) (4 * (c.n * c.n)))
    × T (is_lent_tie s c))
    ↔ TieLengthsFit s c
unfolding given_model_tie
lengths-test s c =
    let l = lent-tie-test s c in
    let d = length-test (given_model_tie s c) in
    let t = eqb-test (length s.state.table) (4 * (c.n * c.n)) in (
      (λ h. let a = l.0 h.2 in let b = d.0 h.0 in record {
        variables = a.variables;
        rows = a.rows;
        box = (a.box, b.0);
        coefs = (a.coefs, b.1);
        rhs = (a.rhs, b.2);
        kinds = (a.kinds, b.3);
        table = (a.table, t.0 h.1);
        ties = (a.ties, a.places);
      }),
      (λ f. (
        d.1 (f.box.1, f.coefs.1, f.rhs.1, f.kinds.1),
        t.1 f.table.1,
        l.1 (record {
          variables = f.variables;
          rows = f.rows;
          box = f.box.0;
          coefs = f.coefs.0;
          rhs = f.rhs.0;
          kinds = f.kinds.0;
          table = f.table.0;
          ties = f.ties.0;
          places = f.ties.1;
        }),
      )),
    )

passes-test : (N : ℕ) (s : TiedState) (c : TieCall) → AllPass N (tie_checks s c) ↔ TiePasses N s c
unfolding tie_checks given_model_tie model_checks size_checks length_checks table_length_checks box_checks number_checks table_byte_checks tie_own_checks
passes-test N s c =
    let M = s.state.model in
    let t3 = size-test c.n c.m in
    let t5 = lengths-test s c in
    let t6 = in_range-test min_bound max_bound M.box in
    let t7 = or-test (is_empty c.n M.box) (ordered M.box) (is_empty-test c.n M.box) (order-test M.box) in
    let t23 = narrow-test M.box in
    let t8 = in_range-test min_coef max_coef M.rows.coefs in
    let t9 = in_range-test min_rhs max_rhs M.rows.rhs in
    let t16 = bits-test M.rows.kinds in
    let t10 = bits-test s.state.table in
    let t21 = places-below c.n s.ties in
    let tk = ltb-test c.k c.n in
    let tj = ltb-test c.j c.n in (
      (λ (p3, (p5, (p5', (p5'', (p6, (p7, (p23, (p8, (p9, (p16, (p10, (p21, (pk, (pj, u)))))))))))))). record {
        check3 = λ e. t3.0 (p3 e);
        check5 = λ e. t5.0 (p5 e, p5' e, p5'' e);
        check6 = λ e. t6.0 (p6 e);
        check7 = λ e. t7.0 (p7 e);
        check23 = λ e. t23.0 (p23 e);
        check8 = λ e. t8.0 (p8 e);
        check9 = λ e. t9.0 (p9 e);
        check16 = λ e. t16.0 (p16 e);
        check10 = λ e. t10.0 (p10 e);
        check21 = λ e. t21.0 (p21 e);
        check13 = λ e. (tk.0 (pk e), tj.0 (pj e));
      }),
      (λ q. also (λ e. t3.1 (q.check3 e))
          (also (λ e. (t5.1 (q.check5 e)).0) (also (λ e. (t5.1 (q.check5 e)).1) (also (λ e. (t5.1 (q.check5 e)).2)
          (also (λ e. t6.1 (q.check6 e)) (also (λ e. t7.1 (q.check7 e)) (also (λ e. t23.1 (q.check23 e)) (also (λ e. t8.1 (q.check8 e))
          (also (λ e. t9.1 (q.check9 e)) (also (λ e. t16.1 (q.check16 e)) (also (λ e. t10.1 (q.check10 e)) (also (λ e. t21.1 (q.check21 e))
          (also (λ e. tk.1 (q.check13 e).0) (also (λ e. tj.1 (q.check13 e).1) tt)))))))))))))),
    )

module _ (s : TiedState) (c : TieCall) where
  some : T (numbered (tie_checks s c))
  unfolding tie_checks model_checks size_checks length_checks table_length_checks box_checks number_checks table_byte_checks tie_own_checks
  some = tt

  placed : T (placed_from 0 (tie_checks s c))
  unfolding tie_checks model_checks size_checks length_checks table_length_checks box_checks number_checks table_byte_checks tie_own_checks place
  placed = tt

  -- ---- the answer

  tie-answers : T (is_refused_tie (tie s c.k c.j).answer) → ⊥
  unfolding tie tie_with is_refused_tie
  tie-answers =
      let P : TiePerformed → Type 0 = λ r. T (is_refused_tie r.answer) → ⊥ in
      let n = s.state.model.n in let t = s.state.table in let k = c.k in let j = c.j in
      cond_ind (says n t k j 0) _ _ P (λ _. cond_ind (can_tie s k j 0) _ _ P (λ _ z. z) (λ _ z. z))
      (λ _. cond_ind (says n t k j 1) _ _ P (λ _. cond_ind (can_tie s k j 1) _ _ P (λ _ z. z) (λ _ z. z)) (λ _ z. z))

  refused-iff : (N : ℕ) → ((perform_tie s c).answer ≡ refused N) ↔ ((tie_fault s c ≡ N) × (tie_fault s c ≡ 0 → ⊥))
  unfolding perform_tie is_refused_tie
  refused-iff N =
      cond_ind (eqb (tie_fault s c) 0) _ _ (λ (r : TiePerformed). (r.answer ≡ refused N) ↔ ((tie_fault s c ≡ N) × (tie_fault s c ≡ 0 → ⊥)))
      (λ z. let e = eqb→eq (tie_fault s c) 0 z in (
        (λ a. absurd (tie-answers (subst (λ (b : TieAnswer). T (is_refused_tie b)) (sym a) tt))),
        (λ h. absurd (h.1 e)),
      ))
      (λ z. ((λ a. (cc, neqb→ne (tie_fault s c) 0 z)), (λ h. ap refused h.0)))

  answered-iff : (tie_fault s c ≡ 0) ↔ (T (is_refused_tie (perform_tie s c).answer) → ⊥)
  unfolding perform_tie is_refused_tie
  answered-iff =
      cond_ind (eqb (tie_fault s c) 0) _ _ (λ (r : TiePerformed). (tie_fault s c ≡ 0) ↔ (T (is_refused_tie r.answer) → ⊥))
      (λ z. ((λ _. tie-answers), (λ _. eqb→eq (tie_fault s c) 0 z)))
      (λ z. ((λ e _. neqb→ne (tie_fault s c) 0 z e), (λ f. absurd (f tt))))

  refused-keeps : T (is_refused_tie (perform_tie s c).answer) → (perform_tie s c).state ≡ s
  unfolding perform_tie
  refused-keeps =
      cond_ind (eqb (tie_fault s c) 0) _ _ (λ (r : TiePerformed). T (is_refused_tie r.answer) → r.state ≡ s)
      (λ z t. absurd (tie-answers t)) (λ _ _. refl)

pub demand-1-tie : Demand1Tie
unfolding Demand1Tie tie_fault
demand-1-tie s c =
    let t : (N : ℕ) → AllPass N (tie_checks s c) ↔ TiePasses N s c = (λ N. passes-test N s c) in
    record {
      first = λ N. Iff.trans (refused-iff s c N) (number-iff (tie_checks s c) (λ N. TiePasses N s c) t (some s c) (placed s c) N);
      accepted = (none_passes (tie_checks s c) (λ N. TiePasses N s c) t (some s c) (placed s c), all_pass (tie_checks s c) (λ N. TiePasses N s c) t (some s c) (placed s c));
      answered = answered-iff s c;
      kept = refused-keeps s c;
    }
