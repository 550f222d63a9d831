-- Demand 1: the checks of a call stand in the order of their places, so the first that fails is the one with the least place.
use Prim.Native.Nat.{◌*◌, ◌+◌, ◌/◌, ◌<◌, ◌≤◌, ℕ}
use lib.Dec.{T, eqb, eqb→eq, leb}
use lib.IntN.{ℤ}
use lib.ListN.{length}
use lib.Signed.{◌≤ℤ◌, le_z}
use mathlib.Core.Bool.{◌&&◌, ◌||◌, cond, false, not, true}
use mathlib.Core.List.{List, ◌++◌, ◌∷◌}
use mathlib.Core.Logic.Iff
use mathlib.Core.Logic.{◌↔◌, ◌≢◌, ◌⊎◌, inl, inr, ⊎_elim}
use mathlib.Core.Path.{◌∙◌, ◌≡◌, ap, refl, subst, sym}
use native.Mathlib.Decide.{dec_lt, ℕ_discrete}
use native.Mathlib.Omega.{arith}
use Rattle.integer.proofs.IndexLaws.{all-test}
use Rattle.integer.proofs.Tests.{both, cond_ind, eqb-test, le_test, leb-test, ltb-test, neqb→ne, or-test, when-test}
use Rattle.model.specs.Box.{is_empty, is_free, lower, upper}
use Rattle.model.specs.Checks.{Check, bits, box_checks, first, in_range, length_checks, model_checks, must, narrow, number_checks, ordered, size_checks, table_byte_checks, table_length_checks}
use Rattle.model.specs.Limits.{max_bound, max_coef, max_rhs, max_rows, max_variables, min_bound, min_coef, min_rhs}
use Rattle.model.specs.Places.{place}
use Rattle.model.specs.State.{State}
use Rattle.model.proofs.BoxLaws.{is_empty-test}
use Rattle.model.proofs.CheckLaws.{bits-test, first-none, in_range-test, length-test, narrow-test, numbered, size-test}
use Rattle.model.proofs.PlaceLaws.{AllPass, first-before, first-fails, hold-pass, place-injective, placed_from}
use Rattle.semantics.specs.Call.{Call, Kind, has_budget, has_row, has_table, has_variable, is_retired, is_unknown, kind_of, probing, propagation, removal, row_propagation, tightening, unknown}
use Rattle.semantics.specs.CallChecks.{call_checks, call_fault, field_checks, given_model, is_lent, kind_check, lent_table, listed_checks, listed_fault, max_budget, record_checks}
use Rattle.semantics.specs.Perform.{Answer, Performed, act, perform, perform_listed, refused}
use Rattle.semantics.specs.Run.{is_refused}
use Rattle.call_laws.proofs.Accepted.{accepted, lent-test}
use Rattle.demands.specs.Demand1.{Demand1, Demand1Lists, LengthsFit, Passes, PassesListed, Refusals}

-- ---- what the tests of a call say

-- the checks of a call, with those of the table in every call: they pass where it is lent none
abbrev flat_from : List Check → Kind → State → Call → List Check
flat_from own k s c =
    must (leb 1 c.n && leb c.n max_variables && leb c.m max_rows) 3
    ∷ must (eqb (length s.model.box) (2 * c.n) && eqb (length s.model.rows.coefs) (c.m * c.n) && eqb (length s.model.rows.rhs) c.m
    && eqb (length s.model.rows.kinds) c.m) 5
    ∷ must (not (has_table k) || eqb (length s.table) (4 * (c.n * c.n))) 5
    ∷ must (is_lent k s c) 5
    ∷ must (in_range min_bound max_bound s.model.box) 6
    ∷ must (is_empty c.n s.model.box || ordered s.model.box) 7
    ∷ must (narrow s.model.box) 23
    ∷ must (in_range min_coef max_coef s.model.rows.coefs) 8
    ∷ must (in_range min_rhs max_rhs s.model.rows.rhs) 9
    ∷ must (bits s.model.rows.kinds) 16
    ∷ must (not (has_table k) || bits s.table) 10
    ∷ own

-- of a direct call, and of a call that a list makes
abbrev flat_checks : Kind → State → Call → List Check
flat_checks k s c = flat_from (kind_check k ∷ field_checks k s c) k s c

abbrev flat_listed : Kind → State → Call → List Check
flat_listed k s c = flat_from (kind_check k ∷ must (not (is_retired k)) 18 ∷ field_checks k s c) k s c

flat : (k : Kind) (s : State) (c : Call) → first (call_checks k s c) ≡ first (flat_checks k s c)
unfolding first call_checks given_model record_checks model_checks size_checks length_checks table_length_checks box_checks number_checks table_byte_checks lent_table has_table
flat row_propagation s c = refl
flat propagation s c = refl
flat probing s c = refl
flat tightening s c = refl
flat removal s c = refl
flat unknown s c = refl

flat-listed : (k : Kind) (s : State) (c : Call)
    → first (model_checks (given_model s c) (lent_table k s) (is_lent k s c) ++ listed_checks k s c) ≡ first (flat_listed k s c)
unfolding first given_model listed_checks model_checks size_checks length_checks table_length_checks box_checks number_checks table_byte_checks lent_table has_table
flat-listed row_propagation s c = refl
flat-listed propagation s c = refl
flat-listed probing s c = refl
flat-listed tightening s c = refl
flat-listed removal s c = refl
flat-listed unknown s c = refl

lengths-test : (s : State) (c : Call)
    → (T (eqb (length s.model.box) (2 * c.n) && eqb (length s.model.rows.coefs) (c.m * c.n) && eqb (length s.model.rows.rhs) c.m
    && eqb (length s.model.rows.kinds) c.m)
    × T (not (has_table (kind_of c.kind)) || eqb (length s.table) (4 * (c.n * c.n)))
    × T (is_lent (kind_of c.kind) s c))
    ↔ LengthsFit s c
unfolding given_model
lengths-test s c =
    let k = kind_of c.kind in
    let l = lent-test k s c in
    let d = length-test (given_model s c) in
    let t = when-test (has_table k) _ (eqb-test (length s.table) (4 * (c.n * c.n))) in (
      (λ h. let a = l.0 h.2 in let b = d.0 h.0 in record {
        variables = a.variables;
        rows = a.rows;
        box = (a.box, b.0);
        coefs = (a.coefs, b.1);
        rhs = (a.rhs, b.2);
        kinds = (a.kinds, b.3);
        table = λ x. (a.table x, t.0 h.1 x);
      }),
      (λ f. (
        d.1 (f.box.1, f.coefs.1, f.rhs.1, f.kinds.1),
        t.1 (λ x. (f.table x).1),
        l.1 (record {
          variables = f.variables;
          rows = f.rows;
          box = f.box.0;
          coefs = f.coefs.0;
          rhs = f.rhs.0;
          kinds = f.kinds.0;
          table = λ x. (f.table x).0;
        }),
      )),
    )

pub order-test : (B : List ℤ) → T (ordered B) ↔ ((j : ℕ) → 2 * j + 1 < length B → lower B j ≤ℤ upper B j)
unfolding ordered
order-test B =
    let d = all-test (length B / 2) (λ j. le_z (lower B j) (upper B j)) (λ j. le_test (lower B j) (upper B j)) in
    ((λ t j h. d.0 t j (omega arith)), (λ f. d.1 (λ j h. f j (omega arith))))

is-kind : (k i : ℕ) → 1 ≤ i → i ≤ 5 → T (eqb k i) → T true ↔ ((1 ≤ k) × (k ≤ 5))
is-kind k i a b e = let q = eqb→eq k i e in ((λ _. (omega arith, omega arith)), (λ _. tt))

kind-test : (k : ℕ) → T (not (is_unknown (kind_of k))) ↔ ((1 ≤ k) × (k ≤ 5))
unfolding kind_of is_unknown
kind-test k =
    let P : Kind → Type 0 = λ q. T (not (is_unknown q)) ↔ ((1 ≤ k) × (k ≤ 5)) in
    cond_ind (eqb k 1) _ _ P (is-kind k 1 (omega arith) (omega arith)) (λ n1.
    cond_ind (eqb k 2) _ _ P (is-kind k 2 (omega arith) (omega arith)) (λ n2.
    cond_ind (eqb k 3) _ _ P (is-kind k 3 (omega arith) (omega arith)) (λ n3.
    cond_ind (eqb k 4) _ _ P (is-kind k 4 (omega arith) (omega arith)) (λ n4.
    cond_ind (eqb k 5) _ _ P (is-kind k 5 (omega arith) (omega arith)) (λ n5.
    let m1 = neqb→ne k 1 n1 in let m2 = neqb→ne k 2 n2 in let m3 = neqb→ne k 3 n3 in let m4 = neqb→ne k 4 n4 in let m5 = neqb→ne k 5 n5 in
    ((λ z. absurd z), (λ h. absurd (let z : ⊥ = omega arith in z))))))))

-- 4 and 5 alone are retired
is-retired : (k i : ℕ) → (i ≡ 4) ⊎ (i ≡ 5) → T (eqb k i) → T false ↔ ((k ≢ 4) × (k ≢ 5))
is-retired k i d e = let q = eqb→eq k i e in ((λ z. absurd z), (λ h. ⊎_elim (λ f. absurd (h.0 (q ∙ f))) (λ f. absurd (h.1 (q ∙ f))) d))

is-other : (k i : ℕ) → i ≢ 4 → i ≢ 5 → T (eqb k i) → T true ↔ ((k ≢ 4) × (k ≢ 5))
is-other k i a b e = let q = eqb→eq k i e in ((λ _. ((λ f. a (sym q ∙ f)), (λ f. b (sym q ∙ f)))), (λ _. tt))

retired-test : (k : ℕ) → T (not (is_retired (kind_of k))) ↔ ((k ≢ 4) × (k ≢ 5))
unfolding kind_of is_retired
retired-test k =
    let P : Kind → Type 0 = λ q. T (not (is_retired q)) ↔ ((k ≢ 4) × (k ≢ 5)) in
    cond_ind (eqb k 1) _ _ P (is-other k 1 (λ e. omega arith) (λ e. omega arith)) (λ _.
    cond_ind (eqb k 2) _ _ P (is-other k 2 (λ e. omega arith) (λ e. omega arith)) (λ _.
    cond_ind (eqb k 3) _ _ P (is-other k 3 (λ e. omega arith) (λ e. omega arith)) (λ _.
    cond_ind (eqb k 4) _ _ P (is-retired k 4 (inl refl)) (λ n4.
    cond_ind (eqb k 5) _ _ P (is-retired k 5 (inr refl)) (λ n5. ((λ _. (neqb→ne k 4 n4, neqb→ne k 5 n5)), (λ _. tt)))))))

-- ---- number by number

pub also : {A B : Type 0} → A → B → A × B
also a b = (a, b)

passes-test : (N : ℕ) (s : State) (c : Call) → AllPass N (flat_checks (kind_of c.kind) s c) ↔ Passes N s c
passes-test N s c =
    let k = kind_of c.kind in
    let t3 = size-test c.n c.m in
    let t5 = lengths-test s c in
    let t6 = in_range-test min_bound max_bound s.model.box in
    let t7 = or-test (is_empty c.n s.model.box) (ordered s.model.box) (is_empty-test c.n s.model.box) (order-test s.model.box) in
    let t23 = narrow-test s.model.box in
    let t8 = in_range-test min_coef max_coef s.model.rows.coefs in
    let t9 = in_range-test min_rhs max_rhs s.model.rows.rhs in
    let t16 = bits-test s.model.rows.kinds in
    let t10 = when-test (has_table k) _ (bits-test s.table) in
    let t11 = kind-test c.kind in
    let t12 = when-test (has_row k) _ (ltb-test c.row s.model.m) in
    let t13 = when-test (has_variable k) _ (ltb-test c.variable s.model.n) in
    let t14 = when-test (has_variable k) _
    (or-test (is_empty s.model.n s.model.box) (is_free s.model.box c.variable) (is_empty-test s.model.n s.model.box) ((λ t. t), (λ t. t))) in
    let t15 = when-test (has_budget k) _ (both (leb 1 c.budget) (leb c.budget max_budget) (leb-test 1 c.budget) (leb-test c.budget max_budget)) in (
      (λ (p3, (p5, (p5', (p5'', (p6, (p7, (p23, (p8, (p9, (p16, (p10, (p11, (p12, (p13, (p14, (p15, u)))))))))))))))). record {
        check3 = λ e. t3.0 (p3 e);
        check5 = λ e. t5.0 (p5 e, p5' e, p5'' e);
        check6 = λ e. t6.0 (p6 e);
        check7 = λ e. t7.0 (p7 e);
        check23 = λ e. t23.0 (p23 e);
        check8 = λ e. t8.0 (p8 e);
        check9 = λ e. t9.0 (p9 e);
        check16 = λ e. t16.0 (p16 e);
        check10 = λ e. t10.0 (p10 e);
        check11 = λ e. t11.0 (p11 e);
        check12 = λ e. t12.0 (p12 e);
        check13 = λ e. t13.0 (p13 e);
        check14 = λ e. t14.0 (p14 e);
        check15 = λ e. t15.0 (p15 e);
      }),
      (λ q. also (λ e. t3.1 (q.check3 e))
          (also (λ e. (t5.1 (q.check5 e)).0) (also (λ e. (t5.1 (q.check5 e)).1) (also (λ e. (t5.1 (q.check5 e)).2)
          (also (λ e. t6.1 (q.check6 e)) (also (λ e. t7.1 (q.check7 e)) (also (λ e. t23.1 (q.check23 e)) (also (λ e. t8.1 (q.check8 e)) (also (λ e. t9.1 (q.check9 e))
          (also (λ e. t16.1 (q.check16 e)) (also (λ e. t10.1 (q.check10 e)) (also (λ e. t11.1 (q.check11 e)) (also (λ e. t12.1 (q.check12 e)) (also (λ e. t13.1 (q.check13 e))
          (also (λ e. t14.1 (q.check14 e)) (also (λ e. t15.1 (q.check15 e)) tt)))))))))))))))),
    )

-- 18 stands between 11 and 12
listed-test : (N : ℕ) (s : State) (c : Call) → AllPass N (flat_listed (kind_of c.kind) s c) ↔ PassesListed N s c
listed-test N s c =
    let d = passes-test N s c in
    let t18 = retired-test c.kind in (
      (λ (p3, (p5, (p5', (p5'', (p6, (p7, (p23, (p8, (p9, (p16, (p10, (p11, (p18, own))))))))))))). record {
        others = d.0 (also p3 (also p5 (also p5' (also p5'' (also p6 (also p7 (also p23 (also p8 (also p9 (also p16 (also p10 (also p11 own))))))))))));
        check18 = λ e. t18.0 (p18 e);
      }),
      (λ q. with-18 (λ e. t18.1 (q.check18 e)) (d.1 q.others)),
    )
  where
    with-18 : (N ≡ 18 → T (not (is_retired (kind_of c.kind)))) → AllPass N (flat_checks (kind_of c.kind) s c) → AllPass N (flat_listed (kind_of c.kind) s c)
    with-18 p18 (p3, (p5, (p5', (p5'', (p6, (p7, (p23, (p8, (p9, (p16, (p10, (p11, own)))))))))))) =
        also p3 (also p5 (also p5' (also p5'' (also p6 (also p7 (also p23 (also p8 (also p9 (also p16 (also p10 (also p11 (also p18 own))))))))))))

-- ---- the number of the first check that fails

-- of checks that stand in their places, of which number N passes exactly where Pass N
module _ (checks : List Check) (Pass : ℕ → Type 0) (test : (N : ℕ) → AllPass N checks ↔ Pass N)
    (some : T (numbered checks)) (placed : T (placed_from 0 checks)) where
  pub none_passes : first checks ≡ 0 → (N : ℕ) → Pass N
  none_passes e N = (test N).0 (hold-pass N checks ((first-none checks some).0 e))

  before-passes : (N : ℕ) → place N < place (first checks) → Pass N
  before-passes N h = (test N).0 (first-before N 0 checks placed h)

  fault-fails : (first checks ≡ 0 → ⊥) → Pass (first checks) → ⊥
  fault-fails n p = first-fails checks n ((test (first checks)).1 p)

  pub all_pass : ((N : ℕ) → Pass N) → first checks ≡ 0
  all_pass f = decided (ℕ_discrete (first checks) 0)
    where
      decided : Dec (first checks ≡ 0) → first checks ≡ 0
      decided (yes e) = e
      decided (no n) = absurd (fault-fails n (f (first checks)))

  pub number-iff : (N : ℕ) → ((first checks ≡ N) × (first checks ≡ 0 → ⊥)) ↔ ((Pass N → ⊥) × ((M : ℕ) → place M < place N → Pass M))
  number-iff N = (
    (λ h. ((λ p. fault-fails h.1 (rw h.0 p)), (λ M l. before-passes M (omega (arith, ap place h.0))))),
    (λ h. let n : first checks ≡ 0 → ⊥ = (λ e. h.0 (none_passes e N)) in (least h n (dec_lt (place (first checks)) (place N)) (dec_lt (place N) (place (first checks))), n)),
  )
    where
      least : (Pass N → ⊥) × ((M : ℕ) → place M < place N → Pass M) → (first checks ≡ 0 → ⊥)
          → Dec (place (first checks) < place N) → Dec (place N < place (first checks)) → first checks ≡ N
      least h n (yes l) d = absurd (fault-fails n (h.1 (first checks) l))
      least h n (no l) (yes g) = absurd (h.0 (before-passes N g))
      least h n (no l) (no g) = place-injective (first checks) N (omega arith)

-- ---- the answer

act-answers : (k : Kind) (s : State) (c : Call) → T (not (is_unknown k)) → T (is_refused (act k s c).answer) → ⊥
unfolding act is_unknown is_refused
act-answers row_propagation s c o t = t
act-answers propagation s c o t = t
act-answers probing s c o t = t
act-answers tightening s c o t = t
act-answers removal s c o t = t
act-answers unknown s c o t = o

-- what a call on s does that fault refuses, and that otherwise does q
abbrev unless_refused : State → ℕ → Performed → Performed
unless_refused s fault q = cond (eqb fault 0) q (record { answer = refused fault; state = s })

module _ (s : State) (fault : ℕ) (q : Performed) (answers : fault ≡ 0 → T (is_refused q.answer) → ⊥) where
  refused-iff : (N : ℕ) → ((unless_refused s fault q).answer ≡ refused N) ↔ ((fault ≡ N) × (fault ≡ 0 → ⊥))
  unfolding is_refused
  refused-iff N =
      cond_ind (eqb fault 0) _ _ (λ (r : Performed). (r.answer ≡ refused N) ↔ ((fault ≡ N) × (fault ≡ 0 → ⊥)))
      (λ z. let e = eqb→eq fault 0 z in (
        (λ a. absurd (answers e (subst (λ (b : Answer). T (is_refused b)) (sym a) tt))),
        (λ h. absurd (h.1 e)),
      ))
      (λ z. ((λ a. (cc, neqb→ne fault 0 z)), (λ h. ap refused h.0)))

  answered-iff : (fault ≡ 0) ↔ (T (is_refused (unless_refused s fault q).answer) → ⊥)
  unfolding is_refused
  answered-iff =
      cond_ind (eqb fault 0) _ _ (λ (r : Performed). (fault ≡ 0) ↔ (T (is_refused r.answer) → ⊥))
      (λ z. (answers, (λ _. eqb→eq fault 0 z)))
      (λ z. ((λ e _. neqb→ne fault 0 z e), (λ f. absurd (f tt))))

  refused-keeps : T (is_refused (unless_refused s fault q).answer) → (unless_refused s fault q).state ≡ s
  refused-keeps =
      cond_ind (eqb fault 0) _ _ (λ (r : Performed). T (is_refused r.answer) → r.state ≡ s)
      (λ z t. absurd (answers (eqb→eq fault 0 z) t)) (λ _ _. refl)

-- both together
refusals : (s : State) (checks : List Check) (Pass : ℕ → Type 0) → ((N : ℕ) → AllPass N checks ↔ Pass N) → T (numbered checks)
    → T (placed_from 0 checks) → (q : Performed) → (first checks ≡ 0 → T (is_refused q.answer) → ⊥)
    → Refusals s Pass (first checks) (unless_refused s (first checks) q)
refusals s checks Pass test some placed q answers = record {
  first = λ N. Iff.trans (refused-iff s (first checks) q answers N) (number-iff checks Pass test some placed N);
  accepted = (none_passes checks Pass test some placed, all_pass checks Pass test some placed);
  answered = answered-iff s (first checks) q answers;
  kept = refused-keeps s (first checks) q answers;
}

call_fault-is : (s : State) (c : Call) → call_fault s c ≡ first (flat_checks (kind_of c.kind) s c)
unfolding call_fault
call_fault-is s c = flat (kind_of c.kind) s c

pub demand-1 : Demand1
unfolding Demand1 perform call_fault place
demand-1 s c =
    let k = kind_of c.kind in
    rw (flat k s c) (refusals s (flat_checks k s c) (λ N. Passes N s c) (λ N. passes-test N s c) tt tt (act k s c)
    (λ e. act-answers k s c (accepted s c (call_fault-is s c ∙ e)).kind))

pub demand-1-lists : Demand1Lists
unfolding Demand1Lists perform_listed listed_fault place
demand-1-lists s c =
    let k = kind_of c.kind in
    rw (flat-listed k s c) (refusals s (flat_listed k s c) (λ N. PassesListed N s c) (λ N. listed-test N s c) tt tt (act k s c)
    (λ e. act-answers k s c ((kind-test c.kind).1 ((none_passes (flat_listed k s c) (λ N. PassesListed N s c) (λ N. listed-test N s c) tt tt e 11).others.check11 refl))))
