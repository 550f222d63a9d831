-- Laws of a verdict: inside exactly at the integer points, so the same yes or no before and after any list of calls; else the lowest
-- variable outside its bounds or, where there is none, the lowest row broken.
use Prim.Native.Nat.{◌<◌, ℕ}
use lib.Dec.{T, T_not}
use lib.IntN.{pos, ℤ}
use lib.ListN.{length}
use lib.Signed.{◌≤ℤ◌, le_z}
use mathlib.Core.Bool.{not}
use mathlib.Core.List.{List}
use mathlib.Core.Logic.{◌↔◌, ◌⊎◌, inl, inr}
use mathlib.Core.Path.{◌∙◌, ◌≡◌, ap, refl, sym}
use native.Mathlib.Omega.{arith}
use Rattle.integer.specs.Index.{all}
use Rattle.integer.proofs.IndexLaws.{all-false, all-test}
use Rattle.integer.proofs.Parts.{zarith}
use Rattle.integer.proofs.Tests.{T→false, T→true, both, cond_ind, decide, eq_z→eq, eq→eq_z, le_test}
use Rattle.model.specs.Box.{at, empty_box, lower, upper}
use Rattle.model.specs.Model.{Model}
use Rattle.model.specs.Point.{InBox, IntegerPoint, Meets, dot}
use Rattle.model.specs.Rows.{Row, is_equality, row_at}
use Rattle.model.specs.State.{State}
use Rattle.model.proofs.BoxLaws.{lower-box_of, upper-box_of}
use Rattle.semantics.specs.Call.{Call}
use Rattle.semantics.specs.Lowest.{lowest}
use Rattle.semantics.specs.Run.{run}
use Rattle.call_laws.proofs.LowestLaws.{lowest-below, lowest-found, lowest-is}
use Rattle.demands.specs.Demand2.{Demand2Runs}
use Rattle.demands.proofs.Demand2.{demand-2-runs}
use Rattle.proposals.specs.Meaning.{LowestBroken, LowestOutside}
use Rattle.proposals.specs.Proposals.{case_of, number_of}
use Rattle.proposals.specs.Verdict.{Verdict, breaks, in_bounds, inside, meets, outside_at, row_met, verdict, verdict_by}

-- ---- the tests

pub in_bounds-test : (B x : List ℤ) (j : ℕ) → T (in_bounds B x j) ↔ ((lower B j ≤ℤ at x j) × (at x j ≤ℤ upper B j))
unfolding in_bounds
in_bounds-test B x j = both (le_z (lower B j) (at x j)) (le_z (at x j) (upper B j)) (le_test (lower B j) (at x j)) (le_test (at x j) (upper B j))

pub in_box-test : (n : ℕ) (B x : List ℤ) → T (all n (in_bounds B x)) ↔ InBox n B x
in_box-test n B x =
    let d = all-test n (in_bounds B x) (in_bounds-test B x) in (
      (λ t. record { low = λ j h. (d.0 t j h).0; high = λ j h. (d.0 t j h).1 }),
      (λ p. d.1 (λ j h. (p.low j h, p.high j h))),
    )

pub meets-test : (n : ℕ) (r : Row) (x : List ℤ) → T (meets n r x) ↔ Meets n r x
unfolding meets
meets-test n r x = (there, back)
  where
    there : T (meets n r x) → Meets n r x
    there t = record {
      le = λ k. (le_test (dot n r.coefs x) r.rhs).0 (rw (T→false (is_equality r) k) at t);
      eq = λ k. eq_z→eq (dot n r.coefs x) r.rhs (rw (T→true (is_equality r) k) at t);
    }

    back : Meets n r x → T (meets n r x)
    back m = cond_ind (is_equality r) _ _ T (λ k. eq→eq_z (dot n r.coefs x) r.rhs (m.eq k)) (λ k. (le_test (dot n r.coefs x) r.rhs).1 (m.le k))

-- ---- inside

-- a verdict whose case is 0 is inside
pub inside-case : (v : Verdict) → (case_of v ≡ 0) ↔ (v ≡ inside)
unfolding case_of
inside-case inside = ((λ _. refl), (λ _. refl))
inside-case (outside_at j) = ((λ e. absurd (let z : ⊥ = omega arith in z)), (λ e. ap case_of e))
inside-case (breaks i) = ((λ e. absurd (let z : ⊥ = omega arith in z)), (λ e. ap case_of e))

-- it is inside exactly where the box and the rows so far are met
pub inside-by : (k : ℕ) (M : Model) (x : List ℤ) → (verdict_by k M x ≡ inside) ↔ (T (all M.n (in_bounds M.box x)) × T (all k (row_met M x)))
unfolding verdict_by case_of
inside-by k M x = (there, λ t. rw (T→true (all M.n (in_bounds M.box x)) t.0, T→true (all k (row_met M x)) t.1) refl)
  where
    never : {P : Type 0} (v : Verdict) → (case_of v ≡ 0 → ⊥) → v ≡ inside → P
    never v h e = absurd (h ((inside-case v).1 e))

    there : verdict_by k M x ≡ inside → T (all M.n (in_bounds M.box x)) × T (all k (row_met M x))
    there =
        cond_ind (all M.n (in_bounds M.box x)) _ _ (λ v. v ≡ inside → T (all M.n (in_bounds M.box x)) × T (all k (row_met M x)))
        (λ t. cond_ind (all k (row_met M x)) _ _ (λ v. v ≡ inside → T (all M.n (in_bounds M.box x)) × T (all k (row_met M x)))
        (λ u _. (t, u)) (λ _ e. never _ (λ h. let z : ⊥ = omega arith in z) e))
        (λ _ e. never _ (λ h. let z : ⊥ = omega arith in z) e)

-- inside exactly at the integer points
pub inside-point : (M : Model) (x : List ℤ) → length x ≡ M.n → (verdict M x ≡ inside) ↔ IntegerPoint M x
unfolding verdict row_met
inside-point M x l =
    let d = inside-by M.m M x in
    let b = in_box-test M.n M.box x in
    let r = all-test M.m (row_met M x) (λ i. meets-test M.n (row_at M.n M.rows i) x) in (
      (λ e. let t = d.0 e in record { len = l; inside = b.0 t.0; rows = r.0 t.1 }),
      (λ p. d.1 (b.1 p.inside, r.1 p.rows)),
    )

-- the same yes or no against a model and against what any list of calls made of it: demand 2
pub same-verdict : (s : State) (cs : List Call) (x : List ℤ) → length x ≡ s.model.n
    → (verdict (run s cs).model x ≡ inside) ↔ (verdict s.model x ≡ inside)
unfolding Demand2Runs
same-verdict s cs x l =
    let d = demand-2-runs s cs in
    let after = inside-point (run s cs).model x (l ∙ sym d.sizes.0) in
    let before = inside-point s.model x l in (
      (λ e. before.1 ((d.points x).0 (after.0 e))),
      (λ e. after.1 ((d.points x).1 (before.0 e))),
    )

-- ---- outside, and broken

pub outside-case : (v : Verdict) → case_of v ≡ 1 → v ≡ outside_at (number_of v)
unfolding case_of number_of
outside-case inside e = absurd (let z : ⊥ = omega arith in z)
outside-case (outside_at j) e = refl
outside-case (breaks i) e = absurd (let z : ⊥ = omega arith in z)

pub breaks-case : (v : Verdict) → case_of v ≡ 2 → v ≡ breaks (number_of v)
unfolding case_of number_of
breaks-case inside e = absurd (let z : ⊥ = omega arith in z)
breaks-case (outside_at j) e = absurd (let z : ⊥ = omega arith in z)
breaks-case (breaks i) e = refl

-- the three ways in which a verdict comes about
verdict-ind : (M : Model) (x : List ℤ) (P : Verdict → Type 0)
    → (InBox M.n M.box x → T (all M.m (row_met M x)) → P inside)
    → (InBox M.n M.box x → T (not (all M.m (row_met M x))) → P (breaks (lowest M.m (row_met M x))))
    → (T (not (all M.n (in_bounds M.box x))) → P (outside_at (lowest M.n (in_bounds M.box x))))
    → P (verdict M x)
unfolding verdict verdict_by
verdict-ind M x P f g h =
    let b = in_box-test M.n M.box x in
    cond_ind (all M.n (in_bounds M.box x)) _ _ P (λ t. cond_ind (all M.m (row_met M x)) _ _ P (f (b.0 t)) (g (b.0 t))) h

-- "outside the box at the lowest such variable"
pub outside-lowest : (M : Model) (x : List ℤ) → case_of (verdict M x) ≡ 1 → LowestOutside M x (number_of (verdict M x))
unfolding case_of number_of
outside-lowest M x =
    verdict-ind M x (λ v. case_of v ≡ 1 → LowestOutside M x (number_of v))
    (λ _ _ e. absurd (let z : ⊥ = omega arith in z))
    (λ _ _ e. absurd (let z : ⊥ = omega arith in z))
    (λ t _. let f = lowest-found (in_bounds M.box x) M.n t in record {
      exists = f.0;
      outside = λ p. T_not (in_bounds M.box x (lowest M.n (in_bounds M.box x))) f.1 ((in_bounds-test M.box x (lowest M.n (in_bounds M.box x))).1 p);
      below = λ k h. (in_bounds-test M.box x k).0 (lowest-below (in_bounds M.box x) M.n k h);
    })

-- "if inside the box, the lowest row broken"
pub broken-lowest : (M : Model) (x : List ℤ) → case_of (verdict M x) ≡ 2 → LowestBroken M x (number_of (verdict M x))
unfolding case_of number_of row_met
broken-lowest M x =
    verdict-ind M x (λ v. case_of v ≡ 2 → LowestBroken M x (number_of v))
    (λ _ _ e. absurd (let z : ⊥ = omega arith in z))
    (λ b t _. let f = lowest-found (row_met M x) M.m t in record {
      box = b;
      exists = f.0;
      broken = λ p. T_not (row_met M x (lowest M.m (row_met M x))) f.1 ((meets-test M.n (row_at M.n M.rows (lowest M.m (row_met M x))) x).1 p);
      below = λ k h. (meets-test M.n (row_at M.n M.rows k) x).0 (lowest-below (row_met M x) M.m k h);
    })
    (λ _ e. absurd (let z : ⊥ = omega arith in z))

-- ---- the empty box

-- against the empty box: outside, at variable 0
pub empty-verdict : (M : Model) (x : List ℤ) → 0 < M.n → M.box ≡ empty_box M.n → verdict M x ≡ outside_at 0
unfolding verdict verdict_by empty_box all
empty-verdict M x h e = go (decide (in_bounds M.box x 0))
  where
    low : lower M.box 0 ≡ pos 1
    low = rw e (lower-box_of M.n (λ j. pos 1) (λ j. pos 0) 0 h)

    high : upper M.box 0 ≡ pos 0
    high = rw e (upper-box_of M.n (λ j. pos 1) (λ j. pos 0) 0 h)

    go : T (in_bounds M.box x 0) ⊎ T (not (in_bounds M.box x 0)) → verdict M x ≡ outside_at 0
    go (inl t) = absurd (let b = (in_bounds-test M.box x 0).0 t in let l = low in let u = high in let z : ⊥ = omega zarith in z)
    go (inr t) =
        rw (all-false M.n (in_bounds M.box x) 0 h (T→false (in_bounds M.box x 0) t))
        (ap outside_at (lowest-is (in_bounds M.box x) M.n 0 h tt t))
