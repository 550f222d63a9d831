-- A budget above the box's width is never spent: propagation then ends in the greatest fixpoint inside, or infeasible where there is
-- none. So the test of the rest call, and rest in the demand's own words, say what a probing fixpoint is.
use Prim.Native.Nat.{◌+◌, ◌<◌, ◌≤◌, suc, zero, ℕ}
use lib.Dec.{T, T_not, not_T}
use lib.IntN.{◌+ℤ◌, pos, ℤ}
use lib.Signed.{◌<ℤ◌, ◌≤ℤ◌}
use mathlib.Core.Bool.{Bool, ◌&&◌, ◌||◌, false, not, true}
use mathlib.Core.List.{List}
use mathlib.Core.Logic.{◌↔◌, ◌≢◌, ◌⊎◌, inl, inr, ⊎_elim}
use mathlib.Core.Path.{◌∙◌, ◌≡◌, ap, ap₂, refl, subst}
use native.Mathlib.Decide.{ℕ_discrete}
use native.Mathlib.Omega.{arith}
use Rattle.integer.specs.Index.{all}
use Rattle.integer.proofs.IndexLaws.{all-test}
use Rattle.integer.proofs.Parts.{zarith, zify}
use Rattle.integer.proofs.Tests.{all_three, both, false→T, or_cases, or_inl, or_inr, true→T}
use Rattle.model.specs.Box.{Inside, NonEmpty, at, empty_box, is_empty, is_free, same_list, width}
use Rattle.model.specs.Model.{Model}
use Rattle.model.specs.Rows.{Rows, row_at}
use Rattle.model.specs.State.{State}
use Rattle.model.specs.Valid.{ValidModel}
use Rattle.model.proofs.BoxLaws.{empty-is, free-lower, free-upper, inside-antisymm, inside-refl, inside-trans, is_empty→eq, non_empty-isn't, not-in-empty, same_list-refl, same_list→eq}
use Rattle.model.proofs.CheckLaws.{model-width}
use Rattle.row.specs.Kinds.{propagate_row_of}
use Rattle.row.specs.Outcome.{is_changed, is_infeasible}
use Rattle.row.specs.Propagation.{PropagatedRow}
use Rattle.row.proofs.KindLaws.{kinded-stays, kinded-unchanged}
use Rattle.row.proofs.KindMovedLaws.{kinded-moved-none}
use Rattle.row.proofs.Width.{width-mono, width-nonneg}
use Rattle.semantics.specs.CallChecks.{max_budget}
use Rattle.semantics.specs.FixpointTest.{is_fixpoint}
use Rattle.semantics.specs.Probe.{ProbeEnding, both_feasible, fix, fixed, hull, infeasible, probe}
use Rattle.semantics.specs.Propagate.{is_none, is_spent, pass_to, propagate, propagate_from}
use Rattle.semantics.specs.RestTest.{is_probing_fixpoint, sides_span}
use Rattle.call_laws.specs.Convergence.{Ends, EnoughPasses, LargestBudget, MovedLimit, NothingMoves, RestInOwnWords, RestIsTested, UniqueGreatest}
use Rattle.call_laws.specs.Fixpoint.{Fixpoint, GreatestFixpoint, ProbedFixpoint, ProbingFixpoint, SidesSpan}
use Rattle.call_laws.proofs.ProbeLaws.{at-fix, fix-inside, fix-non_empty, probe-ind}
use Rattle.call_laws.proofs.PropagateLaws.{moved-at-most, pass-ind, pass-infeasible-box, pass-keeps, pass-moved-none, pass-moved-width, pass-non_empty, pass-shrinks, propagate-empty, propagate-ind, propagate-moved-le, propagate-shrinks, propagate_from-ind}

-- ---- a pass that moved nothing

-- its rows leave the box as it is
pub pass-stays : (i : ℕ) (A : Rows) {n : ℕ} {B : List ℤ} → NonEmpty n B → T (not (pass_to n i A B).ended) → (pass_to n i A B).moved ≡ 0
    → (j : ℕ) → j < i → (propagate_row_of n (row_at n A j) B).box ≡ B
unfolding pass_to
pass-stays zero A p = λ _ _ j h. absurd (let z : ⊥ = omega arith in z)
pass-stays (suc i) A {n} {B} p =
    pass-ind n i A B (λ r. T (not r.ended) → r.moved ≡ 0 → (j : ℕ) → j < suc i → (propagate_row_of n (row_at n A j) B).box ≡ B)
    (λ t u. absurd (T_not (pass_to n i A B).ended u t))
    (λ t u e j h. last t u e j h (ℕ_discrete j i) (pass-stays i A p t (omega arith) j))
  where
    last : T (not (pass_to n i A B).ended) → let v = propagate_row_of n (row_at n A i) (pass_to n i A B).box in
        T (not (is_infeasible v.outcome)) → (pass_to n i A B).moved + v.moved ≡ 0 → (j : ℕ) → j < suc i → Dec (j ≡ i)
        → (j < i → (propagate_row_of n (row_at n A j) B).box ≡ B) → (propagate_row_of n (row_at n A j) B).box ≡ B
    last t u e j h (yes q) r =
        rw q (subst (λ (c : List ℤ). (propagate_row_of n (row_at n A i) c).box ≡ c) (pass-moved-none A p i t (omega arith))
        (kinded-moved-none (row_at n A i) (pass-non_empty A i p t) u (omega arith)))
    last t u e j h (no ne) r = r (omega arith)

-- ---- a budget above the width is enough

propagate_from-ends : (left made sum n m : ℕ) (A : Rows) (B : List ℤ) → 0 < n → NonEmpty n B → width n B <ℤ pos left
    → Ends n m A B (propagate_from left made sum n m A B)
unfolding is_spent is_none
propagate_from-ends zero made sum n m A B h p w = absurd (let z = width-nonneg p in let y : ⊥ = omega zarith in y)
propagate_from-ends (suc left) made sum n m A B h p w = propagate_from-ind left made sum n m A B (Ends n m A B)
    (λ t. record {
      not_spent = tt;
      none = λ _ P q i. not-in-empty n P h q.non_empty (rw (pass-infeasible-box n A m B t) at (pass-keeps h q m (omega arith) i));
      greatest = λ z. absurd z;
    })
    (λ t u. let l = pass-moved-width n A m B t in
    let e = propagate_from-ends left (suc made) _ n m A (pass_to n m A B).box h (pass-non_empty A m p t) (omega (zarith, simp zify at l)) in
    record {
      not_spent = e.not_spent;
      none = λ v P q i. e.none v P q (pass-keeps h q m (omega arith) i);
      greatest = λ v. record {
        fixpoint = (e.greatest v).fixpoint;
        inside = inside-trans (e.greatest v).inside (pass-shrinks n A m B t);
        greatest = λ P q i. (e.greatest v).greatest P q (pass-keeps h q m (omega arith) i);
      };
    })
    (λ t u. record {
      not_spent = tt;
      none = λ z. absurd z;
      greatest = λ _. rw (pass-moved-none A p m t u) (record { fixpoint = record { non_empty = p; same = pass-stays m A p t u }; inside = inside-refl n B; greatest = λ P q i. i });
    })

pub propagate-ends : EnoughPasses
unfolding EnoughPasses
propagate-ends budget n m A B h p w = propagate-ind budget n m A B (Ends n m A B)
    (λ t. absurd (not-in-empty n B h p (subst (Inside n B) (is_empty→eq n B t) (inside-refl n B))))
    (λ _. propagate_from-ends budget 0 0 n m A B h p w)

pub width-limit : LargestBudget
unfolding LargestBudget
width-limit M v = let w = model-width M v in (w, omega zarith)

-- k bounds that moved from the box of a model to P, which is not empty, are within that
pub moved-limit : (M : Model) → ValidModel M → (k : ℕ) {P : List ℤ} → NonEmpty M.n P
    → (pos k +ℤ width M.n P) ≤ℤ width M.n M.box → k ≤ 524_288
unfolding LargestBudget
moved-limit M v k p f =
    let w = (width-limit M v).0 in
    let g = moved-at-most M.n k M.box p f in
    omega zarith

pub propagate-moved-limit : MovedLimit
unfolding MovedLimit LargestBudget
propagate-moved-limit M v budget = ⊎_elim
    (λ (e : M.box ≡ empty_box M.n). rw (e, propagate-empty budget M.n M.m M.rows) (omega arith))
    (λ p. let w = (width-limit M v).0 in let g = propagate-moved-le M.m M.rows budget p in omega zarith)
    v.box.shape

pub greatest-unique : UniqueGreatest
unfolding UniqueGreatest
greatest-unique n m A B P Q p q =
    inside-antisymm p.fixpoint.non_empty q.fixpoint.non_empty (q.greatest P p.fixpoint p.inside) (p.greatest Q q.fixpoint q.inside)

abbrev one_side : ProbeEnding → Bool
one_side infeasible = true
one_side (fixed v) = true
one_side (both_feasible a) = false

not-both : (e : ProbeEnding) → ((a : ℕ) × (e ≡ both_feasible a)) → T (one_side e) → ⊥
not-both e q t = subst (λ (c : ProbeEnding). T (one_side c)) q.1 t

-- ---- whether both sides of k span the box, by propagating them with such a budget

module _ (budget n m : ℕ) (A : Rows) (B : List ℤ) (h : 0 < n) (p : NonEmpty n B) (w : width n B <ℤ pos budget) (k : ℕ) (f : T (is_free B k)) where
  -- both sides are feasible, and the smallest box that contains their results is B
  abbrev pub Spanned : Type 0
  Spanned =
      T (not (is_none (propagate budget n m A (fix n B k 0)).ending))
      × T (not (is_none (propagate budget n m A (fix n B k 1)).ending))
      × (hull n (propagate budget n m A (fix n B k 0)).box (propagate budget n m A (fix n B k 1)).box ≡ B)

  side-ends : (v : ℕ) → v < 2 → Ends n m A (fix n B k v) (propagate budget n m A (fix n B k v))
  unfolding EnoughPasses
  side-ends v b =
      let i : width n (fix n B k v) ≤ℤ width n B = width-mono (fix-inside k v f b) in
      propagate-ends budget n m A (fix n B k v) h (fix-non_empty k v p) (omega zarith)

  side-greatest : (v : ℕ) → v < 2 → {Q : List ℤ} → GreatestFixpoint n m A (fix n B k v) Q
      → T (not (is_none (propagate budget n m A (fix n B k v)).ending)) × ((propagate budget n m A (fix n B k v)).box ≡ Q)
  unfolding UniqueGreatest
  side-greatest v b {Q} g =
      let e = side-ends v b in
      let t = not_T (is_none (propagate budget n m A (fix n B k v)).ending) (λ t. e.none t Q g.fixpoint g.inside) in
      (t, greatest-unique n m A (fix n B k v) _ Q (e.greatest t) g)

  pub span-iff : Spanned ↔ SidesSpan n m A B k
  span-iff = (
    (λ s. record {
      q0 = (propagate budget n m A (fix n B k 0)).box;
      q1 = (propagate budget n m A (fix n B k 1)).box;
      greatest0 = (side-ends 0 (omega arith)).greatest s.0;
      greatest1 = (side-ends 1 (omega arith)).greatest s.1;
      span = s.2;
    }),
    (λ s. let a = side-greatest 0 (omega arith) s.greatest0 in
        let b = side-greatest 1 (omega arith) s.greatest1 in
        (a.0, b.0, ap₂ (hull n) a.1 b.1 ∙ s.span)),
  )

  -- a probe with that budget answers Both and leaves the box exactly then
  pub both_iff : (t : List ℕ) → let r = probe k budget n m A B t in (((a : ℕ) × (r.ending ≡ both_feasible a)) × (r.box ≡ B)) ↔ Spanned
  both_iff t = probe-ind k budget n m A B t (λ r. (((a : ℕ) × (r.ending ≡ both_feasible a)) × (r.box ≡ B)) ↔ Spanned)
      (λ e. absurd (T_not (is_empty n B) (false→T (is_empty n B) (non_empty-isn't h p)) e))
      (λ _ x _. ((λ q. absurd (not-both infeasible q.0 tt)), (λ s. absurd (T_not (is_none (propagate budget n m A (fix n B k 0)).ending) s.0 x))))
      (λ _ x _. ((λ q. absurd (not-both (fixed 1) q.0 tt)), (λ s. absurd (T_not (is_none (propagate budget n m A (fix n B k 0)).ending) s.0 x))))
      (λ _ _ y. ((λ q. absurd (not-both (fixed 0) q.0 tt)), (λ s. absurd (T_not (is_none (propagate budget n m A (fix n B k 1)).ending) s.1 y))))
      (λ _ x y. ((λ q. (x, y, q.1)), (λ s. ((_, refl), s.2))))

-- a side that is not None has its variable fixed, so it is not the box
pub side-moves : (n m : ℕ) (A : Rows) (B : List ℤ) (k : ℕ) → k < n → T (is_free B k) → (budget v : ℕ)
    → T (not (is_none (propagate budget n m A (fix n B k v)).ending)) → (propagate budget n m A (fix n B k v)).box ≢ B
side-moves n m A B k kn f budget v x e =
    let a = at-fix B k v kn (rw e at (propagate-shrinks n m A budget (fix n B k v) x)) in
    let l = free-lower B k f in
    let g = free-upper B k f in
    omega zarith

-- a probe with the largest budget of a free variable whose sides fail the test changes the box
module _ (n m : ℕ) (A : Rows) (B : List ℤ) (h : 0 < n) (p : NonEmpty n B) (w : width n B <ℤ pos max_budget) (k : ℕ) (t : List ℕ) (kn : k < n) (f : T (is_free B k)) where
  pub probe-moves : (SidesSpan n m A B k → ⊥) → (probe k max_budget n m A B t).box ≢ B
  probe-moves u = probe-ind k max_budget n m A B t (λ r. r.box ≢ B)
      (λ e. absurd (T_not (is_empty n B) (false→T (is_empty n B) (non_empty-isn't h p)) e))
      (λ _ _ _ e. not-in-empty n B h p (rw e (inside-refl n B)))
      (λ _ _ y. side-moves n m A B k kn f max_budget 1 y)
      (λ _ x _. side-moves n m A B k kn f max_budget 0 x)
      (λ _ x y e. u ((span-iff max_budget n m A B h p w k f).0 (x, y, e)))

-- ---- the test of the rest call

same_list-test : (a b : List ℤ) → T (same_list a b) ↔ (a ≡ b)
same_list-test a b = (same_list→eq a b, (λ e. rw e (same_list-refl b)))

pub implies-test : (a b : Bool) {P : Type 0} → (T a → T b ↔ P) → T (not a || b) ↔ (T a → P)
implies-test true b d = ((λ t _. (d tt).0 t), (λ g. (d tt).1 (g tt)))
implies-test false b d = ((λ _ z. absurd z), (λ _. tt))

module _ (n m : ℕ) (A : Rows) (B : List ℤ) where
  pub fixpoint-test : NonEmpty n B → T (is_fixpoint n m A B) ↔ Fixpoint n m A B
  unfolding is_fixpoint
  fixpoint-test p =
      let d = all-test m (λ i. same_list (propagate_row_of n (row_at n A i) B).box B) (λ i. same_list-test (propagate_row_of n (row_at n A i) B).box B) in
      ((λ t. record { non_empty = p; same = d.0 t }), (λ q. d.1 q.same))

  module _ (h : 0 < n) (p : NonEmpty n B) (w : width n B <ℤ pos max_budget) where
    pub span-test : (k : ℕ) → T (is_free B k) → T (sides_span n m A B k) ↔ SidesSpan n m A B k
    unfolding sides_span
    span-test k f =
        let a = not (is_none (propagate max_budget n m A (fix n B k 0)).ending) in
        let b = not (is_none (propagate max_budget n m A (fix n B k 1)).ending) in
        let H = hull n (propagate max_budget n m A (fix n B k 0)).box (propagate max_budget n m A (fix n B k 1)).box in
        let d = all_three a b (same_list H B) ((λ t. t), (λ t. t)) ((λ t. t), (λ t. t)) (same_list-test H B) in
        let e = span-iff max_budget n m A B h p w k f in
        ((λ t. e.0 (d.0 t)), (λ s. d.1 (e.1 s)))

    spans-test : T (all n (λ k. not (is_free B k) || sides_span n m A B k)) ↔ ((k : ℕ) → k < n → T (is_free B k) → SidesSpan n m A B k)
    spans-test = all-test n _ (λ k. implies-test (is_free B k) (sides_span n m A B k) (span-test k))

    probed-test : T (is_fixpoint n m A B && all n (λ k. not (is_free B k) || sides_span n m A B k)) ↔ ProbedFixpoint n m A B
    probed-test =
        let d = both (is_fixpoint n m A B) (all n (λ k. not (is_free B k) || sides_span n m A B k)) (fixpoint-test p) spans-test in
        ((λ t. let q = d.0 t in record { fixpoint = q.0; spans = q.1 }), (λ q. d.1 (q.fixpoint, q.spans)))

pub rest-test : RestIsTested
unfolding RestIsTested LargestBudget ProbingFixpoint is_probing_fixpoint
rest-test s v = (
  (λ t. ⊎_elim (λ e. inl (is_empty→eq s.model.n s.model.box e)) (λ u. not-empty u v.box.shape) (or_cases E X t)),
  ⊎_elim (λ e. or_inl E X (true→T E (empty-is s.model.n s.model.box e))) (λ q. or_inr E X ((test q.fixpoint.non_empty).1 q)),
)
  where
    E : Bool
    E = is_empty s.model.n s.model.box

    X : Bool
    X = is_fixpoint s.model.n s.model.m s.model.rows s.model.box
        && all s.model.n (λ k. not (is_free s.model.box k) || sides_span s.model.n s.model.m s.model.rows s.model.box k)

    test : NonEmpty s.model.n s.model.box → T X ↔ ProbedFixpoint s.model.n s.model.m s.model.rows s.model.box
    test p = probed-test s.model.n s.model.m s.model.rows s.model.box v.some p (width-limit s.model v).1

    not-empty : T X → (s.model.box ≡ empty_box s.model.n) ⊎ NonEmpty s.model.n s.model.box
        → (s.model.box ≡ empty_box s.model.n) ⊎ ProbedFixpoint s.model.n s.model.m s.model.rows s.model.box
    not-empty u (inl e) = inl e
    not-empty u (inr p) = inr ((test p).0 u)

-- ---- rest in the demand's own words

module _ (s : State) (v : ValidModel s.model) where
  both_rest : (p : NonEmpty s.model.n s.model.box) (k : ℕ) → T (is_free s.model.box k)
      → let r = probe k max_budget s.model.n s.model.m s.model.rows s.model.box s.table in
      (((a : ℕ) × (r.ending ≡ both_feasible a)) × (r.box ≡ s.model.box)) ↔ SidesSpan s.model.n s.model.m s.model.rows s.model.box k
  unfolding LargestBudget
  both_rest p k f =
      let w = (width-limit s.model v).1 in
      let d = both_iff max_budget s.model.n s.model.m s.model.rows s.model.box v.some p w k f s.table in
      let e = span-iff max_budget s.model.n s.model.m s.model.rows s.model.box v.some p w k f in
      ((λ q. e.0 (d.0 q)), (λ q. d.1 (e.1 q)))

  rest→nothing-moves : ProbedFixpoint s.model.n s.model.m s.model.rows s.model.box → NothingMoves s
  rest→nothing-moves q = let p = q.fixpoint.non_empty in record {
    non_empty = p;
    rows_leave = λ i im. ap (λ (r : PropagatedRow). r.outcome) (kinded-stays (row_at s.model.n s.model.rows i) v.some p (q.fixpoint.same i im));
    both_sides = λ k kn f. ((both_rest p k f).1 (q.spans k kn f)).0;
    probes_leave = λ k kn f. ((both_rest p k f).1 (q.spans k kn f)).1;
  }

  nothing-moves→rest : NothingMoves s → ProbedFixpoint s.model.n s.model.m s.model.rows s.model.box
  unfolding is_infeasible is_changed
  nothing-moves→rest q = let p = q.non_empty in record {
    fixpoint = record {
      non_empty = p;
      same = λ i im. kinded-unchanged (row_at s.model.n s.model.rows i) p (rw (q.rows_leave i im) tt) (rw (q.rows_leave i im) tt);
    };
    spans = λ k kn f. (both_rest p k f).0 (q.both_sides k kn f, q.probes_leave k kn f);
  }

pub rest-in-own-words : RestInOwnWords
unfolding RestInOwnWords ProbingFixpoint
rest-in-own-words s v = (
  ⊎_elim (λ e. inl e) (λ q. inr (rest→nothing-moves s v q)),
  ⊎_elim (λ e. inl e) (λ q. inr (nothing-moves→rest s v q)),
)
