-- Laws of a probe: it shrinks the box, keeps every probed fixpoint inside and keeps within the limits; its endings and its sides.
use Prim.Native.Nat.{◌<◌, ◌≤◌, ℕ}
use lib.Dec.{T, T_not, eqb, eqb_refl, eqb→eq}
use lib.IntN.{pos, ℤ}
use lib.Signed.{◌<ℤ◌, ◌≤ℤ◌, ≤ℤ_refl}
use mathlib.Core.Bool.{Bool, ◌||◌, cond, false, not, true}
use mathlib.Core.List.{List}
use mathlib.Core.Logic.{◌↔◌, ◌⊎◌, inl, inr, ⊎_elim}
use mathlib.Core.Path.{◌≡◌, refl, subst}
use native.Mathlib.Omega.{arith}
use Rattle.integer.proofs.Parts.{zarith}
use Rattle.integer.proofs.Tests.{T→true, cond_ind, decide, lt-or-ge, or_r}
use Rattle.model.specs.Box.{Inside, NonEmpty, empty_box, is_empty, is_free, lower, upper}
use Rattle.model.specs.Rows.{Rows}
use Rattle.model.specs.Valid.{ValidBox, ValidTable}
use Rattle.model.proofs.BoxLaws.{box_of-inside, free-i, free-lower, free-upper, hull-inside, hull-non_empty, in-hull-left, in-hull-right, inside-box_of, inside-refl, inside-trans, is_empty_empty, is_empty→eq, non_empty-box_of, not-in-empty, ≤ℤ-trans}
use Rattle.row.proofs.ImpliedBoxLaws.{valid-empty, valid-inside, valid-non_empty}
use Rattle.semantics.specs.Probe.{Probed, both_feasible, fix, fixed, hull, infeasible, join_sides, probe, record_to, side_of}
use Rattle.semantics.specs.Propagate.{Propagated, is_none, propagate}
use Rattle.semantics.specs.Run.{probe_infeasible}
use Rattle.call_laws.specs.Fixpoint.{Fixpoint, ProbedFixpoint, SidesSpan}
use Rattle.call_laws.proofs.ImplicationLaws.{record_to-valid}
use Rattle.call_laws.proofs.PropagateLaws.{propagate-infeasible-box, propagate-inside, propagate-keeps, propagate-non_empty, propagate-passes, propagate-shrinks}

-- ---- one variable set to a value

pub in-fix : (k v : ℕ) {n : ℕ} {B Q : List ℤ} → Inside n Q B → pos v ≤ℤ lower Q k → upper Q k ≤ℤ pos v → Inside n Q (fix n B k v)
unfolding fix
in-fix k v {n} {B} {Q} i l u = inside-box_of n Q _ _
    (λ j h. cond_ind (eqb j k) (pos v) (lower B j) (λ z. z ≤ℤ lower Q j) (λ t. rw (eqb→eq j k t) l) (λ _. i.low j h))
    (λ j h. cond_ind (eqb j k) (pos v) (upper B j) (λ z. upper Q j ≤ℤ z) (λ t. rw (eqb→eq j k t) u) (λ _. i.high j h))

pub of-fix : (k v : ℕ) {n : ℕ} {B Q : List ℤ} → lower B k ≤ℤ pos v → pos v ≤ℤ upper B k → Inside n Q (fix n B k v) → Inside n Q B
unfolding fix
of-fix k v {n} {B} {Q} l u i = record {
  low = λ j h. ≤ℤ-trans
      (cond_ind (eqb j k) (pos v) (lower B j) (λ z. lower B j ≤ℤ z) (λ t. rw (eqb→eq j k t) l) (λ _. ≤ℤ_refl (lower B j)))
      (box_of-inside n Q _ _ i j h).0;
  high = λ j h. ≤ℤ-trans (box_of-inside n Q _ _ i j h).1
      (cond_ind (eqb j k) (pos v) (upper B j) (λ z. z ≤ℤ upper B j) (λ t. rw (eqb→eq j k t) u) (λ _. ≤ℤ_refl (upper B j)));
}

pub at-fix : (B : List ℤ) (k v : ℕ) {n : ℕ} {Q : List ℤ} → k < n → Inside n Q (fix n B k v) → (pos v ≤ℤ lower Q k) × (upper Q k ≤ℤ pos v)
unfolding fix
at-fix B k v {n} {Q} h i =
    let o = box_of-inside n Q _ _ i k h in
    let e : eqb k k ≡ true = T→true (eqb k k) (eqb_refl k) in
    (rw e at o.0, rw e at o.1)

pub fix-non_empty : (k v : ℕ) {n : ℕ} {B : List ℤ} → NonEmpty n B → NonEmpty n (fix n B k v)
unfolding fix
fix-non_empty k v {n} {B} p = non_empty-box_of n _ _ (λ j q. both (eqb j k) j q)
  where
    both : (c : Bool) (j : ℕ) → j < n → cond c (pos v) (lower B j) ≤ℤ cond c (pos v) (upper B j)
    both true j q = ≤ℤ_refl (pos v)
    both false j q = p.order j q

-- of a free variable, set to 0 or 1
module _ (k v : ℕ) {n : ℕ} {B : List ℤ} (f : T (is_free B k)) (b : v < 2) where
  pub of-fix-free : {Q : List ℤ} → Inside n Q (fix n B k v) → Inside n Q B
  of-fix-free i = let l = free-lower B k f in let u = free-upper B k f in of-fix k v (omega zarith) (omega zarith) i

  pub fix-inside : Inside n (fix n B k v) B
  fix-inside = of-fix-free (inside-refl n (fix n B k v))

  pub fix-valid : ValidBox n B → NonEmpty n B → ValidBox n (fix n B k v)
  fix-valid w p = valid-inside w (fix-non_empty k v p) fix-inside

-- ---- the smallest box that contains two

module _ {n : ℕ} {P P' : List ℤ} where
  pub hull-valid : {B : List ℤ} → ValidBox n B → NonEmpty n P → NonEmpty n P' → Inside n P B → Inside n P' B → ValidBox n (hull n P P')
  hull-valid v p q i j = valid-inside v (hull-non_empty p q) (hull-inside i j)

-- ---- the five cases

module _ (k budget n m : ℕ) (A : Rows) (B : List ℤ) (t : List ℕ) where
  abbrev S : ℕ → Propagated
  S v = propagate budget n m A (fix n B k v)

  pub probe-ind : (P : Probed → Type 0)
      → (T (is_empty n B) → P (record {
        ending = infeasible;
        side0 = record { passes = 0; spent = false; moved = 0 };
        side1 = record { passes = 0; spent = false; moved = 0 };
        box = B;
        table = t;
      }))
      → (T (not (is_empty n B)) → T (is_none (S 0).ending) → T (is_none (S 1).ending)
      → P (record { ending = infeasible; side0 = side_of (S 0); side1 = side_of (S 1); box = empty_box n; table = t }))
      → (T (not (is_empty n B)) → T (is_none (S 0).ending) → T (not (is_none (S 1).ending))
      → P (record { ending = fixed 1; side0 = side_of (S 0); side1 = side_of (S 1); box = (S 1).box; table = t }))
      → (T (not (is_empty n B)) → T (not (is_none (S 0).ending)) → T (is_none (S 1).ending)
      → P (record { ending = fixed 0; side0 = side_of (S 0); side1 = side_of (S 1); box = (S 0).box; table = t }))
      → (T (not (is_empty n B)) → T (not (is_none (S 0).ending)) → T (not (is_none (S 1).ending))
      → P (record {
        ending = both_feasible (record_to n n k B (S 0).box (S 1).box t).added;
        side0 = side_of (S 0);
        side1 = side_of (S 1);
        box = hull n (S 0).box (S 1).box;
        table = (record_to n n k B (S 0).box (S 1).box t).bytes;
      }))
      → P (probe k budget n m A B t)
  unfolding probe join_sides
  probe-ind P a b c d e = cond_ind (is_empty n B) _ _ P a
      (λ v. cond_ind (is_none (S 0).ending) _ _ P
      (λ x. cond_ind (is_none (S 1).ending) _ _ P (b v x) (c v x))
      (λ x. cond_ind (is_none (S 1).ending) _ _ P (d v x) (e v x)))

pub probe-empty : (k budget n m : ℕ) (A : Rows) (t : List ℕ) → probe k budget n m A (empty_box n) t ≡ record {
  ending = infeasible;
  side0 = record { passes = 0; spent = false; moved = 0 };
  side1 = record { passes = 0; spent = false; moved = 0 };
  box = empty_box n;
  table = t;
}
unfolding probe
probe-empty k budget n m A t = rw (T→true (is_empty n (empty_box n)) (is_empty_empty n))

-- ---- the sides

module _ (k budget n m : ℕ) (A : Rows) (B : List ℤ) (t : List ℕ) (e : T (not (is_empty n B))) where
  pub probe-side0 : (probe k budget n m A B t).side0 ≡ side_of (propagate budget n m A (fix n B k 0))
  probe-side0 = probe-ind k budget n m A B t (λ r. r.side0 ≡ side_of (propagate budget n m A (fix n B k 0)))
      (λ u. absurd (T_not (is_empty n B) e u)) (λ _ _ _. refl) (λ _ _ _. refl) (λ _ _ _. refl) (λ _ _ _. refl)

  pub probe-side1 : (probe k budget n m A B t).side1 ≡ side_of (propagate budget n m A (fix n B k 1))
  probe-side1 = probe-ind k budget n m A B t (λ r. r.side1 ≡ side_of (propagate budget n m A (fix n B k 1)))
      (λ u. absurd (T_not (is_empty n B) e u)) (λ _ _ _. refl) (λ _ _ _. refl) (λ _ _ _. refl) (λ _ _ _. refl)

  pub probe-passes0 : 1 ≤ budget → (1 ≤ (probe k budget n m A B t).side0.passes) × ((probe k budget n m A B t).side0.passes ≤ budget)
  unfolding side_of
  probe-passes0 h = rw probe-side0 (propagate-passes n m A budget (fix n B k 0) h)

  pub probe-passes1 : 1 ≤ budget → (1 ≤ (probe k budget n m A B t).side1.passes) × ((probe k budget n m A B t).side1.passes ≤ budget)
  unfolding side_of
  probe-passes1 h = rw probe-side1 (propagate-passes n m A budget (fix n B k 1) h)

-- ---- what is inside; a call that is accepted finds k free or the box empty

module _ (k budget m : ℕ) (A : Rows) (t : List ℕ) {n : ℕ} {B : List ℤ} (f : T (is_empty n B || is_free B k)) where
  -- a side that is not infeasible
  side-narrower : (v : ℕ) → v < 2 → NonEmpty n B → T (not (is_empty n B)) → T (not (is_none (propagate budget n m A (fix n B k v)).ending))
      → NonEmpty n (propagate budget n m A (fix n B k v)).box × Inside n (propagate budget n m A (fix n B k v)).box B
  side-narrower v b p w x = (
    propagate-non_empty m A budget (fix-non_empty k v p) x,
    of-fix-free k v (or_r (is_empty n B) (is_free B k) f w) b (propagate-shrinks n m A budget (fix n B k v) x),
  )

  pub probe-inside : {Q : List ℤ} → 0 < n → NonEmpty n Q → Inside n Q (probe k budget n m A B t).box → Inside n Q B
  probe-inside {Q} h p = probe-ind k budget n m A B t (λ r. Inside n Q r.box → Inside n Q B)
      (λ _ i. i)
      (λ _ _ _ i. absurd (not-in-empty n Q h p i))
      (λ w _ _ i. from 1 (omega arith) w (propagate-inside m A budget (fix n B k 1) h p i))
      (λ w _ _ i. from 0 (omega arith) w (propagate-inside m A budget (fix n B k 0) h p i))
      (λ w x y i. inside-trans i (hull-inside
      (from 0 (omega arith) w (propagate-shrinks n m A budget (fix n B k 0) x))
      (from 1 (omega arith) w (propagate-shrinks n m A budget (fix n B k 1) y))))
    where
      from : (v : ℕ) → v < 2 → T (not (is_empty n B)) → {P : List ℤ} → Inside n P (fix n B k v) → Inside n P B
      from v b w i = of-fix-free k v (or_r (is_empty n B) (is_free B k) f w) b i

  -- the new box is empty, or it is not and lies inside the old one
  pub probe-narrower : NonEmpty n B → let P = (probe k budget n m A B t).box in (P ≡ empty_box n) ⊎ (NonEmpty n P × Inside n P B)
  probe-narrower p = probe-ind k budget n m A B t (λ r. (r.box ≡ empty_box n) ⊎ (NonEmpty n r.box × Inside n r.box B))
      (λ w. inl (is_empty→eq n B w))
      (λ _ _ _. inl refl)
      (λ w _ y. inr (side-narrower 1 (omega arith) p w y))
      (λ w x _. inr (side-narrower 0 (omega arith) p w x))
      (λ w x y. let a = side-narrower 0 (omega arith) p w x in let b = side-narrower 1 (omega arith) p w y in
      inr (hull-non_empty a.0 b.0, hull-inside a.1 b.1))

  pub probe-valid : ValidBox n B → ValidBox n (probe k budget n m A B t).box
  probe-valid v = cases v.shape
    where
      cases : (B ≡ empty_box n) ⊎ NonEmpty n B → ValidBox n (probe k budget n m A B t).box
      cases (inl e) = rw (e, probe-empty k budget n m A t) (valid-empty n)
      cases (inr p) = ⊎_elim (λ e. rw e (valid-empty n)) (λ q. valid-inside v q.0 q.1) (probe-narrower p)

  pub probe-infeasible-iff : 0 < n → ValidBox n B
      → T (probe_infeasible (probe k budget n m A B t).ending) ↔ ((probe k budget n m A B t).box ≡ empty_box n)
  unfolding probe_infeasible
  probe-infeasible-iff h v = probe-ind k budget n m A B t (λ r. T (probe_infeasible r.ending) ↔ (r.box ≡ empty_box n))
      (λ w. ((λ _. is_empty→eq n B w), (λ _. tt)))
      (λ _ _ _. ((λ _. refl), (λ _. tt)))
      (λ w _ y. ((λ z. absurd z), not-empty (side 1 (omega arith) w y)))
      (λ w x _. ((λ z. absurd z), not-empty (side 0 (omega arith) w x)))
      (λ w x y. ((λ z. absurd z), not-empty (hull-non_empty (side 0 (omega arith) w x) (side 1 (omega arith) w y))))
    where
      side : (b : ℕ) → b < 2 → T (not (is_empty n B)) → T (not (is_none (propagate budget n m A (fix n B k b)).ending))
          → NonEmpty n (propagate budget n m A (fix n B k b)).box
      side b l w x = (side-narrower b l (valid-non_empty v w) w x).0

      not-empty : {P : List ℤ} → NonEmpty n P → P ≡ empty_box n → ⊥
      not-empty {P} p e = not-in-empty n P h p (rw e (inside-refl n (empty_box n)))

-- ---- a probed fixpoint inside stays inside

-- from 0 to 1, a variable is free, or 0, or 1
zero_one : (Q : List ℤ) (k : ℕ) → pos 0 ≤ℤ lower Q k → upper Q k ≤ℤ pos 1
    → T (is_free Q k) ⊎ ((pos 0 ≤ℤ lower Q k) × (upper Q k ≤ℤ pos 0)) ⊎ ((pos 1 ≤ℤ lower Q k) × (upper Q k ≤ℤ pos 1))
zero_one Q k a b = cases (lt-or-ge (pos 0) (upper Q k)) (lt-or-ge (lower Q k) (pos 1))
  where
    cases : (pos 0 <ℤ upper Q k) ⊎ (upper Q k ≤ℤ pos 0) → (lower Q k <ℤ pos 1) ⊎ (pos 1 ≤ℤ lower Q k)
        → T (is_free Q k) ⊎ ((pos 0 ≤ℤ lower Q k) × (upper Q k ≤ℤ pos 0)) ⊎ ((pos 1 ≤ℤ lower Q k) × (upper Q k ≤ℤ pos 1))
    cases (inr u) c = inr (inl (a, u))
    cases (inl u) (inr l) = inr (inr (l, b))
    cases (inl u) (inl l) = inl (free-i Q k (omega zarith) (omega zarith))

module _ (k budget : ℕ) (t : List ℕ) {n m : ℕ} {A : Rows} {B Q : List ℤ} (h : 0 < n) (kn : k < n) (f : T (is_empty n B || is_free B k))
    (q : ProbedFixpoint n m A Q) (i : Inside n Q B) where
  feasible : (v : ℕ) {P : List ℤ} → NonEmpty n P → Inside n P (propagate budget n m A (fix n B k v)).box
      → T (is_none (propagate budget n m A (fix n B k v)).ending) → ⊥
  feasible v {P} p j x = not-in-empty n P h p (rw (propagate-infeasible-box n m A budget (fix n B k v) x) at j)

  keeps0 : Inside n Q (propagate budget n m A (fix n B k 0)).box → Inside n Q (probe k budget n m A B t).box
  keeps0 j = probe-ind k budget n m A B t (λ r. Inside n Q r.box)
      (λ _. i)
      (λ _ x _. absurd (feasible 0 q.fixpoint.non_empty j x))
      (λ _ x _. absurd (feasible 0 q.fixpoint.non_empty j x))
      (λ _ _ _. j)
      (λ _ _ _. in-hull-left _ j)

  keeps1 : Inside n Q (propagate budget n m A (fix n B k 1)).box → Inside n Q (probe k budget n m A B t).box
  keeps1 j = probe-ind k budget n m A B t (λ r. Inside n Q r.box)
      (λ _. i)
      (λ _ _ y. absurd (feasible 1 q.fixpoint.non_empty j y))
      (λ _ _ _. j)
      (λ _ _ y. absurd (feasible 1 q.fixpoint.non_empty j y))
      (λ _ _ _. in-hull-right _ j)

  -- a fixpoint inside B on which k is v is inside side v
  on-side : (v : ℕ) {P : List ℤ} → Fixpoint n m A P → Inside n P B → pos v ≤ℤ lower P k → upper P k ≤ℤ pos v
      → Inside n P (propagate budget n m A (fix n B k v)).box
  on-side v p j l u = propagate-keeps h p budget (in-fix k v j l u)

  keeps-span : T (is_free Q k) → SidesSpan n m A Q k → Inside n Q (probe k budget n m A B t).box
  keeps-span g s = probe-ind k budget n m A B t (λ r. Inside n Q r.box)
      (λ _. i)
      (λ _ x _. absurd (feasible 0 s.greatest0.fixpoint.non_empty in0 x))
      (λ _ x _. absurd (feasible 0 s.greatest0.fixpoint.non_empty in0 x))
      (λ _ _ y. absurd (feasible 1 s.greatest1.fixpoint.non_empty in1 y))
      (λ _ _ _. rw (← s.span) (hull-inside (in-hull-left _ in0) (in-hull-right _ in1)))
    where
      whole : (v : ℕ) → v < 2 → {P : List ℤ} → Fixpoint n m A P → Inside n P (fix n Q k v) → Inside n P (propagate budget n m A (fix n B k v)).box
      whole v b p j = let a = at-fix Q k v kn j in on-side v p (inside-trans (of-fix-free k v g b j) i) a.0 a.1

      in0 : Inside n s.q0 (propagate budget n m A (fix n B k 0)).box
      in0 = whole 0 (omega arith) s.greatest0.fixpoint s.greatest0.inside

      in1 : Inside n s.q1 (propagate budget n m A (fix n B k 1)).box
      in1 = whole 1 (omega arith) s.greatest1.fixpoint s.greatest1.inside

  pub probe-keeps : Inside n Q (probe k budget n m A B t).box
  probe-keeps = ⊎_elim at_rest free (decide (is_empty n B))
    where
      at_rest : T (is_empty n B) → Inside n Q (probe k budget n m A B t).box
      at_rest e = absurd (not-in-empty n Q h q.fixpoint.non_empty (subst (Inside n Q) (is_empty→eq n B e) i))

      cases : T (is_free Q k) ⊎ ((pos 0 ≤ℤ lower Q k) × (upper Q k ≤ℤ pos 0)) ⊎ ((pos 1 ≤ℤ lower Q k) × (upper Q k ≤ℤ pos 1))
          → Inside n Q (probe k budget n m A B t).box
      cases (inl g) = keeps-span g (q.spans k kn g)
      cases (inr (inl z)) = keeps0 (on-side 0 q.fixpoint i z.0 z.1)
      cases (inr (inr z)) = keeps1 (on-side 1 q.fixpoint i z.0 z.1)

      free : T (not (is_empty n B)) → Inside n Q (probe k budget n m A B t).box
      free w =
          let g = or_r (is_empty n B) (is_free B k) f w in
          let bl = free-lower B k g in
          let bu = free-upper B k g in
          let il = i.low k kn in
          let iu = i.high k kn in
          cases (zero_one Q k (omega zarith) (omega zarith))

-- ---- the table keeps its length, and its bytes are 0 or 1

pub probe-table-valid : (k budget m : ℕ) (A : Rows) (B : List ℤ) {n : ℕ} {t : List ℕ} → k < n → ValidTable n t → ValidTable n (probe k budget n m A B t).table
probe-table-valid k budget m A B {n} {t} h v = probe-ind k budget n m A B t (λ r. ValidTable n r.table)
    (λ _. v) (λ _ _ _. v) (λ _ _ _. v) (λ _ _ _. v) (λ _ _ _. record_to-valid n k B _ _ t h v)
