-- Laws of propagation: it shrinks the box, keeps every fixpoint inside and keeps within the limits; its endings, its passes and how
-- many bounds it moved.
use Prim.Native.Nat.{◌+◌, ◌<◌, ◌≤◌, suc, zero, ℕ}
use lib.Dec.{T, T_not, lt→ltb, ltb, ltb→lt, nltb→le}
use lib.IntN.{◌+ℤ◌, pos, ℤ}
use lib.Signed.{◌≤ℤ◌}
use mathlib.Core.Bool.{◌&&◌, false, not}
use mathlib.Core.List.{List}
use mathlib.Core.Logic.{◌↔◌, ◌⊎◌, inl, inr, ⊎_elim}
use mathlib.Core.Path.{◌∙◌, ◌≡◌, ap, refl, sym}
use native.Mathlib.Decide.{ℕ_discrete}
use native.Mathlib.Numerals.{add-one}
use native.Mathlib.Omega.{arith}
use Rattle.integer.proofs.Parts.{zarith, zify}
use Rattle.integer.proofs.Tests.{T→false, T→true, cond_ind, decide}
use Rattle.model.specs.Box.{Inside, NonEmpty, at, empty_box, is_empty, width}
use Rattle.model.specs.Rows.{Rows, row_at}
use Rattle.model.specs.Valid.{ValidBox}
use Rattle.model.proofs.BoxLaws.{inside-refl, inside-trans, is_empty_empty, is_empty→eq, not-in-empty}
use Rattle.row.specs.Kinds.{propagate_row_of}
use Rattle.row.specs.Outcome.{is_infeasible}
use Rattle.row.proofs.KindLaws.{kinded-infeasible-box, kinded-infeasible-moved, kinded-inside, kinded-monotone, kinded-non_empty, kinded-shrinks, kinded-valid}
use Rattle.row.proofs.KindMovedLaws.{kinded-moved-none, kinded-moved-width}
use Rattle.row.proofs.Width.{width-nonneg}
use Rattle.semantics.specs.FixpointTest.{first_moving, is_fixpoint, row_leaves}
use Rattle.semantics.specs.Propagate.{Ending, Pass, Propagated, budget_spent, converged, infeasible, is_none, is_spent, last_look, pass_row, pass_to, propagate, propagate_from}
use Rattle.call_laws.specs.Fixpoint.{Fixpoint}
use Rattle.call_laws.proofs.LowestLaws.{lowest-none}

-- ---- a pass, row by row

module _ (n i : ℕ) (A : Rows) (B : List ℤ) where
  -- the two cases of one row more
  pub pass-ind : (P : Pass → Type 0)
      → (T (pass_to n i A B).ended → P (pass_to n i A B))
      → (T (not (pass_to n i A B).ended) → let v = propagate_row_of n (row_at n A i) (pass_to n i A B).box in
      P (record { ended = is_infeasible v.outcome; moved = (pass_to n i A B).moved + v.moved; box = v.box }))
      → P (pass_to n (suc i) A B)
  unfolding pass_to pass_row
  pass-ind P f g = cond_ind (pass_to n i A B).ended _ _ P f g

  pub pass-next : T (not (pass_to n i A B).ended) → let v = propagate_row_of n (row_at n A i) (pass_to n i A B).box in
      pass_to n (i + 1) A B ≡ record { ended = is_infeasible v.outcome; moved = (pass_to n i A B).moved + v.moved; box = v.box }
  unfolding pass_to pass_row
  pass-next t = rw (add-one, T→false (pass_to n i A B).ended t)

-- what ended stays
pub pass-ended : (n i : ℕ) (A : Rows) (B : List ℤ) (k : ℕ) → i ≤ k → T (pass_to n i A B).ended → pass_to n k A B ≡ pass_to n i A B
pass-ended n i A B zero h t = ap (λ (q : ℕ). pass_to n q A B) (let e : 0 ≡ i = omega arith in e)
pass-ended n i A B (suc k) h t = go (ℕ_discrete i (suc k)) (λ (q : i ≤ k). pass-ended n i A B k q t)
  where
    go : Dec (i ≡ suc k) → (i ≤ k → pass_to n k A B ≡ pass_to n i A B) → pass_to n (suc k) A B ≡ pass_to n i A B
    go (yes e) r = ap (λ (q : ℕ). pass_to n q A B) (sym e)
    go (no ne) r =
        let e = r (omega arith) in
        pass-ind n k A B (λ p. p ≡ pass_to n i A B) (λ _. e) (λ z. absurd (T_not (pass_to n k A B).ended z (rw e t)))

module _ (n : ℕ) (A : Rows) where
  pub pass-infeasible-box : (i : ℕ) (B : List ℤ) → T (pass_to n i A B).ended → (pass_to n i A B).box ≡ empty_box n
  unfolding pass_to
  pass-infeasible-box zero B = λ z. absurd z
  pass-infeasible-box (suc i) B = pass-ind n i A B (λ r. T r.ended → r.box ≡ empty_box n)
      (λ _. pass-infeasible-box i B)
      (λ _. kinded-infeasible-box n (row_at n A i) (pass_to n i A B).box)

  pub pass-shrinks : (i : ℕ) (B : List ℤ) → T (not (pass_to n i A B).ended) → Inside n (pass_to n i A B).box B
  unfolding pass_to
  pass-shrinks zero B = λ _. inside-refl n B
  pass-shrinks (suc i) B = pass-ind n i A B (λ r. T (not r.ended) → Inside n r.box B)
      (λ _. pass-shrinks i B)
      (λ t u. inside-trans (kinded-shrinks n (row_at n A i) (pass_to n i A B).box u) (pass-shrinks i B t))

module _ (A : Rows) {n : ℕ} where
  pub pass-inside : (i : ℕ) (B : List ℤ) {Q : List ℤ} → 0 < n → NonEmpty n Q → Inside n Q (pass_to n i A B).box → Inside n Q B
  unfolding pass_to
  pass-inside zero B h p = λ k. k
  pass-inside (suc i) B {Q} h p = pass-ind n i A B (λ r. Inside n Q r.box → Inside n Q B)
      (λ _. pass-inside i B h p)
      (λ _ k. pass-inside i B h p (kinded-inside (row_at n A i) (pass_to n i A B).box h p k))

  pub pass-non_empty : (i : ℕ) {B : List ℤ} → NonEmpty n B → T (not (pass_to n i A B).ended) → NonEmpty n (pass_to n i A B).box
  unfolding pass_to
  pass-non_empty zero p = λ _. p
  pass-non_empty (suc i) {B} p = pass-ind n i A B (λ r. T (not r.ended) → NonEmpty n r.box)
      (λ _. pass-non_empty i p)
      (λ t. kinded-non_empty (row_at n A i) (pass-non_empty i p t))

  pub pass-valid : (i : ℕ) {B : List ℤ} → ValidBox n B → ValidBox n (pass_to n i A B).box
  unfolding pass_to
  pass-valid zero v = v
  pass-valid (suc i) {B} v = pass-ind n i A B (λ r. ValidBox n r.box)
      (λ _. pass-valid i v) (λ _. kinded-valid (row_at n A i) (pass-valid i v))

-- a fixpoint inside stays inside
pub pass-keeps : {n m : ℕ} {A : Rows} {Q : List ℤ} → 0 < n → Fixpoint n m A Q → (i : ℕ) → i ≤ m → {B : List ℤ} → Inside n Q B
    → Inside n Q (pass_to n i A B).box
unfolding pass_to
pass-keeps h q zero l k = k
pass-keeps {n} {m} {A} {Q} h q (suc i) l {B} k =
    let r = pass-keeps h q i (omega arith) k in
    pass-ind n i A B (λ r. Inside n Q r.box)
    (λ _. r) (λ _. kinded-monotone (row_at n A i) h q.non_empty (q.same i l) r)

-- ---- pass by pass

module _ (left made sum n m : ℕ) (A : Rows) (B : List ℤ) where
  -- the three cases where a pass is left
  pub propagate_from-ind : (P : Propagated → Type 0)
      → (T (pass_to n m A B).ended
      → P (record { ending = infeasible; passes = suc made; moved = sum + (pass_to n m A B).moved; box = (pass_to n m A B).box }))
      → (T (not (pass_to n m A B).ended) → 0 < (pass_to n m A B).moved
      → P (propagate_from left (suc made) (sum + (pass_to n m A B).moved) n m A (pass_to n m A B).box))
      → (T (not (pass_to n m A B).ended) → (pass_to n m A B).moved ≡ 0
      → P (record { ending = converged; passes = suc made; moved = sum; box = (pass_to n m A B).box }))
      → P (propagate_from (suc left) made sum n m A B)
  unfolding propagate_from
  propagate_from-ind P f g h = cond_ind (pass_to n m A B).ended _ _ P f
      (λ t. cond_ind (ltb 0 (pass_to n m A B).moved) _ _ P
      (λ u. g t (ltb→lt 0 (pass_to n m A B).moved u)) (λ u. h t (omega (arith, nltb→le 0 (pass_to n m A B).moved u))))

  -- the same, where it is known which
  pub propagate-none-now : T (pass_to n m A B).ended
      → propagate_from (suc left) made sum n m A B
      ≡ record { ending = infeasible; passes = suc made; moved = sum + (pass_to n m A B).moved; box = (pass_to n m A B).box }
  propagate-none-now t =
      propagate_from-ind
      (λ r. r ≡ record { ending = infeasible; passes = suc made; moved = sum + (pass_to n m A B).moved; box = (pass_to n m A B).box })
      (λ _. refl) (λ u. absurd (T_not (pass_to n m A B).ended u t)) (λ u. absurd (T_not (pass_to n m A B).ended u t))

  pub propagate-again : T (not (pass_to n m A B).ended) → 0 < (pass_to n m A B).moved
      → propagate_from (suc left) made sum n m A B ≡ propagate_from left (suc made) (sum + (pass_to n m A B).moved) n m A (pass_to n m A B).box
  propagate-again t v =
      propagate_from-ind (λ r. r ≡ propagate_from left (suc made) (sum + (pass_to n m A B).moved) n m A (pass_to n m A B).box)
      (λ u. absurd (T_not (pass_to n m A B).ended t u)) (λ _ _. refl) (λ _ u. absurd (let z : ⊥ = omega arith in z))

  pub propagate-converged : T (not (pass_to n m A B).ended) → (pass_to n m A B).moved ≡ 0
      → propagate_from (suc left) made sum n m A B ≡ record { ending = converged; passes = suc made; moved = sum; box = (pass_to n m A B).box }
  propagate-converged t v =
      propagate_from-ind (λ r. r ≡ record { ending = converged; passes = suc made; moved = sum; box = (pass_to n m A B).box })
      (λ u. absurd (T_not (pass_to n m A B).ended t u)) (λ _ u. absurd (let z : ⊥ = omega arith in z)) (λ _ _. refl)

-- where none is left, a last look decides
pub propagate-out : (made sum n m : ℕ) (A : Rows) (B : List ℤ)
    → propagate_from 0 made sum n m A B ≡ record { ending = last_look n m A B; passes = made; moved = sum; box = B }
unfolding propagate_from
propagate-out made sum n m A B = refl

module _ (n m : ℕ) (A : Rows) (B : List ℤ) where
  -- its two cases
  pub look-ind : (P : Ending → Type 0) → (first_moving n m A B < m → P budget_spent) → (T (is_fixpoint n m A B) → P converged) → P (last_look n m A B)
  unfolding last_look first_moving is_fixpoint
  look-ind P f g = cond_ind (ltb (first_moving n m A B) m) _ _ P
      (λ t. f (ltb→lt (first_moving n m A B) m t)) (λ t. g ((lowest-none (row_leaves n A B) m).0 (nltb→le (first_moving n m A B) m t)))

  pub look-feasible : is_none (last_look n m A B) ≡ false
  unfolding is_none
  look-feasible = look-ind (λ e. is_none e ≡ false) (λ _. refl) (λ _. refl)

  -- the same, where it is known which
  pub look-spent : first_moving n m A B < m → last_look n m A B ≡ budget_spent
  unfolding last_look
  look-spent h = rw (T→true (ltb (first_moving n m A B) m) (lt→ltb (first_moving n m A B) m h))

  pub look-converged : m ≤ first_moving n m A B → last_look n m A B ≡ converged
  look-converged h = look-ind (λ e. e ≡ converged) (λ k. absurd (let z : ⊥ = omega arith in z)) (λ _. refl)

-- the two cases of the call
pub propagate-ind : (budget n m : ℕ) (A : Rows) (B : List ℤ) (P : Propagated → Type 0)
    → (T (is_empty n B) → P (record { ending = infeasible; passes = 1; moved = 0; box = B }))
    → (T (not (is_empty n B)) → P (propagate_from budget 0 0 n m A B))
    → P (propagate budget n m A B)
unfolding propagate
propagate-ind budget n m A B P f g = cond_ind (is_empty n B) _ _ P f g

pub propagate-empty : (budget n m : ℕ) (A : Rows)
    → propagate budget n m A (empty_box n) ≡ record { ending = infeasible; passes = 1; moved = 0; box = empty_box n }
unfolding propagate
propagate-empty budget n m A = rw (T→true (is_empty n (empty_box n)) (is_empty_empty n))

-- ---- what is inside

module _ (m : ℕ) (A : Rows) {n : ℕ} where
  propagate_from-inside : (left made sum : ℕ) (B : List ℤ) {Q : List ℤ} → 0 < n → NonEmpty n Q
      → Inside n Q (propagate_from left made sum n m A B).box → Inside n Q B
  unfolding propagate_from
  propagate_from-inside zero made sum B h p = λ k. k
  propagate_from-inside (suc left) made sum B {Q} h p =
      propagate_from-ind left made sum n m A B (λ r. Inside n Q r.box → Inside n Q B)
      (λ _. pass-inside A m B h p)
      (λ _ _ k. pass-inside A m B h p (propagate_from-inside left (suc made) (sum + (pass_to n m A B).moved) (pass_to n m A B).box h p k))
      (λ _ _. pass-inside A m B h p)

  -- what is inside the result was inside the given box
  pub propagate-inside : (budget : ℕ) (B : List ℤ) {Q : List ℤ} → 0 < n → NonEmpty n Q
      → Inside n Q (propagate budget n m A B).box → Inside n Q B
  propagate-inside budget B {Q} h p = propagate-ind budget n m A B (λ r. Inside n Q r.box → Inside n Q B)
      (λ _ k. k) (λ _. propagate_from-inside budget 0 0 B h p)

  propagate_from-non_empty : (left made sum : ℕ) {B : List ℤ} → NonEmpty n B → T (not (is_none (propagate_from left made sum n m A B).ending))
      → NonEmpty n (propagate_from left made sum n m A B).box
  unfolding propagate_from is_none
  propagate_from-non_empty zero made sum p = λ _. p
  propagate_from-non_empty (suc left) made sum {B} p =
      propagate_from-ind left made sum n m A B (λ r. T (not (is_none r.ending)) → NonEmpty n r.box)
      (λ _ z. absurd z)
      (λ t _. propagate_from-non_empty left (suc made) (sum + (pass_to n m A B).moved) (pass-non_empty A m p t))
      (λ t _ _. pass-non_empty A m p t)

  pub propagate-non_empty : (budget : ℕ) {B : List ℤ} → NonEmpty n B → T (not (is_none (propagate budget n m A B).ending))
      → NonEmpty n (propagate budget n m A B).box
  unfolding is_none
  propagate-non_empty budget {B} p = propagate-ind budget n m A B (λ r. T (not (is_none r.ending)) → NonEmpty n r.box)
      (λ _ z. absurd z) (λ _. propagate_from-non_empty budget 0 0 p)

  propagate_from-valid : (left made sum : ℕ) {B : List ℤ} → ValidBox n B → ValidBox n (propagate_from left made sum n m A B).box
  unfolding propagate_from
  propagate_from-valid zero made sum v = v
  propagate_from-valid (suc left) made sum {B} v = let p = pass-valid A m v in
      propagate_from-ind left made sum n m A B (λ r. ValidBox n r.box)
      (λ _. p) (λ _ _. propagate_from-valid left (suc made) (sum + (pass_to n m A B).moved) p) (λ _ _. p)

  pub propagate-valid : (budget : ℕ) {B : List ℤ} → ValidBox n B → ValidBox n (propagate budget n m A B).box
  propagate-valid budget {B} v = propagate-ind budget n m A B (λ r. ValidBox n r.box) (λ _. v) (λ _. propagate_from-valid budget 0 0 v)

module _ {n m : ℕ} {A : Rows} {Q : List ℤ} (h : 0 < n) (q : Fixpoint n m A Q) where
  propagate_from-keeps : (left made sum : ℕ) {B : List ℤ} → Inside n Q B → Inside n Q (propagate_from left made sum n m A B).box
  unfolding propagate_from
  propagate_from-keeps zero made sum k = k
  propagate_from-keeps (suc left) made sum {B} k =
      let p = pass-keeps h q m (omega arith) k in
      propagate_from-ind left made sum n m A B (λ r. Inside n Q r.box)
      (λ _. p) (λ _ _. propagate_from-keeps left (suc made) (sum + (pass_to n m A B).moved) p) (λ _ _. p)

  -- a fixpoint inside the given box is inside the result
  pub propagate-keeps : (budget : ℕ) {B : List ℤ} → Inside n Q B → Inside n Q (propagate budget n m A B).box
  propagate-keeps budget {B} k = propagate-ind budget n m A B (λ r. Inside n Q r.box) (λ _. k) (λ _. propagate_from-keeps budget 0 0 k)

-- ---- infeasible is the empty box; any other ending leaves a box inside

module _ (n m : ℕ) (A : Rows) where
  propagate_from-infeasible-box : (left made sum : ℕ) (B : List ℤ) → T (is_none (propagate_from left made sum n m A B).ending)
      → (propagate_from left made sum n m A B).box ≡ empty_box n
  unfolding propagate_from is_none
  propagate_from-infeasible-box zero made sum B = λ z. absurd (rw (look-feasible n m A B) at z)
  propagate_from-infeasible-box (suc left) made sum B =
      propagate_from-ind left made sum n m A B (λ r. T (is_none r.ending) → r.box ≡ empty_box n)
      (λ t _. pass-infeasible-box n A m B t)
      (λ _ _. propagate_from-infeasible-box left (suc made) (sum + (pass_to n m A B).moved) (pass_to n m A B).box)
      (λ _ _ z. absurd z)

  pub propagate-infeasible-box : (budget : ℕ) (B : List ℤ) → T (is_none (propagate budget n m A B).ending)
      → (propagate budget n m A B).box ≡ empty_box n
  propagate-infeasible-box budget B = propagate-ind budget n m A B (λ r. T (is_none r.ending) → r.box ≡ empty_box n)
      (λ t _. is_empty→eq n B t) (λ _. propagate_from-infeasible-box budget 0 0 B)

  propagate_from-shrinks : (left made sum : ℕ) (B : List ℤ) → T (not (is_none (propagate_from left made sum n m A B).ending))
      → Inside n (propagate_from left made sum n m A B).box B
  unfolding propagate_from is_none
  propagate_from-shrinks zero made sum B = λ _. inside-refl n B
  propagate_from-shrinks (suc left) made sum B =
      propagate_from-ind left made sum n m A B (λ r. T (not (is_none r.ending)) → Inside n r.box B)
      (λ _ z. absurd z)
      (λ t _ u. inside-trans (propagate_from-shrinks left (suc made) (sum + (pass_to n m A B).moved) (pass_to n m A B).box u) (pass-shrinks n A m B t))
      (λ t _ _. pass-shrinks n A m B t)

  pub propagate-shrinks : (budget : ℕ) (B : List ℤ) → T (not (is_none (propagate budget n m A B).ending))
      → Inside n (propagate budget n m A B).box B
  unfolding is_none
  propagate-shrinks budget B = propagate-ind budget n m A B (λ r. T (not (is_none r.ending)) → Inside n r.box B)
      (λ _ z. absurd z) (λ _. propagate_from-shrinks budget 0 0 B)

pub propagate-infeasible-iff : (budget m : ℕ) (A : Rows) {n : ℕ} {B : List ℤ} → 0 < n → ValidBox n B
    → T (is_none (propagate budget n m A B).ending) ↔ ((propagate budget n m A B).box ≡ empty_box n)
unfolding is_none
propagate-infeasible-iff budget m A {n} {B} h v = (propagate-infeasible-box n m A budget B, back v.shape)
  where
    back : (B ≡ empty_box n) ⊎ NonEmpty n B → (propagate budget n m A B).box ≡ empty_box n → T (is_none (propagate budget n m A B).ending)
    back (inl f) e = rw (f, propagate-empty budget n m A) tt
    back (inr p) e = ⊎_elim (λ t. t) (λ t. absurd (not-in-empty n (empty_box n) h (rw e at (propagate-non_empty m A budget p t)) (inside-refl n (empty_box n))))
        (decide (is_none (propagate budget n m A B).ending))

-- ---- the passes

module _ (n m : ℕ) (A : Rows) where
  propagate_from-passes : (left made sum : ℕ) (B : List ℤ)
      → (made ≤ (propagate_from left made sum n m A B).passes) × ((propagate_from left made sum n m A B).passes ≤ made + left)
      × (T (is_spent (propagate_from left made sum n m A B).ending) → (propagate_from left made sum n m A B).passes ≡ made + left)
  unfolding propagate_from is_spent
  propagate_from-passes zero made sum B = (omega arith, omega arith, λ _. omega arith)
  propagate_from-passes (suc left) made sum B =
      propagate_from-ind left made sum n m A B
      (λ r. (made ≤ r.passes) × (r.passes ≤ made + suc left) × (T (is_spent r.ending) → r.passes ≡ made + suc left))
      (λ _. (omega arith, omega arith, λ z. absurd z))
      (λ _ _. let r = propagate_from-passes left (suc made) (sum + (pass_to n m A B).moved) (pass_to n m A B).box in
      (omega arith, omega arith, λ t. let e = r.2 t in omega arith))
      (λ _ _. (omega arith, omega arith, λ z. absurd z))

  pub propagate-passes : (budget : ℕ) (B : List ℤ) → 1 ≤ budget
      → (1 ≤ (propagate budget n m A B).passes) × ((propagate budget n m A B).passes ≤ budget)
  propagate-passes zero B h = absurd (let z : ⊥ = omega arith in z)
  propagate-passes (suc left) B h = propagate-ind (suc left) n m A B (λ r. (1 ≤ r.passes) × (r.passes ≤ suc left))
      (λ _. (omega arith, omega arith))
      (λ _. propagate_from-ind left 0 0 n m A B (λ r. (1 ≤ r.passes) × (r.passes ≤ suc left))
      (λ _. (omega arith, omega arith))
      (λ _ _. let r = propagate_from-passes left 1 (0 + (pass_to n m A B).moved) (pass_to n m A B).box in (omega arith, omega arith))
      (λ _ _. (omega arith, omega arith)))

  pub propagate-spent-passes : (budget : ℕ) (B : List ℤ) → T (is_spent (propagate budget n m A B).ending)
      → (propagate budget n m A B).passes ≡ budget
  unfolding is_spent
  propagate-spent-passes budget B = propagate-ind budget n m A B (λ r. T (is_spent r.ending) → r.passes ≡ budget)
      (λ _ z. absurd z) (λ _ t. let e = (propagate_from-passes budget 0 0 B).2 t in omega arith)

-- the box after j passes, and how many bounds they moved
unfoldable pub after_passes : ℕ → ℕ → ℕ → Rows → List ℤ → List ℤ
after_passes zero n m A B = B
after_passes (suc j) n m A B = after_passes j n m A (pass_to n m A B).box

unfoldable pub moved_in_passes : ℕ → ℕ → ℕ → Rows → List ℤ → ℕ
moved_in_passes zero n m A B = 0
moved_in_passes (suc j) n m A B = (pass_to n m A B).moved + moved_in_passes j n m A (pass_to n m A B).box

-- r, which began at B with `made` passes made and `sum` bounds moved, ended as its last pass went: None where a row was infeasible, else
-- Spent where a bound moved and the look at the box says so, else Settled; and the bounds that all its passes moved are counted
pub record LastPass (made sum n m : ℕ) (A : Rows) (B : List ℤ) (r : Propagated) : Type 0 where
  pub earlier : ℕ
  pub passes : r.passes ≡ suc (made + earlier)
  pub moved : r.moved ≡ sum + moved_in_passes (suc earlier) n m A B
  pub box : r.box ≡ (pass_to n m A (after_passes earlier n m A B)).box
  pub none : is_none r.ending ≡ (pass_to n m A (after_passes earlier n m A B)).ended
  pub spent : let p = pass_to n m A (after_passes earlier n m A B) in
      is_spent r.ending ≡ (not p.ended && ltb 0 p.moved && is_spent (last_look n m A p.box))

module _ (n m : ℕ) (A : Rows) where
  module _ (made sum : ℕ) (B : List ℤ) where
    last-infeasible : T (pass_to n m A B).ended
        → LastPass made sum n m A B (record { ending = infeasible; passes = suc made; moved = sum + (pass_to n m A B).moved; box = (pass_to n m A B).box })
    unfolding is_none is_spent after_passes moved_in_passes
    last-infeasible t = let e = T→true (pass_to n m A B).ended t in
        record { earlier = 0; passes = omega arith; moved = omega arith; box = refl; none = sym e; spent = rw e }

    last_out : T (not (pass_to n m A B).ended) → 0 < (pass_to n m A B).moved
        → LastPass made sum n m A B (record { ending = last_look n m A (pass_to n m A B).box; passes = suc made; moved = sum + (pass_to n m A B).moved; box = (pass_to n m A B).box })
    unfolding is_none is_spent after_passes moved_in_passes
    last_out t u = let e = T→false (pass_to n m A B).ended t in let f = T→true (ltb 0 (pass_to n m A B).moved) (lt→ltb 0 (pass_to n m A B).moved u) in
        record { earlier = 0; passes = omega arith; moved = omega arith; box = refl; none = look-feasible n m A (pass_to n m A B).box ∙ sym e; spent = rw (e, f) }

    last-converged : T (not (pass_to n m A B).ended) → (pass_to n m A B).moved ≡ 0
        → LastPass made sum n m A B (record { ending = converged; passes = suc made; moved = sum; box = (pass_to n m A B).box })
    unfolding is_none is_spent after_passes moved_in_passes
    last-converged t u = let e = T→false (pass_to n m A B).ended t in
        record { earlier = 0; passes = omega arith; moved = omega arith; box = refl; none = sym e; spent = rw (e, u) }

    last-again : {r : Propagated} → LastPass (suc made) (sum + (pass_to n m A B).moved) n m A (pass_to n m A B).box r → LastPass made sum n m A B r
    unfolding after_passes moved_in_passes
    last-again l = let e = l.passes in let f = l.moved in
        record { earlier = suc l.earlier; passes = omega arith; moved = omega arith; box = l.box; none = l.none; spent = l.spent }

  propagate_from-last : (left made sum : ℕ) (B : List ℤ) → LastPass made sum n m A B (propagate_from (suc left) made sum n m A B)
  propagate_from-last zero made sum B = propagate_from-ind zero made sum n m A B (LastPass made sum n m A B)
      (last-infeasible made sum B)
      (λ t u. rw (propagate-out (suc made) (sum + (pass_to n m A B).moved) n m A (pass_to n m A B).box) (last_out made sum B t u))
      (last-converged made sum B)
  propagate_from-last (suc left) made sum B = propagate_from-ind (suc left) made sum n m A B (LastPass made sum n m A B)
      (last-infeasible made sum B)
      (λ _ _. last-again made sum B (propagate_from-last left (suc made) (sum + (pass_to n m A B).moved) (pass_to n m A B).box))
      (last-converged made sum B)

  pub propagate-last : (budget : ℕ) (B : List ℤ) → 1 ≤ budget → T (not (is_empty n B)) → LastPass 0 0 n m A B (propagate budget n m A B)
  propagate-last zero B h t = absurd (let z : ⊥ = omega arith in z)
  propagate-last (suc left) B h t = propagate-ind (suc left) n m A B (LastPass 0 0 n m A B)
      (λ e. absurd (T_not (is_empty n B) t e)) (λ _. propagate_from-last left 0 0 B)

-- ---- how many bounds moved

-- j bounds moved from B to P and then k from P to Q are j + k from B to Q
pub moved_then : (n j k : ℕ) (B P Q : List ℤ) → (pos j +ℤ width n P) ≤ℤ width n B → (pos k +ℤ width n Q) ≤ℤ width n P
    → (pos (j + k) +ℤ width n Q) ≤ℤ width n B
moved_then n j k B P Q f g = simp zify (omega (zarith, simp zify at f, simp zify at g))

-- what a box that is not empty can lose is its width
pub moved-at-most : (n k : ℕ) (B : List ℤ) {P : List ℤ} → NonEmpty n P → (pos k +ℤ width n P) ≤ℤ width n B → pos k ≤ℤ width n B
moved-at-most n k B p f = let w = width-nonneg p in omega (zarith, simp zify at f)

-- of a pass that did not end: no more than the width that the box lost, and none exactly if the box is the same
pub pass-moved-width : (n : ℕ) (A : Rows) (i : ℕ) (B : List ℤ) → T (not (pass_to n i A B).ended)
    → (pos (pass_to n i A B).moved +ℤ width n (pass_to n i A B).box) ≤ℤ width n B
unfolding pass_to
pass-moved-width n A zero B = λ _. simp zify (omega zarith)
pass-moved-width n A (suc i) B = pass-ind n i A B (λ r. T (not r.ended) → (pos r.moved +ℤ width n r.box) ≤ℤ width n B)
    (λ t u. absurd (T_not (pass_to n i A B).ended u t))
    (λ t u. moved_then n _ _ B (pass_to n i A B).box _ (pass-moved-width n A i B t)
    (kinded-moved-width n (row_at n A i) (pass_to n i A B).box u))

module _ (A : Rows) {n : ℕ} {B : List ℤ} (p : NonEmpty n B) where
  -- of any pass: no more than the width of the box
  pub pass-moved-le : (i : ℕ) → pos (pass_to n i A B).moved ≤ℤ width n B
  unfolding pass_to
  pass-moved-le zero = width-nonneg p
  pass-moved-le (suc i) = pass-ind n i A B (λ r. pos r.moved ≤ℤ width n B)
      (λ _. pass-moved-le i)
      (λ t. ⊎_elim (λ u. rw (kinded-infeasible-moved n (row_at n A i) (pass_to n i A B).box u) (let h = pass-moved-le i in omega zarith))
      (λ u. moved-at-most n _ B (kinded-non_empty (row_at n A i) (pass-non_empty A i p t) u)
      (moved_then n _ _ B (pass_to n i A B).box _ (pass-moved-width n A i B t)
      (kinded-moved-width n (row_at n A i) (pass_to n i A B).box u)))
      (decide (is_infeasible (propagate_row_of n (row_at n A i) (pass_to n i A B).box).outcome)))

  pub pass-moved-none : (i : ℕ) → T (not (pass_to n i A B).ended) → (pass_to n i A B).moved ≡ 0 → (pass_to n i A B).box ≡ B
  unfolding pass_to
  pass-moved-none zero = λ _ _. refl
  pass-moved-none (suc i) = pass-ind n i A B (λ r. T (not r.ended) → r.moved ≡ 0 → r.box ≡ B)
      (λ t u. absurd (T_not (pass_to n i A B).ended u t))
      (λ t u e. kinded-moved-none (row_at n A i) (pass-non_empty A i p t) u (omega arith)
      ∙ pass-moved-none i t (omega arith))

  pub pass-moved-iff : (i : ℕ) → T (not (pass_to n i A B).ended) → ((pass_to n i A B).moved ≡ 0) ↔ ((pass_to n i A B).box ≡ B)
  pass-moved-iff i t = (pass-moved-none i t, (λ e. let w = rw e at (pass-moved-width n A i B t) in omega (arith, simp zify at w)))

module _ (n m : ℕ) (A : Rows) where
  -- of a propagation that is not infeasible: no more than the width that the box lost, so none exactly if the box is the same
  propagate_from-moved-width : (left made sum : ℕ) (B : List ℤ) → T (not (is_none (propagate_from left made sum n m A B).ending))
      → (pos (propagate_from left made sum n m A B).moved +ℤ width n (propagate_from left made sum n m A B).box) ≤ℤ (pos sum +ℤ width n B)
  unfolding propagate_from is_none
  propagate_from-moved-width zero made sum B = λ _. omega zarith
  propagate_from-moved-width (suc left) made sum B =
      propagate_from-ind left made sum n m A B
      (λ r. T (not (is_none r.ending)) → (pos r.moved +ℤ width n r.box) ≤ℤ (pos sum +ℤ width n B))
      (λ _ z. absurd z)
      (λ t _ u. let f = propagate_from-moved-width left (suc made) (sum + (pass_to n m A B).moved) (pass_to n m A B).box u in
      let g = pass-moved-width n A m B t in simp zify (omega (zarith, simp zify at f, simp zify at g)))
      (λ t _ _. let g = pass-moved-width n A m B t in simp zify (omega (zarith, simp zify at g)))

  pub propagate-moved-width : (budget : ℕ) (B : List ℤ) → T (not (is_none (propagate budget n m A B).ending))
      → (pos (propagate budget n m A B).moved +ℤ width n (propagate budget n m A B).box) ≤ℤ width n B
  unfolding is_none
  propagate-moved-width budget B = propagate-ind budget n m A B
      (λ r. T (not (is_none r.ending)) → (pos r.moved +ℤ width n r.box) ≤ℤ width n B)
      (λ _ z. absurd z) (λ _ u. let f = propagate_from-moved-width budget 0 0 B u in simp zify (omega (zarith, simp zify at f)))

  -- each pass but the last moved a bound, and the last one too where the budget is spent
  propagate_from-moved-passes : (left made sum : ℕ) (B : List ℤ) → let r = propagate_from left made sum n m A B in
      (sum + r.passes ≤ r.moved + (made + 1)) × (T (is_spent r.ending) → sum + r.passes ≤ r.moved + made)
  unfolding propagate_from is_spent
  propagate_from-moved-passes zero made sum B = (omega arith, λ _. omega arith)
  propagate_from-moved-passes (suc left) made sum B =
      propagate_from-ind left made sum n m A B
      (λ r. (sum + r.passes ≤ r.moved + (made + 1)) × (T (is_spent r.ending) → sum + r.passes ≤ r.moved + made))
      (λ _. (omega arith, λ z. absurd z))
      (λ _ u. let r = propagate_from-moved-passes left (suc made) (sum + (pass_to n m A B).moved) (pass_to n m A B).box in
      (omega arith, λ t. let e = r.1 t in omega arith))
      (λ _ _. (omega arith, λ z. absurd z))

  pub propagate-moved-passes : (budget : ℕ) (B : List ℤ) → (propagate budget n m A B).passes ≤ (propagate budget n m A B).moved + 1
  propagate-moved-passes budget B = propagate-ind budget n m A B (λ r. r.passes ≤ r.moved + 1)
      (λ _. omega arith) (λ _. omega (arith, (propagate_from-moved-passes budget 0 0 B).0))

  pub propagate-spent-moved : (budget : ℕ) (B : List ℤ) → T (is_spent (propagate budget n m A B).ending)
      → (propagate budget n m A B).passes ≤ (propagate budget n m A B).moved
  unfolding is_spent
  propagate-spent-moved budget B = propagate-ind budget n m A B (λ r. T (is_spent r.ending) → r.passes ≤ r.moved)
      (λ _ z. absurd z) (λ _ t. omega (arith, (propagate_from-moved-passes budget 0 0 B).1 t))

module _ (m : ℕ) (A : Rows) {n : ℕ} where
  propagate_from-moved-le : (left made sum : ℕ) {B : List ℤ} → NonEmpty n B
      → pos (propagate_from left made sum n m A B).moved ≤ℤ (pos sum +ℤ width n B)
  unfolding propagate_from
  propagate_from-moved-le zero made sum p = let w = width-nonneg p in simp zify (omega zarith)
  propagate_from-moved-le (suc left) made sum {B} p =
      propagate_from-ind left made sum n m A B (λ r. pos r.moved ≤ℤ (pos sum +ℤ width n B))
      (λ _. let g = pass-moved-le A p m in simp zify (omega zarith))
      (λ t _. let f = propagate_from-moved-le left (suc made) (sum + (pass_to n m A B).moved) (pass-non_empty A m p t) in
      let g = pass-moved-width n A m B t in simp zify (omega (zarith, simp zify at f, simp zify at g)))
      (λ _ _. let w = width-nonneg p in simp zify (omega zarith))

  -- of any propagation: no more than the width of the box
  pub propagate-moved-le : (budget : ℕ) {B : List ℤ} → NonEmpty n B → pos (propagate budget n m A B).moved ≤ℤ width n B
  propagate-moved-le budget {B} p = propagate-ind budget n m A B (λ r. pos r.moved ≤ℤ width n B)
      (λ _. width-nonneg p) (λ _. let f = propagate_from-moved-le budget 0 0 p in omega (zarith, simp zify at f))

  propagate_from-moved-none : (left made sum : ℕ) {B : List ℤ} → NonEmpty n B
      → let r = propagate_from left made sum n m A B in T (not (is_none r.ending)) → (sum ≤ r.moved) × (r.moved ≡ sum → r.box ≡ B)
  unfolding propagate_from is_none
  propagate_from-moved-none zero made sum p = λ _. (omega arith, λ _. refl)
  propagate_from-moved-none (suc left) made sum {B} p =
      propagate_from-ind left made sum n m A B (λ r. T (not (is_none r.ending)) → (sum ≤ r.moved) × (r.moved ≡ sum → r.box ≡ B))
      (λ _ z. absurd z)
      (λ t u v. let f = propagate_from-moved-none left (suc made) (sum + (pass_to n m A B).moved) (pass-non_empty A m p t) v in
      (omega arith, λ e. absurd (let z : ⊥ = omega arith in z)))
      (λ t u _. (omega arith, λ _. pass-moved-none A p m t u))

  -- none moved exactly if the box is the same
  pub propagate-moved-iff : (budget : ℕ) {B : List ℤ} → NonEmpty n B → T (not (is_none (propagate budget n m A B).ending))
      → ((propagate budget n m A B).moved ≡ 0) ↔ ((propagate budget n m A B).box ≡ B)
  propagate-moved-iff budget {B} p t = (
    propagate-ind budget n m A B (λ r. T (not (is_none r.ending)) → r.moved ≡ 0 → r.box ≡ B)
        (λ _ _ _. refl) (λ _ u. (propagate_from-moved-none budget 0 0 p u).1) t,
    (λ e. let w = rw e at (propagate-moved-width n m A budget B t) in omega (arith, simp zify at w)),
  )
