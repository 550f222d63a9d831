-- How an accepted call counts, read off its answer alone: a visit, sharpen or drop by its outcome, a settle by the bounds it moved, a probe
-- by its case, its new bytes and its box; each by the laws that say when the call's own rule leaves the state. Assumes nothing.
use Prim.Native.Nat.{◌<◌, ℕ}
use lib.Dec.{T, eqb}
use lib.IntN.{ℤ}
use lib.ListN.{length}
use mathlib.Core.Bool.{Bool, ◌&&◌, ◌||◌, cond, false, not, true}
use mathlib.Core.List.{List, [], ◌∷◌}
use mathlib.Core.Logic.{◌↔◌, ◌≢◌, ⊎_elim}
use mathlib.Core.Path.{◌∙◌, ◌≡◌, ap, refl, subst, sym}
use native.Mathlib.Omega.{arith}
use Rattle.integer.proofs.Parts.{zarith}
use Rattle.integer.proofs.Tests.{T→false, T→true, and_i, and_l, and_r, bool-ext, decide, eqb-test, not-not, or_r, test-false, test-true}
use Rattle.model.specs.Box.{Inside, NonEmpty, is_empty, is_free, same_list}
use Rattle.model.specs.Rows.{Row, Rows, row_at, set_row}
use Rattle.model.specs.State.{State, with_box, with_row}
use Rattle.model.specs.Valid.{ValidModel, ValidTable}
use Rattle.model.proofs.BoxLaws.{free-lower, free-upper, same_list-refl, same_list→eq}
use Rattle.model.proofs.RowsLaws.{length-row_of, set_row-row, set_row-same}
use Rattle.row.specs.KindChanges.{ChangedRow, remove_row_of, tighten_row_of}
use Rattle.row.specs.Kinds.{propagate_row_of}
use Rattle.row.specs.Outcome.{is_changed, is_infeasible}
use Rattle.row.proofs.ImpliedBoxLaws.{valid-non_empty}
use Rattle.row.proofs.KindChangeLaws.{remove-kinded-changed, remove-kinded-replaces, remove-kinded-unchanged, tighten-kinded-changed, tighten-kinded-length, tighten-kinded-unchanged}
use Rattle.row.proofs.KindLaws.{kinded-changed, kinded-feasible, kinded-unchanged}
use Rattle.semantics.specs.Call.{Call, Kind, has_row, has_table, has_variable, kind_of, probing, propagation, removal, row_propagation, tightening}
use Rattle.semantics.specs.CallChecks.{call_fault}
use Rattle.semantics.specs.Perform.{act, perform}
use Rattle.semantics.specs.Probe.{ProbeEnding, both_feasible, fix, fixed, infeasible, ones, probe, record_to}
use Rattle.semantics.specs.Propagate.{is_none, propagate}
use Rattle.semantics.specs.Run.{CallClass, answers_none, changed_call, class_of, infeasible_call, is_refused, probe_infeasible, refusal_of, refused_call, same_bytes, same_state, step, unchanged_call}
use Rattle.call_laws.proofs.Accepted.{Accepted, accepted}
use Rattle.call_laws.proofs.CallLaws.{perform-accepted, step-ind}
use Rattle.call_laws.proofs.ImplicationLaws.{record_to-added, record_to-same}
use Rattle.call_laws.proofs.ProbeLaws.{at-fix, probe-ind}
use Rattle.call_laws.proofs.PropagateLaws.{propagate-ind, propagate-moved-iff, propagate-shrinks}

-- ---- the same state

pub same_bytes→eq : (a b : List ℕ) → T (same_bytes a b) → a ≡ b
unfolding same_bytes
same_bytes→eq [] [] t = refl
same_bytes→eq [] (y ∷ ys) t = absurd t
same_bytes→eq (x ∷ xs) [] t = absurd t
same_bytes→eq (x ∷ xs) (y ∷ ys) t =
    cc ((eqb-test x y).0 (and_l (eqb x y) (same_bytes xs ys) t), same_bytes→eq xs ys (and_r (eqb x y) (same_bytes xs ys) t))

pub same_bytes-refl : (a : List ℕ) → T (same_bytes a a)
unfolding same_bytes
same_bytes-refl [] = tt
same_bytes-refl (x ∷ xs) = and_i (eqb x x) (same_bytes xs xs) ((eqb-test x x).1 refl) (same_bytes-refl xs)

and-true : (a : Bool) → (a && true) ≡ a
and-true true = refl
and-true false = refl

and_comm : (a b : Bool) → (a && b) ≡ (b && a)
and_comm true b = sym (and-true b)
and_comm false true = refl
and_comm false false = refl

-- where only the box and the table can be new
same-with_box : (s : State) (P : List ℤ) (t : List ℕ) → same_state s (with_box s P t) ≡ (same_list s.model.box P && same_bytes s.table t)
unfolding same_state with_box
same-with_box s P t = rw (
  T→true (same_list s.model.rows.coefs s.model.rows.coefs) (same_list-refl s.model.rows.coefs),
  T→true (same_list s.model.rows.rhs s.model.rows.rhs) (same_list-refl s.model.rows.rhs),
  T→true (same_bytes s.model.rows.kinds s.model.rows.kinds) (same_bytes-refl s.model.rows.kinds),
  and-true (same_list s.model.box P),
  and-true (same_list s.model.box P),
  and-true (same_list s.model.box P),
)

same-box : (s : State) (P : List ℤ) → same_state s (with_box s P s.table) ≡ same_list s.model.box P
same-box s P = same-with_box s P s.table ∙ rw (T→true (same_bytes s.table s.table) (same_bytes-refl s.table), and-true (same_list s.model.box P))

-- where only row i can be
same-with_row : (s : State) (i : ℕ) (r : Row) → let A = s.model.rows in
    let N = set_row s.model.n A i r in
    same_state s (with_row s i r) ≡ (same_list A.coefs N.coefs && same_list A.rhs N.rhs && same_bytes A.kinds N.kinds)
unfolding same_state with_row
same-with_row s i r = rw (
  T→true (same_list s.model.box s.model.box) (same_list-refl s.model.box),
  T→true (same_bytes s.table s.table) (same_bytes-refl s.table),
) (and-true _)

same_test : (a b : List ℤ) → T (same_list a b) ↔ (b ≡ a)
same_test a b = ((λ t. sym (same_list→eq a b t)), (λ e. rw e (same_list-refl a)))

same_list-is : (a b : List ℤ) (c : Bool) → (T c → b ≡ a) → (T (not c) → b ≢ a) → same_list a b ≡ c
same_list-is a b true f g = test-true (same_list a b) (same_test a b) (f tt)
same_list-is a b false f g = test-false (same_list a b) (same_test a b) (g tt)

-- ---- what each rule changes, by its answer

-- row i of the same lists
row_at-same : (n i : ℕ) (A N : Rows) → A.coefs ≡ N.coefs → A.rhs ≡ N.rhs → A.kinds ≡ N.kinds → row_at n N i ≡ row_at n A i
row_at-same n i A N e f g = rw (e, f, g)

-- row i becomes what a rule left of it
row_same : (s : State) (i : ℕ) (q : ChangedRow) → ValidModel s.model → i < s.model.m → length q.row.coefs ≡ s.model.n
    → let old = row_at s.model.n s.model.rows i in
    (T (not (is_changed q.outcome)) → q.row ≡ old) → (T (is_changed q.outcome) → q.row ≢ old)
    → same_state s (with_row s i q.row) ≡ not (is_changed q.outcome)
row_same s i q v im len stays moves =
    let n = s.model.n in
    let A = s.model.rows in
    let N = set_row n A i q.row in
    let C = same_list A.coefs N.coefs in
    let R = same_list A.rhs N.rhs in
    let K = same_bytes A.kinds N.kinds in
    same-with_row s i q.row ∙ bool-ext (C && R && K) (not (is_changed q.outcome))
    (λ t. let u = and_l (C && R) K t in
    let same = row_at-same n i A N (same_list→eq A.coefs N.coefs (and_l C R u)) (same_list→eq A.rhs N.rhs (and_r C R u))
    (same_bytes→eq A.kinds N.kinds (and_r (C && R) K t)) in
    ⊎_elim
    (λ w. absurd (moves w (sym (set_row-row n s.model.m A i q.row v.coefs_len v.rhs_len v.kinds_len im len) ∙ same)))
    (λ w. w) (decide (is_changed q.outcome)))
    (λ t. rw (set_row-same n A i q.row (stays t)) (and_i (same_list A.coefs A.coefs && same_list A.rhs A.rhs) _
    (and_i (same_list A.coefs A.coefs) _ (same_list-refl A.coefs) (same_list-refl A.rhs)) (same_bytes-refl A.kinds)))

-- a settle leaves the box exactly where it moved nothing
propagate-same : (n m : ℕ) (A : Rows) (budget : ℕ) {B : List ℤ} → NonEmpty n B → let r = propagate budget n m A B in
    T (not (is_none r.ending)) → same_list B r.box ≡ eqb r.moved 0
propagate-same n m A budget {B} p t =
    let r = propagate budget n m A B in
    let d = propagate-moved-iff m A budget p t in
    bool-ext (same_list B r.box) (eqb r.moved 0)
    (λ u. (eqb-test r.moved 0).1 (d.1 ((same_test B r.box).0 u))) (λ u. (same_test B r.box).1 (d.0 ((eqb-test r.moved 0).0 u)))

-- no byte became 1, of a probe with both sides
unfoldable pub adds_none : ProbeEnding → Bool
adds_none infeasible = true
adds_none (fixed v) = false
adds_none (both_feasible added) = eqb added 0

module _ (k budget m : ℕ) (A : Rows) (B : List ℤ) {n : ℕ} {t : List ℕ} (kn : k < n) (f : T (is_empty n B || is_free B k)) (v : ValidTable n t) where
  -- a side has the variable fixed, so it is not the box before
  side-moves : (b : ℕ) → T (not (is_empty n B)) → T (not (is_none (propagate budget n m A (fix n B k b)).ending))
      → same_list B (propagate budget n m A (fix n B k b)).box ≡ false
  side-moves b w x =
      let P = (propagate budget n m A (fix n B k b)).box in
      test-false (same_list B P) (same_test B P) (λ e.
      let a = at-fix B k b kn (subst (λ (z : List ℤ). Inside n z (fix n B k b)) e (propagate-shrinks n m A budget (fix n B k b) x)) in
      let g = or_r (is_empty n B) (is_free B k) f w in
      let l = free-lower B k g in let u = free-upper B k g in
      let z : ⊥ = omega zarith in z)

  probe-same : let r = probe k budget n m A B t in
      T (not (probe_infeasible r.ending)) → (same_list B r.box && same_bytes t r.table) ≡ (adds_none r.ending && same_list B r.box)
  unfolding probe_infeasible adds_none
  probe-same = probe-ind k budget n m A B t
      (λ r. T (not (probe_infeasible r.ending)) → (same_list B r.box && same_bytes t r.table) ≡ (adds_none r.ending && same_list B r.box))
      (λ _ z. absurd z)
      (λ _ _ _ z. absurd z)
      (λ w _ y _. rw (side-moves 1 w y))
      (λ w x _ _. rw (side-moves 0 w x))
      (λ w x y _. both-same _ _ _)
    where
      both-same : (S0 S1 P : List ℤ) → let r = record_to n n k B S0 S1 t in (same_list B P && same_bytes t r.bytes) ≡ (eqb r.added 0 && same_list B P)
      both-same S0 S1 P =
          let r = record_to n n k B S0 S1 t in
          and_comm (same_list B P) (same_bytes t r.bytes) ∙ ap (λ (z : Bool). z && same_list B P) (bool-ext (same_bytes t r.bytes) (eqb r.added 0)
          (λ q. let e = ap ones (same_bytes→eq t r.bytes q) in (eqb-test r.added 0).1 (omega (arith, record_to-added n k B S0 S1 t kn v)))
          (λ q. rw (record_to-same n k B S0 S1 t kn v ((eqb-test r.added 0).0 q)) (same_bytes-refl t)))

-- ---- the class of an accepted call

abbrev pub class_by : Bool → Bool → CallClass
class_by none same = cond none infeasible_call (cond same unchanged_call changed_call)

-- one that answers None is not asked whether it changed anything
class-is : (none : Bool) {a b : Bool} → (T (not none) → a ≡ b) → class_by none a ≡ class_by none b
class-is true e = refl
class-is false e = ap (class_by false) (e tt)

module _ (s : State) (c : Call) (e : call_fault s c ≡ 0) where
  -- of a call of kind k
  class-of : (k : Kind) → kind_of c.kind ≡ k → T (not (is_refused (act k s c).answer))
      → class_of s c ≡ class_by (answers_none (act k s c).answer) (same_state s (act k s c).state)
  unfolding class_of
  class-of k q t = rw (perform-accepted s c e, q, T→false (is_refused (act k s c).answer) t)

  accepted-kind : (k : Kind) → kind_of c.kind ≡ k → Accepted k s c
  accepted-kind k q = subst (λ (z : Kind). Accepted z s c) q (accepted s c e)

  pub propagate-row-class : kind_of c.kind ≡ row_propagation
      → let o = (propagate_row_of s.model.n (row_at s.model.n s.model.rows c.row) s.model.box).outcome in
      class_of s c ≡ class_by (is_infeasible o) (not (is_changed o))
  unfolding act answers_none is_refused
  propagate-row-class q =
      let old = row_at s.model.n s.model.rows c.row in
      let r = propagate_row_of s.model.n old s.model.box in
      class-of row_propagation q tt ∙ class-is (is_infeasible r.outcome) (λ f.
      let p = valid-non_empty (accepted-kind row_propagation q).model.box (kinded-feasible s.model.n old s.model.box f) in
      same-box s r.box ∙ same_list-is s.model.box r.box (not (is_changed r.outcome))
      (λ t. kinded-unchanged old p f t) (λ t. kinded-changed old p (not-not (is_changed r.outcome) t)))

  pub propagate-class : kind_of c.kind ≡ propagation → let r = propagate c.budget s.model.n s.model.m s.model.rows s.model.box in
      class_of s c ≡ class_by (is_none r.ending) (eqb r.moved 0)
  unfolding act answers_none is_refused is_none
  propagate-class q =
      let a = accepted-kind propagation q in
      let r = propagate c.budget s.model.n s.model.m s.model.rows s.model.box in
      class-of propagation q tt ∙ class-is (is_none r.ending) (λ f.
      let p = valid-non_empty a.model.box (propagate-ind c.budget s.model.n s.model.m s.model.rows s.model.box
      (λ r. T (not (is_none r.ending)) → T (not (is_empty s.model.n s.model.box))) (λ _ z. absurd z) (λ t _. t) f) in
      same-box s r.box ∙ propagate-same s.model.n s.model.m s.model.rows c.budget p f)

  pub probe-class : kind_of c.kind ≡ probing
      → let r = probe c.variable c.budget s.model.n s.model.m s.model.rows s.model.box s.table in
      class_of s c ≡ class_by (probe_infeasible r.ending) (adds_none r.ending && same_list s.model.box r.box)
  unfolding act answers_none is_refused has_variable has_table
  probe-class q =
      let a = accepted-kind probing q in
      let r = probe c.variable c.budget s.model.n s.model.m s.model.rows s.model.box s.table in
      class-of probing q tt ∙ class-is (probe_infeasible r.ending) (λ f. same-with_box s r.box r.table
      ∙ probe-same c.variable c.budget s.model.m s.model.rows s.model.box (a.variable tt) (a.free tt) (a.table tt) f)

  pub tighten-class : kind_of c.kind ≡ tightening
      → let o = (tighten_row_of s.model.n (row_at s.model.n s.model.rows c.row) s.model.box c.variable).outcome in
      class_of s c ≡ class_by (is_infeasible o) (not (is_changed o))
  unfolding act answers_none is_refused has_row has_variable
  tighten-class q =
      let a = accepted-kind tightening q in
      let old = row_at s.model.n s.model.rows c.row in
      let r = tighten_row_of s.model.n old s.model.box c.variable in
      let len = length-row_of s.model.n s.model.m s.model.rows.coefs c.row a.model.coefs_len (a.row tt) in
      class-of tightening q tt ∙ class-is (is_infeasible r.outcome) (λ _.
      row_same s c.row r a.model (a.row tt) (tighten-kinded-length s.model.n old s.model.box c.variable ∙ len)
      (tighten-kinded-unchanged s.model.n old s.model.box c.variable)
      (tighten-kinded-changed s.model.n old s.model.box c.variable (omega (arith, a.variable tt))))

  pub remove-class : kind_of c.kind ≡ removal
      → let o = (remove_row_of s.model.n (row_at s.model.n s.model.rows c.row) s.model.box).outcome in
      class_of s c ≡ class_by (is_infeasible o) (not (is_changed o))
  unfolding act answers_none is_refused has_row
  remove-class q =
      let a = accepted-kind removal q in
      let old = row_at s.model.n s.model.rows c.row in
      let r = remove_row_of s.model.n old s.model.box in
      let len = length-row_of s.model.n s.model.m s.model.rows.coefs c.row a.model.coefs_len (a.row tt) in
      class-of removal q tt ∙ class-is (is_infeasible r.outcome) (λ _.
      row_same s c.row r a.model (a.row tt) (remove-kinded-replaces s.model.n old s.model.box len).len
      (remove-kinded-unchanged s.model.n old s.model.box) (remove-kinded-changed s.model.n old s.model.box))

-- ---- a refused call

pub class-refused : (s : State) (c : Call) → (call_fault s c ≡ 0 → ⊥) → (refused_call (call_fault s c) ≡ class_of s c) × (s ≡ step s c)
unfolding class_of perform is_refused refusal_of
class-refused s c n =
    (rw (test-false (eqb (call_fault s c) 0) (eqb-test (call_fault s c) 0) n), step-ind s c (λ (r : State). s ≡ r) (λ e. absurd (n e)) refl)
