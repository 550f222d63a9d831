-- An accepted visit, settle or probe: the box becomes empty or narrower, and keeps every probed fixpoint inside; what a probe
-- records holds at every integer point.
use Prim.Native.Nat.{◌<◌, ℕ}
use lib.Dec.{T, eqb, eqb→eq}
use lib.IntN.{pos, ℤ}
use lib.Signed.{◌≤ℤ◌, ≤ℤ_refl}
use mathlib.Core.Bool.{◌||◌}
use mathlib.Core.List.{List}
use mathlib.Core.Logic.{◌↔◌, ◌⊎◌, inl, inr, ⊎_elim}
use mathlib.Core.Path.{◌≡◌, ap, refl}
use Rattle.integer.proofs.Parts.{zarith}
use Rattle.integer.proofs.Tests.{cond_ind, decide, or_r}
use Rattle.model.specs.Box.{Inside, NonEmpty, at, empty_box, is_empty, is_free, lower, upper}
use Rattle.model.specs.Point.{InBox}
use Rattle.model.specs.Rows.{Row, Rows, row_at}
use Rattle.model.specs.State.{State, with_box}
use Rattle.model.specs.Valid.{ValidBox, ValidModel, ValidTable}
use Rattle.model.proofs.BoxLaws.{free-lower, free-upper, inside-refl, not-in-empty}
use Rattle.row.specs.Kinds.{propagate_row_of}
use Rattle.row.specs.Outcome.{is_changed, is_infeasible, unchanged}
use Rattle.row.proofs.KindLaws.{kinded-empty, kinded-infeasible-box, kinded-monotone, kinded-non_empty, kinded-point, kinded-shrinks, kinded-unchanged}
use Rattle.row.proofs.PointBox.{Inside→in, box_at, in→Inside, lower-at, non_empty-at, upper-at}
use Rattle.semantics.specs.Call.{Call, Kind, has_row, has_variable, kind_of, narrows, probing, propagation, removal, row_propagation, tightening, unknown}
use Rattle.semantics.specs.CallChecks.{call_fault}
use Rattle.semantics.specs.Perform.{Performed, act, perform}
use Rattle.semantics.specs.Probe.{fix, probe}
use Rattle.semantics.specs.Propagate.{is_none, propagate}
use Rattle.semantics.specs.Run.{step}
use Rattle.call_laws.specs.Fixpoint.{ProbedFixpoint}
use Rattle.call_laws.specs.Points.{LiteralTrue, PointOf, TableHolds}
use Rattle.call_laws.proofs.Accepted.{Accepted}
use Rattle.call_laws.proofs.ImplicationLaws.{record_to-holds}
use Rattle.call_laws.proofs.ProbeLaws.{in-fix, probe-empty, probe-ind, probe-keeps, probe-narrower, probe-table-valid}
use Rattle.call_laws.proofs.PropagateLaws.{propagate-empty, propagate-infeasible-box, propagate-keeps, propagate-non_empty, propagate-shrinks}

-- ---- an accepted call is performed, any other leaves the state

pub perform-accepted : (s : State) (c : Call) → call_fault s c ≡ 0 → perform s c ≡ act (kind_of c.kind) s c
unfolding perform
perform-accepted s c e = rw e

pub step-accepted : (s : State) (c : Call) → call_fault s c ≡ 0 → step s c ≡ (act (kind_of c.kind) s c).state
unfolding step
step-accepted s c e = ap (λ (r : Performed). r.state) (perform-accepted s c e)

pub step-ind : (s : State) (c : Call) (P : State → Type 0) → (call_fault s c ≡ 0 → P (act (kind_of c.kind) s c).state) → P s → P (step s c)
unfolding step perform
step-ind s c P f p = cond_ind (eqb (call_fault s c) 0) _ _ (λ (r : Performed). P r.state) (λ t. f (eqb→eq (call_fault s c) 0 t)) (λ _. p)

-- ---- an integer point, as a box, is a probed fixpoint

pub point-probed : (s : State) (x : List ℤ) → 0 < s.model.n → PointOf s x → ProbedFixpoint s.model.n s.model.m s.model.rows (box_at s.model.n x)
point-probed s x h p = record {
  fixpoint = record { non_empty = non_empty-at s.model.n x; same = λ i k. kinded-point (row_at s.model.n s.model.rows i) h (p.rows i k) };
  spans = λ k kn f. absurd (none k kn (free-lower (box_at s.model.n x) k f) (free-upper (box_at s.model.n x) k f));
}
  where
    none : (k : ℕ) → k < s.model.n → lower (box_at s.model.n x) k ≡ pos 0 → upper (box_at s.model.n x) k ≡ pos 1 → ⊥
    none k kn l u = let a = lower-at s.model.n x k kn in let b = upper-at s.model.n x k kn in let z : pos 1 ≤ℤ pos 0 = omega zarith in absurd z.le

-- ---- the box of a visit, a settle or a probe

-- P is empty, or it is not and lies inside B
abbrev pub Narrower : ℕ → List ℤ → List ℤ → Type 0
Narrower n P B = (P ≡ empty_box n) ⊎ (NonEmpty n P × Inside n P B)

pub narrower-refl : {n : ℕ} {B : List ℤ} → ValidBox n B → Narrower n B B
narrower-refl {n} {B} v = ⊎_elim (λ e. inl e) (λ p. inr (p, inside-refl n B)) v.shape

pub kinded-narrower : (r : Row) {n : ℕ} {B : List ℤ} → ValidBox n B → Narrower n (propagate_row_of n r B).box B
kinded-narrower r {n} {B} v = ⊎_elim
    (λ (e : B ≡ empty_box n). inl (rw (e, kinded-empty n r)))
    (λ p. ⊎_elim (λ t. inl (kinded-infeasible-box n r B t)) (λ t. inr (kinded-non_empty r p t, kinded-shrinks n r B t))
    (decide (is_infeasible (propagate_row_of n r B).outcome)))
    v.shape

pub kinded-infeasible-iff : (r : Row) {n : ℕ} {B : List ℤ} → 0 < n → ValidBox n B
    → T (is_infeasible (propagate_row_of n r B).outcome) ↔ ((propagate_row_of n r B).box ≡ empty_box n)
unfolding is_infeasible
kinded-infeasible-iff r {n} {B} h v = (kinded-infeasible-box n r B, back v.shape)
  where
    back : (B ≡ empty_box n) ⊎ NonEmpty n B → (propagate_row_of n r B).box ≡ empty_box n → T (is_infeasible (propagate_row_of n r B).outcome)
    back (inl f) e = rw (f, kinded-empty n r) tt
    back (inr p) e = ⊎_elim (λ t. t) (λ t. absurd (not-in-empty n (empty_box n) h (rw e at (kinded-non_empty r p t)) (inside-refl n (empty_box n))))
        (decide (is_infeasible (propagate_row_of n r B).outcome))

pub kinded-same : (r : Row) {n : ℕ} {B : List ℤ} → ValidBox n B → (propagate_row_of n r B).outcome ≡ unchanged → (propagate_row_of n r B).box ≡ B
unfolding is_infeasible is_changed
kinded-same r {n} {B} v e = ⊎_elim
    (λ (f : B ≡ empty_box n). rw (f, kinded-empty n r)) (λ p. kinded-unchanged r p (rw e tt) (rw e tt)) v.shape

pub propagate-narrower : (budget m : ℕ) (A : Rows) {n : ℕ} {B : List ℤ} → ValidBox n B → Narrower n (propagate budget n m A B).box B
propagate-narrower budget m A {n} {B} v = ⊎_elim
    (λ (e : B ≡ empty_box n). inl (rw (e, propagate-empty budget n m A)))
    (λ p. ⊎_elim (λ t. inl (propagate-infeasible-box n m A budget B t))
    (λ t. inr (propagate-non_empty m A budget p t, propagate-shrinks n m A budget B t))
    (decide (is_none (propagate budget n m A B).ending)))
    v.shape

-- ---- what such a call leaves, the box P and the table t, of s

pub record Narrowed (s : State) (P : List ℤ) (t : List ℕ) : Type 0 where
  pub box : Narrower s.model.n P s.model.box
  pub keeps : {Q : List ℤ} → ProbedFixpoint s.model.n s.model.m s.model.rows Q → Inside s.model.n Q s.model.box → Inside s.model.n Q P
  pub holds : (x : List ℤ) → PointOf s x → TableHolds s.model.n s.table x → TableHolds s.model.n t x
  pub table : ValidTable s.model.n s.table → ValidTable s.model.n t

pub narrowed-refl : (s : State) → ValidModel s.model → Narrowed s s.model.box s.table
narrowed-refl s v = record { box = narrower-refl v.box; keeps = λ _ i. i; holds = λ _ _ i. i; table = λ w. w }

module _ (s : State) (c : Call) where
  propagate-row-narrowed : Accepted row_propagation s c
      → Narrowed s (propagate_row_of s.model.n (row_at s.model.n s.model.rows c.row) s.model.box).box s.table
  unfolding has_row
  propagate-row-narrowed a = record {
    box = kinded-narrower (row_at s.model.n s.model.rows c.row) a.model.box;
    keeps = λ q i. kinded-monotone (row_at s.model.n s.model.rows c.row) a.model.some
        q.fixpoint.non_empty (q.fixpoint.same c.row (a.row tt)) i;
    holds = λ _ _ i. i;
    table = λ w. w;
  }

  propagate-narrowed : Accepted propagation s c → Narrowed s (propagate c.budget s.model.n s.model.m s.model.rows s.model.box).box s.table
  propagate-narrowed a = record {
    box = propagate-narrower c.budget s.model.m s.model.rows a.model.box;
    keeps = λ q i. propagate-keeps a.model.some q.fixpoint c.budget i;
    holds = λ _ _ i. i;
    table = λ w. w;
  }

  module _ (a : Accepted probing s c) where
    known : c.variable < s.model.n
    unfolding has_variable
    known = a.variable tt

    free : T (is_empty s.model.n s.model.box || is_free s.model.box c.variable)
    unfolding has_variable
    free = a.free tt

    -- a point at which the variable is v lies in side v
    on-side : (x : List ℤ) → PointOf s x → (v : ℕ) → LiteralTrue c.variable v x
        → InBox s.model.n (propagate c.budget s.model.n s.model.m s.model.rows (fix s.model.n s.model.box c.variable v)).box x
    unfolding LiteralTrue
    on-side x p v l = Inside→in s.model.n _ x (propagate-keeps a.model.some (point-probed s x a.model.some p).fixpoint c.budget
        (in-fix c.variable v (in→Inside p.inside)
        (rw (lower-at s.model.n x c.variable known, l) (≤ℤ_refl (pos v))) (rw (upper-at s.model.n x c.variable known, l) (≤ℤ_refl (pos v)))))

    probe-holds : (x : List ℤ) → PointOf s x → TableHolds s.model.n s.table x
        → TableHolds s.model.n (probe c.variable c.budget s.model.n s.model.m s.model.rows s.model.box s.table).table x
    probe-holds x p i =
        probe-ind c.variable c.budget s.model.n s.model.m s.model.rows s.model.box s.table (λ r. TableHolds s.model.n r.table x)
        (λ _. i) (λ _ _ _. i) (λ _ _ _. i) (λ _ _ _. i)
        (λ w _ _. let f = or_r (is_empty s.model.n s.model.box) (is_free s.model.box c.variable) free w in
        let l = free-lower s.model.box c.variable f in let u = free-upper s.model.box c.variable f in
        let g = p.inside.low c.variable known in let h = p.inside.high c.variable known in
        record_to-holds s.model.n c.variable x known (omega zarith) (omega zarith) s.model.box _ _ s.table (on-side x p 0) (on-side x p 1) i)

    pub probe-box : Narrower s.model.n (probe c.variable c.budget s.model.n s.model.m s.model.rows s.model.box s.table).box s.model.box
    probe-box = ⊎_elim
        (λ (e : s.model.box ≡ empty_box s.model.n). inl (rw (e, probe-empty c.variable c.budget s.model.n s.model.m s.model.rows s.table)))
        (probe-narrower c.variable c.budget s.model.m s.model.rows s.table free)
        a.model.box.shape

    probe-narrowed : let r = probe c.variable c.budget s.model.n s.model.m s.model.rows s.model.box s.table in Narrowed s r.box r.table
    probe-narrowed = record {
      box = probe-box;
      keeps = λ q i. probe-keeps c.variable c.budget s.table a.model.some known free q i;
      holds = probe-holds;
      table = probe-table-valid c.variable c.budget s.model.m s.model.rows s.model.box known;
    }

-- ---- r is what calls of these kinds leave of s

pub record NarrowedTo (s r : State) : Type 0 where
  pub box : List ℤ
  pub table : List ℕ
  pub is : r ≡ with_box s box table
  pub narrowed : Narrowed s box table

pub act-narrowed : (k : Kind) (s : State) (c : Call) → T (narrows k) → Accepted k s c → NarrowedTo s (act k s c).state
unfolding act narrows
act-narrowed row_propagation s c _ a = record { box = _; table = _; is = refl; narrowed = propagate-row-narrowed s c a }
act-narrowed propagation s c _ a = record { box = _; table = _; is = refl; narrowed = propagate-narrowed s c a }
act-narrowed probing s c _ a = record { box = _; table = _; is = refl; narrowed = probe-narrowed s c a }
act-narrowed tightening s c z a = absurd z
act-narrowed removal s c z a = absurd z
act-narrowed unknown s c z a = absurd z
