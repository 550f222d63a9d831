-- Every call that changes something lowers the measure, none raises it, and it has a limit: each rule's case lemma, with "as much as
-- before only where it is as before" carried from the parts to the whole.
use Prim.Native.Nat.{◌*◌, ◌+◌, ◌<◌, ◌≤◌, suc, zero, ℕ}
use lib.Dec.{T, T_not, eqb, eqb→eq}
use lib.IntN.{◌+ℤ◌, ◌-ℤ◌, nat_abs, pos, ℤ}
use lib.ListN.{get_or, length, set}
use lib.Signed.{◌<ℤ◌, ◌≤ℤ◌}
use mathlib.Core.Bool.{Bool, ◌&&◌, false, not, true}
use mathlib.Core.List.{List, [], ◌∷◌}
use mathlib.Core.Logic.{◌↔◌, ◌≢◌, ◌⊎◌, inl, inr, ⊎_elim}
use mathlib.Core.Path.{◌∙◌, ◌≡◌, ap, ap₂, refl, subst, sym}
use native.Mathlib.Decide.{dec_lt, ℕ_discrete}
use native.Mathlib.Nat.{mul-le-mul}
use native.Mathlib.Omega.{arith}
use Rattle.integer.specs.Order.{eq_z}
use Rattle.integer.proofs.Parts.{one-part-zero, sub_parts, zarith, zify}
use Rattle.integer.proofs.RangeLaws.{abs-parts}
use Rattle.integer.proofs.Tests.{T→true, and_i, and_l, and_r, cond_ind, decide, eq_z→eq, eq→eq_z, eqb-test}
use Rattle.model.specs.Box.{Inside, NonEmpty, at, empty_box, same_list}
use Rattle.model.specs.Limits.{max_coef, min_coef}
use Rattle.model.specs.Model.{Model}
use Rattle.model.specs.Rows.{Row, Rows, is_equality, row_at, rows_of, set_row}
use Rattle.model.specs.State.{State, state_of, with_box, with_row}
use Rattle.model.specs.Valid.{Between, ValidBox, ValidModel, ValidTable}
use Rattle.model.proofs.BoxLaws.{not-in-empty, same_list-refl, same_list→eq}
use Rattle.model.proofs.RowsLaws.{length-row_of, set_row-other, set_row-row}
use Rattle.row.specs.Activity.{max_activity}
use Rattle.row.proofs.Width.{width-mono, width_same}
use Rattle.row.specs.KindChanges.{remove_row_of, tighten_row_of}
use Rattle.row.specs.Redundancy.{remove_redundant_row, zero_row}
use Rattle.row.specs.Tightening.{tighten_coefficient}
use Rattle.row.proofs.KindChangeLaws.{remove-kinded-ind, remove-kinded-replaces, tighten-kinded-ind, tighten-kinded-length}
use Rattle.row.proofs.RedundancyLaws.{at-zero_row, remove-redundant-row-ind}
use Rattle.row.proofs.TighteningLaws.{tighten-coefficient-ind}
use Rattle.semantics.specs.Call.{Call, Kind, has_row, has_table, has_variable, is_retired, is_unknown, kind_of, probing, propagation, removal, row_propagation, tightening, unknown}
use Rattle.semantics.specs.CallChecks.{call_fault}
use Rattle.semantics.specs.Perform.{Performed, act, perform}
use Rattle.semantics.specs.Probe.{ones, probe}
use Rattle.semantics.specs.Run.{CallClass, Counts, answers_none, changed_call, class_listed, class_of, count_call, infeasible_call, is_refused, no_counts, refusal_of, refused_call, run, run_listed, same_bytes, same_state, step, step_listed, tally, unchanged_call}
use Rattle.call_laws.proofs.Accepted.{Accepted, accepted}
use Rattle.call_laws.proofs.CallLaws.{Narrower, kinded-narrower, probe-box, propagate-narrower, step-ind}
use Rattle.call_laws.proofs.ClassLaws.{same_bytes-refl, same_bytes→eq}
use Rattle.call_laws.proofs.ImplicationLaws.{record_to-added, record_to-same, record_to-valid}
use Rattle.call_laws.proofs.Preserved.{step-preserves}
use Rattle.call_laws.proofs.ProbeLaws.{probe-ind}
use Rattle.call_laws.proofs.RowChange.{row-valid, with_row-same}
use Rattle.demands.specs.Demand2.{Demand2}
use Rattle.demands.specs.Measure.{CallsLower, ListChangesWithin, MeasureLimit, RunChangesWithin, as_changed, changes_made, is_zero, magnitude, measure, numbers_weight, row_weight, rows_weight, total, zeros}
use Rattle.demands.specs.Passes.{total_width}
use Rattle.demands.proofs.Demand2.{demand-2}
use Rattle.demands.proofs.ListedLaws.{class-direct, class-listed-refused, retired-refused, step-direct}
use Rattle.demands.proofs.Passes.{total-width-empty, total-width-is, total-width-limit}

-- ---- sums

total-cong : (n : ℕ) (f g : ℕ → ℕ) → ((j : ℕ) → j < n → f j ≡ g j) → total n f ≡ total n g
unfolding total
total-cong zero f g h = refl
total-cong (suc n) f g h = cc (total-cong n f g (λ j k. h j (omega arith)), h n (omega arith))

-- one term changed
total-one : (n : ℕ) (f g : ℕ → ℕ) (k : ℕ) → k < n → ((j : ℕ) → j < n → j ≢ k → f j ≡ g j) → g k + total n f ≡ f k + total n g
unfolding total
total-one zero f g k l h = absurd (let z : ⊥ = omega arith in z)
total-one (suc n) f g k l h = go (ℕ_discrete k n) (λ (p : k < n). total-one n f g k p (λ j q. h j (omega arith)))
  where
    go : Dec (k ≡ n) → (k < n → g k + total n f ≡ f k + total n g) → g k + (total n f + f n) ≡ f k + (total n g + g n)
    go (yes e) r = let i = total-cong n f g (λ j q. h j (omega arith) (omega arith)) in rw (e, i) (omega arith)
    go (no e) r =
        let i = r (omega arith) in
        let q = h n (omega arith) (omega arith) in
        omega arith

total-limit : (m : ℕ) (f : ℕ → ℕ) (n : ℕ) → ((j : ℕ) → j < n → f j ≤ m) → total n f ≤ n * m
unfolding total
total-limit m f zero h = omega arith
total-limit m f (suc n) h = let i = total-limit m f n (λ j k. h j (omega arith)) in let q = h n (omega arith) in omega arith

-- ---- "as much as before only where it is as before"

-- a becomes at most b, and where it is no less, P
pub record Falls (a b : ℕ) (P : Type 0) : Type 0 where
  pub le : a ≤ b
  pub same : b ≤ a → P

-- nothing has changed
stays : (a : ℕ) {P : Type 0} → P → Falls a a P
stays a p = record { le = omega arith; same = λ _. p }

-- ---- the box

box-falls : {n : ℕ} {P B : List ℤ} → 0 < n → ValidBox n B → Narrower n P B → Falls (total_width n P) (total_width n B) ((P ≡ B) ⊎ (P ≡ empty_box n))
box-falls {n} {P} {B} h v (inl e) = record { le = rw (e, total-width-empty n) (omega arith); same = λ _. inr e }
box-falls {n} {P} {B} h v (inr q) = cases v.shape
  where
    cases : (B ≡ empty_box n) ⊎ NonEmpty n B → Falls (total_width n P) (total_width n B) ((P ≡ B) ⊎ (P ≡ empty_box n))
    cases (inl e) = absurd (not-in-empty n P h q.0 (subst (Inside n P) e q.1))
    cases (inr b) =
        let p = total-width-is h q.0 in let w = total-width-is h b in let m = width-mono q.1 in
        record { le = omega zarith; same = λ g. inl (width_same q.1 q.0.len b.len (omega zarith)) }

-- ---- the table

zeros-ones : (t : List ℕ) → ((i : ℕ) → get_or t i 0 < 2) → zeros t + ones t ≡ length t
unfolding zeros ones
zeros-ones [] h = omega arith
zeros-ones (zero ∷ t) h = let r = zeros-ones t (λ i. h (suc i)) in omega arith
zeros-ones (suc zero ∷ t) h = let r = zeros-ones t (λ i. h (suc i)) in omega arith
zeros-ones (suc (suc x) ∷ t) h = let q = h 0 in let z : ⊥ = omega arith in absurd z

table-falls : {n : ℕ} {t r : List ℕ} (added : ℕ) → ValidTable n t → ValidTable n r → ones r ≡ ones t + added → (added ≡ 0 → r ≡ t)
    → Falls (zeros r) (zeros t) (r ≡ t)
table-falls {n} {t} {r} added v w e f =
    let a = zeros-ones t v.bits in let b = zeros-ones r w.bits in let c = v.len in let d = w.len in
    record { le = omega arith; same = λ g. f (omega arith) }

probe-table : (k budget m : ℕ) (A : Rows) (B : List ℤ) {n : ℕ} {t : List ℕ} → k < n → ValidTable n t
    → Falls (zeros (probe k budget n m A B t).table) (zeros t) ((probe k budget n m A B t).table ≡ t)
probe-table k budget m A B {n} {t} kn v = probe-ind k budget n m A B t (λ r. Falls (zeros r.table) (zeros t) (r.table ≡ t))
    (λ _. stays (zeros t) refl) (λ _ _ _. stays (zeros t) refl) (λ _ _ _. stays (zeros t) refl) (λ _ _ _. stays (zeros t) refl)
    (λ _ _ _. table-falls _ v (record_to-valid n k B _ _ t kn v) (record_to-added n k B _ _ t kn v) (record_to-same n k B _ _ t kn v))

-- ---- the numbers of a row

magnitude-set : (A : List ℤ) (k : ℕ) (a : ℤ) → k < length A → magnitude (set A k a) + nat_abs (at A k) ≡ magnitude A + nat_abs a
unfolding magnitude
magnitude-set [] k a h = let z : ⊥ = omega arith in absurd z
magnitude-set (x ∷ A) zero a h = omega arith
magnitude-set (x ∷ A) (suc k) a h = let r = magnitude-set A k a (omega arith) in omega arith

magnitude-zero_row : (n : ℕ) → magnitude (zero_row n) ≡ 0
unfolding magnitude zero_row
magnitude-zero_row zero = refl
magnitude-zero_row (suc n) = let r = magnitude-zero_row n in omega arith

is_zero-test : (n : ℕ) (A : List ℤ) (b : ℤ) → T (is_zero n A b) ↔ ((b ≡ pos 0) × (A ≡ zero_row n))
unfolding is_zero
is_zero-test n A b = (
  (λ t. (eq_z→eq b (pos 0) (and_l (eq_z b (pos 0)) (same_list A (zero_row n)) t), same_list→eq A (zero_row n) (and_r (eq_z b (pos 0)) (same_list A (zero_row n)) t))),
  (λ e. and_i (eq_z b (pos 0)) (same_list A (zero_row n)) (eq→eq_z b (pos 0) e.0) (rw e.1 (same_list-refl (zero_row n)))),
)

-- numbers that are not all zero weigh 1 more than the coefficients
weight-some : (n : ℕ) (A : List ℤ) (b : ℤ) (k : ℕ) → at A k ≢ pos 0 → numbers_weight n A b ≡ magnitude A + 1
unfolding numbers_weight
weight-some n A b k ne = cond_ind (is_zero n A b) 0 1 (λ (w : ℕ). magnitude A + w ≡ magnitude A + 1)
    (λ t. absurd (ne (ap (λ (z : List ℤ). at z k) ((is_zero-test n A b).0 t).1 ∙ at-zero_row n k))) (λ _. refl)

weight-most : (n : ℕ) (A : List ℤ) (b : ℤ) → numbers_weight n A b ≤ magnitude A + 1
unfolding numbers_weight
weight-most n A b = cond_ind (is_zero n A b) 0 1 (λ (w : ℕ). magnitude A + w ≤ magnitude A + 1) (λ _. omega arith) (λ _. omega arith)

weight-none : (n : ℕ) → numbers_weight n (zero_row n) (pos 0) ≡ 0
unfolding numbers_weight
weight-none n = let t = T→true (is_zero n (zero_row n) (pos 0)) ((is_zero-test n (zero_row n) (pos 0)).1 (refl, refl)) in rw (t, magnitude-zero_row n)

none-weight : (n : ℕ) (A : List ℤ) (b : ℤ) → numbers_weight n A b ≤ 0 → (zero_row n ≡ A) × (pos 0 ≡ b)
unfolding numbers_weight
none-weight n A b = cond_ind (is_zero n A b) 0 1 (λ (w : ℕ). magnitude A + w ≤ 0 → (zero_row n ≡ A) × (pos 0 ≡ b))
    (λ t _. let e = (is_zero-test n A b).0 t in (sym e.1, sym e.0)) (λ _ h. absurd (let z : ⊥ = omega arith in z))

-- coefficient k becomes a, which is closer to 0
set-falls : (n : ℕ) (A : List ℤ) (b : ℤ) (k : ℕ) (a c : ℤ) {P : Type 0} → k < length A → nat_abs a < nat_abs (at A k)
    → Falls (numbers_weight n (set A k a) c) (numbers_weight n A b) P
set-falls n A b k a c h l =
    let e = magnitude-set A k a h in
    let f = weight-some n A b k (λ q. let z : nat_abs (at A k) ≡ 0 = ap nat_abs q in let y : ⊥ = omega arith in y) in
    let g = weight-most n (set A k a) c in
    record { le = omega arith; same = λ q. absurd (let z : ⊥ = omega arith in z) }

tighten-falls : (n : ℕ) (A : List ℤ) (b : ℤ) (B : List ℤ) (k : ℕ) → k < length A
    → let r = tighten_coefficient n A b B k in Falls (numbers_weight n r.coefs r.rhs) (numbers_weight n A b) ((r.coefs ≡ A) × (r.rhs ≡ b))
tighten-falls n A b B k h = tighten-coefficient-ind n A b B k
    (λ r. Falls (numbers_weight n r.coefs r.rhs) (numbers_weight n A b) ((r.coefs ≡ A) × (r.rhs ≡ b)))
    (λ _. stays (numbers_weight n A b) (refl, refl))
    (λ _. stays (numbers_weight n A b) (refl, refl))
    (λ _ o u s _. set-falls n A b k (L -ℤ b) (L -ℤ at A k) h (up (at A k) L b o u s))
    (λ _ o u s. set-falls n A b k (b -ℤ L) b h (down (at A k) L b o u s))
  where
    L : ℤ
    L = max_activity n A B

    up : (a M c : ℤ) → c <ℤ M → (M -ℤ a) <ℤ c → pos 0 <ℤ a → nat_abs (M -ℤ c) < nat_abs a
    up a M c o u s =
        let e = abs-parts (M -ℤ c) in let f = abs-parts a in let g = sub_parts M c in let z = one-part-zero (M -ℤ c) in
        let u' = simp zify at u in omega zarith

    down : (a M c : ℤ) → c <ℤ M → (M +ℤ a) <ℤ c → a ≤ℤ pos 0 → nat_abs (c -ℤ M) < nat_abs a
    down a M c o u s =
        let e = abs-parts (c -ℤ M) in let f = abs-parts a in let g = sub_parts c M in let z = one-part-zero (c -ℤ M) in
        let u' = simp zify at u in omega zarith

remove-falls : (n : ℕ) (A : List ℤ) (b : ℤ) (B : List ℤ)
    → let r = remove_redundant_row n A b B in Falls (numbers_weight n r.coefs r.rhs) (numbers_weight n A b) ((r.coefs ≡ A) × (r.rhs ≡ b))
remove-falls n A b B = remove-redundant-row-ind n A b B
    (λ r. Falls (numbers_weight n r.coefs r.rhs) (numbers_weight n A b) ((r.coefs ≡ A) × (r.rhs ≡ b)))
    (λ _. stays (numbers_weight n A b) (refl, refl))
    (λ _ _. let e = weight-none n in record { le = omega arith; same = λ g. none-weight n A b (omega arith) })
    (λ _ _. stays (numbers_weight n A b) (refl, refl))

-- ---- a row, by its kind

-- the numbers of a row become A and b, and its kind stays
numbers-fall : (n : ℕ) (r : Row) (A : List ℤ) (b : ℤ) → Falls (numbers_weight n A b) (numbers_weight n r.coefs r.rhs) ((A ≡ r.coefs) × (b ≡ r.rhs))
    → let q : Row = record { coefs = A; rhs = b; kind = r.kind } in Falls (row_weight n q) (row_weight n r) (q ≡ r)
unfolding row_weight
numbers-fall n r A b f = let l = f.le in
    record { le = omega arith; same = λ g. let e = f.same (omega arith) in rw (e.0, e.1) }

tighten-kinded-falls : (n : ℕ) (r : Row) (B : List ℤ) (k : ℕ) → k < length r.coefs
    → Falls (row_weight n (tighten_row_of n r B k).row) (row_weight n r) ((tighten_row_of n r B k).row ≡ r)
tighten-kinded-falls n r B k h = tighten-kinded-ind n r B k (λ q. Falls (row_weight n q.row) (row_weight n r) (q.row ≡ r))
    (λ _. stays (row_weight n r) refl)
    (λ _. numbers-fall n r _ _ (tighten-falls n r.coefs r.rhs B k h))

-- an = row that is removed had the kind 1
remove-kinded-falls : (n : ℕ) (r : Row) (B : List ℤ) → Falls (row_weight n (remove_row_of n r B).row) (row_weight n r) ((remove_row_of n r B).row ≡ r)
unfolding row_weight is_equality
remove-kinded-falls n r B = remove-kinded-ind n r B (λ q. Falls (row_weight n q.row) (row_weight n r) (q.row ≡ r))
    (λ _ _. stays (row_weight n r) refl)
    (λ t _ _ _. let k = (eqb-test r.kind 1).0 t in let e = weight-none n in
    record { le = omega arith; same = λ g. absurd (let z : ⊥ = omega arith in z) })
    (λ _ _. stays (row_weight n r) refl)
    (λ _. numbers-fall n r _ _ (remove-falls n r.coefs r.rhs B))

-- ---- a state

-- r has come of s: the measure is at most what it was, and where it is no less, r is s or has the empty box
abbrev StateFalls : State → State → Type 0
StateFalls s r = Falls (measure r) (measure s) ((r ≡ s) ⊎ (r.model.box ≡ empty_box r.model.n))

box-state : (s : State) (P : List ℤ) (t : List ℕ) → ValidModel s.model → Narrower s.model.n P s.model.box
    → Falls (zeros t) (zeros s.table) (t ≡ s.table) → StateFalls s (with_box s P t)
unfolding measure with_box rows_weight
box-state s P t v w f =
    let g = box-falls v.some v.box w in let a = g.le in let b = f.le in
    record {
      le = omega arith;
      same = λ q. ⊎_elim
          (λ (e : P ≡ s.model.box). inl (ap₂ (with_box s) e (f.same (omega arith))))
          (λ e. inr e) (g.same (omega arith));
    }

-- row i becomes r
module _ (s : State) (i : ℕ) (r : Row) (v : ValidModel s.model) (im : i < s.model.m) (len : length r.coefs ≡ s.model.n) where
  rows-one : let M = s.model in row_weight M.n (row_at M.n M.rows i)
      + total M.m (λ j. row_weight M.n (row_at M.n (set_row M.n M.rows i r) j)) ≡ row_weight M.n r + rows_weight M
  unfolding rows_weight
  rows-one =
      let n = s.model.n in let A = s.model.rows in
      let e = total-one s.model.m (λ j. row_weight n (row_at n (set_row n A i r) j)) (λ j. row_weight n (row_at n A j)) i im
      (λ j q ne. ap (row_weight n) (set_row-other n s.model.m A i r v.coefs_len v.rhs_len v.kinds_len im len j q ne)) in
      e ∙ ap (λ (w : ℕ). w + total s.model.m (λ j. row_weight n (row_at n A j)))
      (ap (row_weight n) (set_row-row n s.model.m A i r v.coefs_len v.rhs_len v.kinds_len im len))

  row-state : let old = row_at s.model.n s.model.rows i in
      Falls (row_weight s.model.n r) (row_weight s.model.n old) (r ≡ old) → StateFalls s (with_row s i r)
  unfolding measure rows_weight with_row
  row-state f =
      let e = rows-one in let a = f.le in
      record { le = omega arith; same = λ q. inl (with_row-same s i r (f.same (omega arith))) }

-- ---- a call

act-falls : (k : Kind) (s : State) (c : Call) → Accepted k s c → StateFalls s (act k s c).state
unfolding act has_row has_variable has_table is_unknown
act-falls row_propagation s c a =
    box-state s _ s.table a.model (kinded-narrower (row_at s.model.n s.model.rows c.row) a.model.box) (stays (zeros s.table) refl)
act-falls propagation s c a =
    box-state s _ s.table a.model (propagate-narrower c.budget s.model.m s.model.rows a.model.box) (stays (zeros s.table) refl)
act-falls probing s c a =
    box-state s _ _ a.model (probe-box s c a)
    (probe-table c.variable c.budget s.model.m s.model.rows s.model.box (a.variable tt) (a.table tt))
act-falls tightening s c a =
    let old = row_at s.model.n s.model.rows c.row in
    let len = length-row_of s.model.n s.model.m s.model.rows.coefs c.row a.model.coefs_len (a.row tt) in
    let kn = a.variable tt in
    row-state s c.row _ a.model (a.row tt) (tighten-kinded-length s.model.n old s.model.box c.variable ∙ len)
    (tighten-kinded-falls s.model.n old s.model.box c.variable (omega arith))
act-falls removal s c a =
    let old = row_at s.model.n s.model.rows c.row in
    let len = length-row_of s.model.n s.model.m s.model.rows.coefs c.row a.model.coefs_len (a.row tt) in
    row-state s c.row _ a.model (a.row tt) (remove-kinded-replaces s.model.n old s.model.box len).len
    (remove-kinded-falls s.model.n old s.model.box)
act-falls unknown s c a = absurd a.kind

step_falls : (s : State) (c : Call) → StateFalls s (step s c)
step_falls s c = step-ind s c (StateFalls s) (λ e. act-falls (kind_of c.kind) s c (accepted s c e)) (stays (measure s) (inl refl))

-- what the class of a call says
pub class-ind : (s : State) (c : Call) (P : CallClass → Type 0)
    → (T (is_refused (perform s c).answer) → P (refused_call (refusal_of (perform s c).answer)))
    → (T (not (is_refused (perform s c).answer)) → T (answers_none (perform s c).answer) → P infeasible_call)
    → (T (not (is_refused (perform s c).answer)) → T (not (answers_none (perform s c).answer)) → T (same_state s (step s c)) → P unchanged_call)
    → (T (not (is_refused (perform s c).answer)) → T (not (answers_none (perform s c).answer)) → T (not (same_state s (step s c))) → P changed_call)
    → P (class_of s c)
unfolding class_of step
class-ind s c P f g h k = cond_ind (is_refused (perform s c).answer) _ _ P f
    (λ t. cond_ind (answers_none (perform s c).answer) _ _ P (g t) (λ u. cond_ind (same_state s (perform s c).state) _ _ P (h t u) (k t u)))

-- a call whose class is neither refused nor None was accepted, and its box is not empty afterwards
pub accepted-call : (s : State) (c : Call) → T (not (is_refused (perform s c).answer)) → call_fault s c ≡ 0
unfolding perform is_refused
accepted-call s c = cond_ind (eqb (call_fault s c) 0) _ _ (λ (r : Performed). T (not (is_refused r.answer)) → call_fault s c ≡ 0)
    (λ t _. eqb→eq (call_fault s c) 0 t) (λ _ z. absurd z)

not-emptied : (s : State) (c : Call) → T (not (is_refused (perform s c).answer)) → T (not (answers_none (perform s c).answer))
    → (step s c).model.box ≢ empty_box (step s c).model.n
unfolding Demand2 step
not-emptied s c r t e =
    let m = demand-2 s c (accepted-call s c r) in
    T_not (answers_none (perform s c).answer) t (m.none.1 (e ∙ ap empty_box m.sizes.0))

fields : (s : State) {n m : ℕ} {B C R : List ℤ} {K t : List ℕ} → n ≡ s.model.n → m ≡ s.model.m → B ≡ s.model.box → C ≡ s.model.rows.coefs
    → R ≡ s.model.rows.rhs → K ≡ s.model.rows.kinds → t ≡ s.table → state_of n m B (rows_of C R K) t ≡ s
unfolding state_of
fields s a b c d e f g = rw (a, b, c, d, e, f, g)

same-state : (s r : State) → (r.model.n ≡ s.model.n) × (r.model.m ≡ s.model.m) → T (same_state s r) → r ≡ s
unfolding same_state state_of
same-state s r e t =
    let M = s.model in let N = r.model in
    let B = same_list M.box N.box in let C = same_list M.rows.coefs N.rows.coefs in let R = same_list M.rows.rhs N.rows.rhs in
    let K = same_bytes M.rows.kinds N.rows.kinds in let D = same_bytes s.table r.table in
    let u = and_l (B && C && R && K) D t in
    let w = and_l (B && C && R) K u in
    fields s e.0 e.1 (sym (same_list→eq M.box N.box (and_l B C (and_l (B && C) R w))))
    (sym (same_list→eq M.rows.coefs N.rows.coefs (and_r B C (and_l (B && C) R w))))
    (sym (same_list→eq M.rows.rhs N.rows.rhs (and_r (B && C) R w)))
    (sym (same_bytes→eq M.rows.kinds N.rows.kinds (and_r (B && C && R) K u)))
    (sym (same_bytes→eq s.table r.table (and_r (B && C && R && K) D t)))

state-same-refl : (s : State) → T (same_state s s)
unfolding same_state
state-same-refl s =
    let M = s.model in
    let B = same_list M.box M.box in let C = same_list M.rows.coefs M.rows.coefs in let R = same_list M.rows.rhs M.rows.rhs in
    let K = same_bytes M.rows.kinds M.rows.kinds in let D = same_bytes s.table s.table in
    and_i (B && C && R && K) D
    (and_i (B && C && R) K (and_i (B && C) R (and_i B C (same_list-refl M.box) (same_list-refl M.rows.coefs)) (same_list-refl M.rows.rhs))
    (same_bytes-refl M.rows.kinds)) (same_bytes-refl s.table)

pub call-lowers : CallsLower
unfolding CallsLower
call-lowers s c = let f = step_falls s c in record {
  never = f.le;
  changed = class-ind s c (λ k. k ≡ changed_call → measure (step s c) < measure s)
      (λ _ e. absurd (no-class (refused_call (refusal_of (perform s c).answer)) tt e))
      (λ _ _ e. absurd (no-class infeasible_call tt e))
      (λ _ _ _ e. absurd (no-class unchanged_call tt e))
      (λ r t u _. less f (λ (e : step s c ≡ s). T_not (same_state s (step s c)) u (rw e (state-same-refl s))) (not-emptied s c r t));
  unchanged = class-ind s c (λ k. k ≡ unchanged_call → step s c ≡ s)
      (λ _ e. absurd (no_other (refused_call (refusal_of (perform s c).answer)) tt e))
      (λ _ _ e. absurd (no_other infeasible_call tt e))
      (λ _ _ t _. same-state s (step s c) (step-preserves s c).sizes t)
      (λ _ _ _ e. absurd (no_other changed_call tt e));
}
  where
    is_changed : CallClass → Bool
    is_changed (refused_call number) = false
    is_changed infeasible_call = false
    is_changed changed_call = true
    is_changed unchanged_call = false

    is_unchanged : CallClass → Bool
    is_unchanged (refused_call number) = false
    is_unchanged infeasible_call = false
    is_unchanged changed_call = false
    is_unchanged unchanged_call = true

    no-class : (k : CallClass) → T (not (is_changed k)) → k ≡ changed_call → ⊥
    no-class k t e = T_not (is_changed k) t (subst (λ (z : CallClass). T (is_changed z)) (sym e) tt)

    no_other : (k : CallClass) → T (not (is_unchanged k)) → k ≡ unchanged_call → ⊥
    no_other k t e = T_not (is_unchanged k) t (subst (λ (z : CallClass). T (is_unchanged z)) (sym e) tt)

    less : {r : State} → StateFalls s r → r ≢ s → r.model.box ≢ empty_box r.model.n → measure r < measure s
    less {r} f a b = cases (dec_lt (measure r) (measure s))
      where
        cases : Dec (measure r < measure s) → measure r < measure s
        cases (yes l) = l
        cases (no l) = absurd (⊎_elim a b (f.same (omega arith)))

-- ---- calls one after another

-- so no run raises it
pub run-never : (s : State) (cs : List Call) → measure (run s cs) ≤ measure s
unfolding run CallsLower
run-never s [] = omega arith
run-never s (c ∷ cs) = let a = run-never (step s c) cs in let b = (call-lowers s c).never in omega arith

-- a call lowers it by 1 at least where it counts as changed
counted-lowers : (s : State) (c : Call) → as_changed (class_of s c) + measure (step s c) ≤ measure s
unfolding as_changed CallsLower
counted-lowers s c = let l = call-lowers s c in by (class_of s c) l.never l.changed
  where
    by : (k : CallClass) → measure (step s c) ≤ measure s → (k ≡ changed_call → measure (step s c) < measure s) → as_changed k + measure (step s c) ≤ measure s
    by (refused_call number) l f = omega arith
    by infeasible_call l f = omega arith
    by changed_call l f = let g = f refl in omega arith
    by unchanged_call l f = omega arith

pub run-changes-within : RunChangesWithin
unfolding RunChangesWithin changes_made run
run-changes-within s [] = omega arith
run-changes-within s (c ∷ cs) = let a = run-changes-within (step s c) cs in let b = counted-lowers s c in omega arith

count-changes : (k : CallClass) (n : Counts) → (count_call k n).changes ≡ n.changes + as_changed k
unfolding count_call as_changed
count-changes (refused_call number) n = omega arith
count-changes infeasible_call n = omega arith
count-changes changed_call n = omega arith
count-changes unchanged_call n = omega arith

-- a call of a retired kind counts as refused
listed-lowers : (s : State) (c : Call) → as_changed (class_listed s c) + measure (step_listed s c) ≤ measure s
unfolding as_changed
listed-lowers s c = ⊎_elim
    (λ t. let r = class-listed-refused s c (retired-refused s c t) in rw (← r.0, ← r.1) (omega arith))
    (λ t. rw (class-direct s c t, step-direct s c t) (counted-lowers s c))
    (decide (is_retired (kind_of c.kind)))

tally-changes : (n : Counts) (s : State) (cs : List Call) → (tally n s cs).changes + measure (run_listed s cs) ≤ n.changes + measure s
unfolding tally run_listed
tally-changes n s [] = omega arith
tally-changes n s (c ∷ cs) =
    let a = tally-changes (count_call (class_listed s c) n) (step_listed s c) cs in
    let b = listed-lowers s c in let e = count-changes (class_listed s c) n in
    omega arith

pub list-changes-within : ListChangesWithin
unfolding ListChangesWithin no_counts
list-changes-within s cs = let a = tally-changes no_counts s cs in omega arith

-- ---- the limit

zeros-le : (t : List ℕ) → zeros t ≤ length t
unfolding zeros
zeros-le [] = omega arith
zeros-le (x ∷ t) =
    let r = zeros-le t in cond_ind (eqb x 0) (suc (zeros t)) (zeros t) (λ (z : ℕ). z ≤ length (x ∷ t)) (λ _. omega arith) (λ _. omega arith)

magnitude-limit : (A : List ℤ) → ((j : ℕ) → Between min_coef max_coef (at A j)) → magnitude A ≤ length A * 1_000_000
unfolding magnitude
magnitude-limit [] h = omega arith
magnitude-limit (a ∷ A) h =
    let r = magnitude-limit A (λ j. h (suc j)) in let b = h 0 in let e = abs-parts a in let z = one-part-zero a in omega zarith

row-limit : (M : Model) (i : ℕ) → ValidModel M → i < M.m → row_weight M.n (row_at M.n M.rows i) ≤ 128_000_002
unfolding row_weight
row-limit M i v h =
    let r = row_at M.n M.rows i in
    let w = row-valid M i v h in let g = magnitude-limit r.coefs w.coefs.range in
    let len = w.coefs.len in let few = v.few in let k = v.kinds i in
    let m = weight-most M.n r.coefs r.rhs in omega arith

pub measure-limit : MeasureLimit
unfolding MeasureLimit measure rows_weight
measure-limit s v =
    let o = v.model in
    let a = total-width-limit o.some o.few o.box in
    let b = zeros-le s.table in
    let l = v.table.len in
    let few = o.few in
    let q : s.model.n * s.model.n ≤ 128 * 128 = mul-le-mul few few in
    let d = total-limit 128_000_002 (λ i. row_weight s.model.n (row_at s.model.n s.model.rows i)) s.model.m (λ i h. row-limit s.model i o h) in
    let r = o.few_rows in
    omega arith
