-- The passes that calls make never exceed what is told beforehand: a propagation makes at most its budget's, and at most one more than
-- the box is wide, and no call widens the box.
use Prim.Native.Nat.{◌*◌, ◌+◌, ◌/◌, ◌<◌, ◌≤◌, suc, zero, ℕ}
use lib.Dec.{T, eqb, eqb→eq, leb, leb→le, nleb→lt}
use lib.IntN.{nat_abs, negsuc, pos, ℤ}
use lib.ListN.{get_or, length}
use lib.Signed.{◌≤ℤ◌, pos-nat_abs, yes_non_neg}
use mathlib.Core.Bool.{◌||◌}
use mathlib.Core.List.{List, [], ◌∷◌}
use mathlib.Core.Logic.{◌⊎◌, inl, inr, ⊎_elim}
use mathlib.Core.Path.{◌≡◌, subst}
use native.Mathlib.Numerals.{add-one}
use native.Mathlib.Omega.{arith}
use Rattle.integer.proofs.Parts.{zarith}
use Rattle.integer.proofs.Tests.{T→true, cond_ind, false→T, or_r}
use Rattle.model.specs.Box.{Inside, NonEmpty, empty_box, is_empty, is_free, width}
use Rattle.model.specs.Limits.{max_variables}
use Rattle.model.specs.Rows.{Rows}
use Rattle.model.specs.State.{State, with_box, with_row}
use Rattle.model.specs.Valid.{ValidBox}
use Rattle.model.proofs.BoxLaws.{is_empty_empty, is_empty→eq, non_empty-isn't, not-in-empty}
use Rattle.model.proofs.CheckLaws.{valid-width}
use Rattle.row.proofs.Width.{width-mono, width-nonneg}
use Rattle.semantics.specs.Call.{Call, Kind, has_budget, has_variable, is_retired, is_unknown, kind_of, narrows, probing, propagation, removal, row_propagation, tightening, unknown}
use Rattle.semantics.specs.CallChecks.{call_fault}
use Rattle.semantics.specs.CallList.{calls_made, list_fault, record_at, records_from, records_of, unretired}
use Rattle.semantics.specs.Perform.{Performed, act, perform}
use Rattle.semantics.specs.Probe.{fix, probe, side_of}
use Rattle.semantics.specs.Propagate.{is_spent, propagate}
use Rattle.semantics.specs.Run.{step}
use Rattle.call_laws.specs.Convergence.{EnoughPasses}
use Rattle.call_laws.proofs.Accepted.{Accepted, accepted}
use Rattle.call_laws.proofs.CallLaws.{Narrower, act-narrowed, step-ind}
use Rattle.call_laws.proofs.Convergence.{propagate-ends}
use Rattle.call_laws.proofs.ProbeLaws.{fix-inside, fix-non_empty, probe-empty, probe-side0, probe-side1}
use Rattle.call_laws.proofs.PropagateLaws.{propagate-empty, propagate-moved-le, propagate-moved-passes, propagate-passes}
use Rattle.demands.specs.Passes.{ListPassesWithin, NeverSpent, RunPassesWithin, call_limit, calls_limit, enough_budget, lesser, limit_to, pass_limit, passes_made, passes_of, total_width}

-- ---- the total width

abs-above : (z : ℤ) → z ≤ℤ pos (nat_abs z)
abs-above (pos n) = omega zarith
abs-above (negsuc n) = omega zarith

pub total-width-empty : (n : ℕ) → total_width n (empty_box n) ≡ 0
unfolding total_width
total-width-empty n = rw (T→true (is_empty n (empty_box n)) (is_empty_empty n))

module _ {n : ℕ} {B : List ℤ} (h : 0 < n) (p : NonEmpty n B) where
  -- of a box that is not empty it is the width itself
  pub total-width-is : pos (total_width n B) ≡ width n B
  unfolding total_width
  total-width-is = rw (non_empty-isn't h p) (pos-nat_abs (width n B) (yes_non_neg (width-nonneg p)))

  pub total-width-inside : {Q : List ℤ} → Inside n B Q → total_width n B ≤ total_width n Q
  unfolding total_width
  total-width-inside {Q} i =
      let e : total_width n B ≡ nat_abs (width n B) = rw (non_empty-isn't h p) in
      rw e (cond_ind (is_empty n Q) 0 (nat_abs (width n Q)) (λ w. nat_abs (width n B) ≤ w)
      (λ t. absurd (not-in-empty n B h p (subst (Inside n B) (is_empty→eq n Q t) i)))
      (λ _. let s = pos-nat_abs (width n B) (yes_non_neg (width-nonneg p)) in let m = width-mono i in let a = abs-above (width n Q) in omega zarith))

-- it does not grow
pub total-width-narrower : {n : ℕ} {P B : List ℤ} → 0 < n → Narrower n P B → total_width n P ≤ total_width n B
total-width-narrower {n} {P} {B} h (inl e) = rw (e, total-width-empty n) (omega arith)
total-width-narrower {n} {P} {B} h (inr (p, i)) = total-width-inside h p i

-- in a box that passes the checks it is at most 128 × 4,096
pub total-width-limit : {n : ℕ} {B : List ℤ} → 0 < n → n ≤ max_variables → ValidBox n B → total_width n B ≤ 524_288
total-width-limit {n} {B} h few v = ⊎_elim
    (λ (e : B ≡ empty_box n). rw (e, total-width-empty n) (omega arith))
    (λ p. let e = total-width-is h p in let w = valid-width v in omega zarith)
    v.shape

-- ---- the lesser of two

pub lesser-le : (a b k : ℕ) → k ≤ a → k ≤ b → k ≤ lesser a b
unfolding lesser
lesser-le a b k h g = cond_ind (leb a b) a b (λ r. k ≤ r) (λ _. h) (λ _. g)

pub lesser-l : (a b : ℕ) → lesser a b ≤ a
unfolding lesser
lesser-l a b = cond_ind (leb a b) a b (λ r. r ≤ a) (λ _. omega arith) (λ t. omega (arith, nleb→lt a b t))

pub lesser-r : (a b : ℕ) → lesser a b ≤ b
unfolding lesser
lesser-r a b = cond_ind (leb a b) a b (λ r. r ≤ b) (λ t. leb→le a b t) (λ _. omega arith)

lesser-mono : (a b c : ℕ) → b ≤ c → lesser a b ≤ lesser a c
lesser-mono a b c h = lesser-le a c (lesser a b) (lesser-l a b) (omega (arith, lesser-r a b))

limit-mono : (k : Kind) (v w budget : ℕ) → v ≤ w → call_limit v k budget ≤ call_limit w k budget
unfolding call_limit
limit-mono row_propagation v w budget h = omega arith
limit-mono propagation v w budget h = lesser-mono budget (v + 1) (w + 1) (omega arith)
limit-mono probing v w budget h = let l = lesser-mono budget (v + 1) (w + 1) (omega arith) in omega arith
limit-mono tightening v w budget h = omega arith
limit-mono removal v w budget h = omega arith
limit-mono unknown v w budget h = omega arith

-- ---- the passes of one call

module _ (budget m : ℕ) (A : Rows) {n : ℕ} (h : 0 < n) (b : 1 ≤ budget) where
  non_empty-passes : {B : List ℤ} → NonEmpty n B → (propagate budget n m A B).passes ≤ lesser budget (total_width n B + 1)
  non_empty-passes {B} p = lesser-le budget (total_width n B + 1) (propagate budget n m A B).passes (propagate-passes n m A budget B b).1
      (let e = total-width-is h p in let l = propagate-moved-le m A budget p in let g = propagate-moved-passes n m A budget B in omega zarith)

  -- of a settle
  pub propagate-within : {B : List ℤ} → ValidBox n B → (propagate budget n m A B).passes ≤ lesser budget (total_width n B + 1)
  propagate-within {B} v = ⊎_elim
      (λ (e : B ≡ empty_box n). rw (e, propagate-empty budget n m A) (lesser-le budget (total_width n (empty_box n) + 1) 1 b (omega arith)))
      non_empty-passes
      v.shape

  -- of a side of a probe
  side-within : (k v : ℕ) {B : List ℤ} → v < 2 → T (is_free B k) → NonEmpty n B
      → (propagate budget n m A (fix n B k v)).passes ≤ lesser budget (total_width n B + 1)
  side-within k v {B} l f p =
      let w = total-width-narrower h (inr (fix-non_empty k v p, fix-inside k v f l)) in
      let g = lesser-mono budget (total_width n (fix n B k v) + 1) (total_width n B + 1) (omega arith) in
      omega (arith, non_empty-passes (fix-non_empty k v p))

  -- of both
  pub probe-within : (k : ℕ) (t : List ℕ) {B : List ℤ} → T (is_empty n B || is_free B k) → ValidBox n B
      → let r = probe k budget n m A B t in r.side0.passes + r.side1.passes ≤ 2 * lesser budget (total_width n B + 1)
  unfolding side_of
  probe-within k t {B} f v = ⊎_elim
      (λ (e : B ≡ empty_box n). rw (e, probe-empty k budget n m A t) (omega arith))
      sides
      v.shape
    where
      sides : NonEmpty n B → let r = probe k budget n m A B t in r.side0.passes + r.side1.passes ≤ 2 * lesser budget (total_width n B + 1)
      sides p =
          let e = false→T (is_empty n B) (non_empty-isn't h p) in
          let g = or_r (is_empty n B) (is_free B k) f e in
          rw (probe-side0 k budget n m A B t e, probe-side1 k budget n m A B t e)
          (omega (arith, side-within k 0 (omega arith) g p, side-within k 1 (omega arith) g p))

module _ (s : State) (c : Call) where
  abbrev wide : ℕ
  wide = total_width s.model.n s.model.box

  act-passes : (k : Kind) → Accepted k s c → passes_of (act k s c).answer ≤ call_limit wide k c.budget
  unfolding act passes_of call_limit has_budget has_variable
  act-passes row_propagation a = omega arith
  act-passes propagation a = propagate-within c.budget s.model.m s.model.rows a.model.some (a.budget tt).0 a.model.box
  act-passes probing a =
      probe-within c.budget s.model.m s.model.rows a.model.some (a.budget tt).0 c.variable s.table (a.free tt) a.model.box
  act-passes tightening a = omega arith
  act-passes removal a = omega arith
  act-passes unknown a = omega arith

  -- a refused call makes none
  pub call_passes : passes_of (perform s c).answer ≤ call_limit wide (kind_of c.kind) c.budget
  unfolding perform passes_of
  call_passes = cond_ind (eqb (call_fault s c) 0) _ _ (λ (r : Performed). passes_of r.answer ≤ call_limit wide (kind_of c.kind) c.budget)
      (λ t. act-passes (kind_of c.kind) (accepted s c (eqb→eq (call_fault s c) 0 t)))
      (λ _. omega arith)

  -- ---- no call widens the box

  narrowed-width : (k : Kind) → T (narrows k) → Accepted k s c → let r = (act k s c).state in total_width r.model.n r.model.box ≤ wide
  unfolding with_box
  narrowed-width k t a =
      let q = act-narrowed k s c t a in
      rw q.is (total-width-narrower a.model.some q.narrowed.box)

  act-width : (k : Kind) → Accepted k s c → let r = (act k s c).state in total_width r.model.n r.model.box ≤ wide
  unfolding act narrows with_row is_unknown
  act-width row_propagation a = narrowed-width row_propagation tt a
  act-width propagation a = narrowed-width propagation tt a
  act-width probing a = narrowed-width probing tt a
  act-width tightening a = omega arith
  act-width removal a = omega arith
  act-width unknown a = absurd a.kind

  pub step-width : total_width (step s c).model.n (step s c).model.box ≤ wide
  step-width = step-ind s c (λ r. total_width r.model.n r.model.box ≤ wide) (λ e. act-width (kind_of c.kind) (accepted s c e)) (omega arith)

-- ---- the passes of a run and of a list

-- with any width that is not below the box's
run-within : (w : ℕ) (s : State) (cs : List Call) → total_width s.model.n s.model.box ≤ w → passes_made s cs ≤ calls_limit w cs
unfolding passes_made calls_limit
run-within w s [] h = omega arith
run-within w s (c ∷ cs) h =
    let p = call_passes s c in
    let l = limit-mono (kind_of c.kind) (total_width s.model.n s.model.box) w c.budget h in
    let r = run-within w (step s c) cs (omega (arith, step-width s c)) in
    omega arith

pub run-passes-within : RunPassesWithin
unfolding RunPassesWithin
run-passes-within s cs = run-within (total_width s.model.n s.model.box) s cs (omega arith)

-- the limit record by record is that of the calls that the records are
records-limit : (w : ℕ) (s : State) (xs : List ℕ) (count i : ℕ) → limit_to w i xs + calls_limit w (records_from count s xs i) ≡ limit_to w (i + count) xs
unfolding limit_to calls_limit records_from record_at
records-limit w s xs zero i = let e : i ≡ i + 0 = omega arith in rw (← e) (omega arith)
records-limit w s xs (suc count) i =
    let e : i + 1 + count ≡ i + suc count = omega arith in
    let l : limit_to w (i + 1) xs ≡ limit_to w i xs + call_limit w (kind_of (get_or xs (4 * i) 0)) (get_or xs (4 * i + 3) 0) = rw add-one in
    let r = records-limit w s xs count (i + 1) in
    rw (← e) (omega arith)

-- a record of a retired kind makes no pass, and none is counted for it
unretired-limit : (w : ℕ) (cs : List Call) → calls_limit w (unretired cs) ≤ calls_limit w cs
unfolding calls_limit unretired
unretired-limit w [] = omega arith
unretired-limit w (c ∷ cs) =
    cond_ind (is_retired (kind_of c.kind)) (unretired cs) (c ∷ unretired cs)
    (λ ds. calls_limit w ds ≤ call_limit w (kind_of c.kind) c.budget + calls_limit w cs)
    (λ _. omega (arith, unretired-limit w cs))
    (λ _. omega (arith, unretired-limit w cs))

pub list-passes-within : ListPassesWithin
unfolding ListPassesWithin pass_limit calls_made records_of passes_made limit_to
list-passes-within s xs =
    let w = total_width s.model.n s.model.box in
    let R : List Call = records_from (length xs / 4) s xs 0 in
    cond_ind (eqb (list_fault s xs) 0) (unretired R) [] (λ cs. passes_made s cs ≤ limit_to w (length xs / 4) xs)
    (λ _. let z : 0 + length xs / 4 ≡ length xs / 4 = omega arith in
    omega (arith, run-within w s (unretired R) (omega arith), unretired-limit w R, rw z at (records-limit w s xs (length xs / 4) 0)))
    (λ _. omega arith)

-- ---- the budget that is never spent

pub enough-budget : NeverSpent
unfolding NeverSpent enough_budget EnoughPasses is_spent
enough-budget M v = (
  ⊎_elim
      (λ (e : M.box ≡ empty_box M.n). rw (e, propagate-empty (total_width M.n (empty_box M.n) + 1) M.n M.m M.rows) tt)
      (λ p. let e = total-width-is v.some p in
      (propagate-ends (total_width M.n M.box + 1) M.n M.m M.rows M.box v.some p (omega zarith)).not_spent)
      v.box.shape,
  omega arith,
  omega (arith, total-width-limit v.some v.few v.box),
)
