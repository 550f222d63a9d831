-- Call lists: a list is run exactly where the state is valid and its numbers are four to a record; then it is a run over its
-- records that are not retired, else a run over none, so that demand 3 and all that runs keep hold over lists too. Assumes nothing.
use Prim.Native.Nat.{◌*◌, ◌+◌, ◌-◌, ◌/◌, ◌%◌, ◌<◌, ◌≤◌, suc, zero, ℕ}
use lib.Dec.{T, eqb, eqb→eq}
use lib.IntN.{ℤ}
use lib.ListN.{length}
use mathlib.Core.Bool.{Bool, cond, false, true}
use mathlib.Core.List.{List, [], ◌∷◌}
use mathlib.Core.Logic.{◌↔◌, ◌⊎◌, inl, inr, ⊎_elim}
use mathlib.Core.Path.{◌∙◌, ◌≡◌, ap, refl, subst, sym}
use native.Mathlib.Omega.{arith}
use Rattle.integer.proofs.Tests.{T→false, cond_ind, decide, eqb-test, neqb→ne, test-false}
use Rattle.model.specs.Checks.{model_fault, table}
use Rattle.model.specs.State.{State}
use Rattle.model.specs.Valid.{ValidState}
use Rattle.model.proofs.CheckLaws.{fits-table-fault-none}
use Rattle.semantics.specs.Call.{Call, is_retired, kind_of, lengths_of}
use Rattle.semantics.specs.CallChecks.{call_fault}
use Rattle.semantics.specs.CallList.{ListAnswer, ListRun, calls_made, list_checks, list_fault, ran, record_at, records_from, records_of, refused_list, run_list, unretired}
use Rattle.semantics.specs.Perform.{perform}
use Rattle.semantics.specs.Run.{CallClass, Counts, answers_none, changed_call, class_listed, class_of, count_call, infeasible_call, is_refused, no_counts, refusal_of, refused_call, run, run_listed, same_state, step_listed, tally, unchanged_call}
use Rattle.call_laws.specs.Points.{PointOf, TableHolds}
use Rattle.call_laws.proofs.ImplicationLaws.{zeros-hold}
use Rattle.call_laws.proofs.Preserved.{Preserves, preserves-refl, run-preserves, step-preserves}
use Rattle.call_laws.proofs.Tally.{count-total, tally-length, total}
use Rattle.demands.specs.Demand2.{Demand2, Demand2Runs}
use Rattle.demands.specs.TwoLists.{CountsAddUp, Demand3Lists, ListMeans}
use Rattle.demands.specs.TwoRuns.{Demand3, Narrows}
use Rattle.demands.proofs.Demand2.{demand-2, demand-2-runs}
use Rattle.demands.proofs.Demand3.{demand-3}
use Rattle.demands.proofs.ListedLaws.{class-direct, class-listed-refused, listed-ind, retired-refused, run-rows, run-unretired, unretired-narrows}

-- ---- which lists are run

-- the checks of a list are those of the model and table, with one more of the list's own length
pub list-accepted : (s : State) (xs : List ℕ) → (list_fault s xs ≡ 0) ↔ (ValidState s × (length xs % 4 ≡ 0))
unfolding list_fault list_checks model_fault
list-accepted s xs =
    let d = fits-table-fault-none s.model s.table (eqb (length xs % 4) 0) in
    let q = eqb-test (length xs % 4) 0 in (
      (λ e. let h = d.0 e in (record { model = h.0; table = h.1 }, q.0 h.2)),
      (λ h. d.1 (h.0.model, h.0.table, q.1 h.1)),
    )

-- ---- what a list is run as

-- the two cases
pub list-ind : (s : State) (xs : List ℕ) (P : ListRun → Type 0)
    → (list_fault s xs ≡ 0 → P (record { answer = ran (tally no_counts s (records_of s xs)); state = run_listed s (records_of s xs) }))
    → ((list_fault s xs ≡ 0 → ⊥) → P (record { answer = refused_list (list_fault s xs); state = s }))
    → P (run_list s xs)
unfolding run_list
list-ind s xs P f g =
    cond_ind (eqb (list_fault s xs) 0) _ _ P (λ t. f ((eqb-test (list_fault s xs) 0).0 t)) (λ t. g (neqb→ne (list_fault s xs) 0 t))

pub list-runs : (s : State) (xs : List ℕ) → list_fault s xs ≡ 0
    → run_list s xs ≡ record { answer = ran (tally no_counts s (records_of s xs)); state = run_listed s (records_of s xs) }
unfolding run_list
list-runs s xs e = rw e

pub list-refused : (s : State) (xs : List ℕ) → (list_fault s xs ≡ 0 → ⊥) → run_list s xs ≡ record { answer = refused_list (list_fault s xs); state = s }
unfolding run_list
list-refused s xs n = rw (test-false (eqb (list_fault s xs) 0) (eqb-test (list_fault s xs) 0) n)

-- it is a run over the calls that it makes
pub list-made : (s : State) (xs : List ℕ) → (run_list s xs).state ≡ run s (calls_made s xs)
unfolding calls_made run
list-made s xs = list-ind s xs (λ r. r.state ≡ run s (calls_made s xs)) (λ e. rw e (run-unretired s (records_of s xs)))
    (λ n. rw (test-false (eqb (list_fault s xs) 0) (eqb-test (list_fault s xs) 0) n))

-- of which each accepted one narrows, so that no row changes
pub list-narrows : (s : State) (xs : List ℕ) → Narrows s (calls_made s xs)
unfolding calls_made Narrows
list-narrows s xs =
    cond_ind (eqb (list_fault s xs) 0) (unretired (records_of s xs)) [] (Narrows s) (λ _. unretired-narrows s (records_of s xs)) (λ _. tt)

pub list-rows : (s : State) (xs : List ℕ) → (run_list s xs).state.model.rows ≡ s.model.rows
list-rows s xs = rw (list-made s xs) (run-rows s (calls_made s xs) (list-narrows s xs))

-- ---- what every list keeps, refused or not: a valid state among it, so no later list is refused for its model

pub list-preserves : (s : State) (xs : List ℕ) → Preserves s (run_list s xs).state
list-preserves s xs = rw (list-made s xs) (run-preserves s (calls_made s xs))

pub list-again : (s : State) (xs ys : List ℕ) → ValidState s → length ys % 4 ≡ 0 → list_fault (run_list s xs).state ys ≡ 0
list-again s xs ys v e = (list-accepted (run_list s xs).state ys).1 ((list-preserves s xs).valid v, e)

-- ---- demand 3

pub demand-3-lists : Demand3Lists
unfolding Demand3Lists Demand3
demand-3-lists s before one two g =
    let r = run s before in
    let e1 = list-made r one in
    let e2 = list-made r two in
    let t = demand-3 s before (calls_made r one) (calls_made r two) g (list-narrows r one) (list-narrows r two) in
    record {
      same_end = rw (e1, e2) t.same_end;
      points1 = rw e1 t.points1;
      points2 = rw e2 t.points2;
      implied1 = rw e1 t.implied1;
      implied2 = rw e2 t.implied2;
    }

-- ---- the four counts

records-count : (count : ℕ) (s : State) (xs : List ℕ) (i : ℕ) → length (records_from count s xs i) ≡ count
unfolding records_from
records-count zero s xs i = refl
records-count (suc count) s xs i = ap suc (records-count count s xs (i + 1))

ran-injective : {j k : Counts} → ran j ≡ ran k → j ≡ k
ran-injective e = cc

pub counts-add-up : CountsAddUp
unfolding CountsAddUp records_of
counts-add-up s xs k = list-ind s xs (λ r. r.answer ≡ ran k → 4 * total k ≡ length xs)
    (λ h e. let d = ((list-accepted s xs).0 h).1 in
    rw (sym (ran-injective e)) (omega (arith, tally-length s (records_of s xs), records-count (length xs / 4) s xs 0)))
    (λ _ e. cc)

-- ---- what a list means

-- a class other than None
abbrev NotNone : CallClass → Type 0
NotNone (refused_call number) = Unit {0}
NotNone infeasible_call = ⊥
NotNone changed_call = Unit {0}
NotNone unchanged_call = Unit {0}

is-none : (r a u : Bool) (N : ℕ) → cond r (refused_call N) (cond a infeasible_call (cond u unchanged_call changed_call)) ≡ infeasible_call → T a
is-none true a u N e = absurd (subst NotNone e tt)
is-none false true u N e = tt
is-none false false true N e = absurd (subst NotNone e tt)
is-none false false false N e = absurd (subst NotNone e tt)

-- a call that counts as None is accepted, and answers None
none-no-point : (s : State) (c : Call) → class_of s c ≡ infeasible_call → (x : List ℤ) → PointOf s x → ⊥
unfolding class_of perform answers_none Demand2
none-no-point s c e x p =
    let a = (perform s c).answer in
    let t = is-none (is_refused a) (answers_none a) (same_state s (perform s c).state) (refusal_of a) e in
    ⊎_elim (λ h. (demand-2 s c (eqb→eq (call_fault s c) 0 h)).no_point t x p) (λ h. absurd (rw (T→false (eqb (call_fault s c) 0) h) at t))
    (decide (eqb (call_fault s c) 0))

listed-no-point : (s : State) (c : Call) → class_listed s c ≡ infeasible_call → (x : List ℤ) → PointOf s x → ⊥
listed-no-point s c e x p = ⊎_elim
    (λ t. subst NotNone ((class-listed-refused s c (retired-refused s c t)).0 ∙ e) tt) (λ t. none-no-point s c (sym (class-direct s c t) ∙ e) x p)
    (decide (is_retired (kind_of c.kind)))

-- a call that a list makes keeps what direct calls keep
listed-preserves : (s : State) (c : Call) → Preserves s (step_listed s c)
listed-preserves s c = listed-ind s c (Preserves s) (preserves-refl s) (step-preserves s c)

counted_none : (q : CallClass) (k : Counts) → 0 < (count_call q k).infeasibles → (q ≡ infeasible_call) ⊎ (0 < k.infeasibles)
unfolding count_call
counted_none (refused_call number) k h = inr h
counted_none infeasible_call k h = inl refl
counted_none changed_call k h = inr h
counted_none unchanged_call k h = inr h

tally-none : (k : Counts) (s : State) (cs : List Call) → (0 < k.infeasibles → (x : List ℤ) → PointOf s x → ⊥)
    → 0 < (tally k s cs).infeasibles → (x : List ℤ) → PointOf s x → ⊥
unfolding tally
tally-none k s [] g h x p = g h x p
tally-none k s (c ∷ cs) g h x p =
    let o = (listed-preserves s c).points in
    tally-none (count_call (class_listed s c) k) (step_listed s c) cs
    (λ z y q. ⊎_elim (λ e. listed-no-point s c e y ((o y).0 q)) (λ w. g w y ((o y).0 q)) (counted_none (class_listed s c) k z)) h x ((o x).1 p)

abbrev Ran : ListAnswer → Type 0
Ran (refused_list number) = ⊥
Ran (ran k) = Unit {0}

pub list-means : (s : State) (xs : List ℕ) → ListMeans s (run_list s xs)
unfolding no_counts Demand2Runs
list-means s xs =
    let p = list-preserves s xs in
    let holds : (x : List ℤ) → PointOf s x → TableHolds s.model.n s.table x → TableHolds s.model.n (run_list s xs).state.table x =
    (λ x o t. rw p.sizes.0 at (p.holds x o t)) in
    record {
      points = p.points;
      fractional = p.fractional;
      no_point = λ k. list-ind s xs (λ r. r.answer ≡ ran k → 0 < k.infeasibles → (x : List ℤ) → PointOf s x → ⊥)
          (λ _ e h. tally-none no_counts s (records_of s xs) (λ z. absurd (let w : ⊥ = omega arith in w)) (rw (sym (ran-injective e)) at h))
          (λ _ e. absurd (subst Ran (sym e) tt));
      holds = holds;
      implied = λ e x o. holds x o (rw e (zeros-hold s.model.n (4 * (s.model.n * s.model.n)) x));
      made = (calls_made s xs, list-made s xs, demand-2-runs s (calls_made s xs));
      rows = list-rows s xs;
    }

-- ---- a run record by record: before record i, the state is s and k are counted

pub record Along (s₀ : State) (xs : List ℕ) (s : State) (k : Counts) (i : ℕ) : Type 0 where
  pub bound : i ≤ length xs / 4
  pub counted : total k ≡ i
  pub start : ValidState s₀
  pub valid : ValidState s
  pub sizes : (s.model.n ≡ s₀.model.n) × (s.model.m ≡ s₀.model.m)
  -- what is left from here gives the whole
  pub runs : run_listed s (records_from (length xs / 4 - i) s₀ xs i) ≡ run_listed s₀ (records_of s₀ xs)
  pub tallies : tally k s (records_from (length xs / 4 - i) s₀ xs i) ≡ tally no_counts s₀ (records_of s₀ xs)

pub along-start : (s : State) (xs : List ℕ) → ValidState s → Along s xs s no_counts 0
unfolding records_of no_counts
along-start s xs v = let e : length xs / 4 - 0 ≡ length xs / 4 = omega arith in
    record { bound = omega arith; counted = refl; start = v; valid = v; sizes = (refl, refl); runs = rw e; tallies = rw e }

-- valid states of one size have buffers of the same lengths, so that a record is the same call on both
valid-lengths : (s : State) → ValidState s → lengths_of s ≡ record { box = 2 * s.model.n; coefs = s.model.m * s.model.n; rhs = s.model.m; kinds = s.model.m; table = 4 * (s.model.n * s.model.n) }
unfolding lengths_of
valid-lengths s v = rw (v.model.box.len, v.model.coefs_len, v.model.rhs_len, v.model.kinds_len, v.table.len)

pub same-record : {s r : State} (xs : List ℕ) (i : ℕ) → ValidState s → ValidState r → (s.model.n ≡ r.model.n) × (s.model.m ≡ r.model.m) → record_at r xs i ≡ record_at s xs i
unfolding record_at
same-record {s} {r} xs i v w e = rw (valid-lengths s v, valid-lengths r w, e.0, e.1)

module _ (s₀ : State) (xs : List ℕ) (s : State) (k : Counts) (i : ℕ) (a : Along s₀ xs s k i) where
  -- record i counts as q and leaves r
  pub along-more : {r : State} {q : CallClass} {j : Counts} → i < length xs / 4
      → (q ≡ class_listed s (record_at s xs i)) × (r ≡ step_listed s (record_at s xs i)) → j ≡ count_call q k → Along s₀ xs r j (i + 1)
  unfolding records_from run_listed tally
  along-more h d g =
      let c = record_at s xs i in
      let p = listed-preserves s c in
      let e : length xs / 4 - i ≡ suc (length xs / 4 - (i + 1)) = omega arith in
      let f = same-record xs i a.valid a.start a.sizes in
      rw (g, d.0, d.1) (record {
        bound = omega arith;
        counted = omega (arith, count-total (class_listed s c) k, a.counted);
        start = a.start;
        valid = p.valid a.valid;
        sizes = (p.sizes.0 ∙ a.sizes.0, p.sizes.1 ∙ a.sizes.1);
        runs = rw (e, f) at a.runs;
        tallies = rw (e, f) at a.tallies;
      })

  pub along-end : length xs / 4 ≤ i → length xs % 4 ≡ 0 → record { answer = ran k; state = s } ≡ run_list s₀ xs
  unfolding records_from run_listed tally
  along-end h d =
      let e : length xs / 4 - i ≡ 0 = omega arith in
      sym (list-runs s₀ xs ((list-accepted s₀ xs).1 (a.start, d)) ∙ rw (sym a.runs, sym a.tallies, e))
