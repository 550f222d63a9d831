-- A call that a list makes is the direct call, unless its kind is retired: then it is refused, and leaves the state. So the run of a list
-- is a run over its other calls, each accepted one of them narrows, and no row changes. Assumes nothing.
use lib.Dec.{T, eqb}
use mathlib.Core.Bool.{not}
use mathlib.Core.List.{List, [], ◌++◌, ◌∷◌}
use mathlib.Core.Logic.{⊎_elim}
use mathlib.Core.Path.{◌∙◌, ◌≡◌, ap, refl, sym}
use native.Mathlib.Omega.{arith}
use Rattle.integer.proofs.Tests.{cond_ind, decide, eqb-test, test-false}
use Rattle.model.specs.Checks.{box_checks, first, length_checks, model_checks, number_checks, size_checks, table_byte_checks, table_length_checks}
use Rattle.model.specs.State.{State, with_box}
use Rattle.model.specs.Valid.{ValidState}
use Rattle.model.proofs.CheckLaws.{first-zero-append}
use Rattle.semantics.specs.Call.{Call, Kind, has_table, is_retired, is_unknown, kind_of, lengths_of, narrows, probing, propagation, removal, row_propagation, tightening, unknown}
use Rattle.semantics.specs.CallChecks.{call_checks, call_fault, given_model, is_lent, lent_table, listed_checks, listed_fault, record_checks}
use Rattle.semantics.specs.CallList.{unretired}
use Rattle.semantics.specs.Perform.{Performed, perform, perform_listed}
use Rattle.semantics.specs.Run.{class_from, class_listed, class_of, is_refused, refusal_of, refused_call, run, run_listed, step, step_listed}
use Rattle.call_laws.proofs.Accepted.{accepted, fault-listed-own, numbered-model}
use Rattle.call_laws.proofs.CallLaws.{act-narrowed, step-ind}
use Rattle.demands.specs.TwoRuns.{Narrows}

-- ---- of a kind that is not retired

listed-first : (k : Kind) (s : State) (c : Call) → T (not (is_retired k))
    → first (model_checks (given_model s c) (lent_table k s) (is_lent k s c) ++ listed_checks k s c) ≡ first (call_checks k s c)
unfolding first call_checks listed_checks record_checks is_retired model_checks size_checks length_checks table_length_checks box_checks number_checks table_byte_checks lent_table has_table
listed-first row_propagation s c t = refl
listed-first propagation s c t = refl
listed-first probing s c t = refl
listed-first tightening s c t = absurd t
listed-first removal s c t = absurd t
listed-first unknown s c t = refl

pub listed-fault : (s : State) (c : Call) → T (not (is_retired (kind_of c.kind))) → listed_fault s c ≡ call_fault s c
unfolding listed_fault call_fault
listed-fault s c t = listed-first (kind_of c.kind) s c t

pub listed-direct : (s : State) (c : Call) → T (not (is_retired (kind_of c.kind))) → perform_listed s c ≡ perform s c
unfolding perform_listed perform
listed-direct s c t = rw (listed-fault s c t)

pub class-direct : (s : State) (c : Call) → T (not (is_retired (kind_of c.kind))) → class_listed s c ≡ class_of s c
unfolding class_listed class_of
class-direct s c t = ap (class_from s) (listed-direct s c t)

pub step-direct : (s : State) (c : Call) → T (not (is_retired (kind_of c.kind))) → step_listed s c ≡ step s c
unfolding step_listed step
step-direct s c t = ap (λ (p : Performed). p.state) (listed-direct s c t)

-- ---- of one that is

own-retired : (k : Kind) (s : State) (c : Call) → T (is_retired k) → first (listed_checks k s c) ≡ 18
unfolding first listed_checks is_retired is_unknown
own-retired row_propagation s c t = absurd t
own-retired propagation s c t = absurd t
own-retired probing s c t = absurd t
own-retired tightening s c t = refl
own-retired removal s c t = refl
own-retired unknown s c t = absurd t

pub retired-refused : (s : State) (c : Call) → T (is_retired (kind_of c.kind)) → listed_fault s c ≡ 0 → ⊥
unfolding listed_fault
retired-refused s c t e =
    let k = kind_of c.kind in
    let d = ((first-zero-append (model_checks (given_model s c) (lent_table k s) (is_lent k s c)) (listed_checks k s c)
    (numbered-model (given_model s c) (lent_table k s) (is_lent k s c))).0 e).1 in
    let z = own-retired k s c t in
    let w : ⊥ = omega arith in w

-- by 18, in a valid state that it is lent all of: whatever its fields, and on the empty box too
pub retired-by-18 : (s : State) (c : Call) → ValidState s → c.n ≡ s.model.n → c.m ≡ s.model.m → c.lengths ≡ lengths_of s
    → T (is_retired (kind_of c.kind)) → listed_fault s c ≡ 18
retired-by-18 s c v n m l t = fault-listed-own s c v n m l ∙ own-retired (kind_of c.kind) s c t

-- ---- a refused call counts as refused and leaves the state

pub class-listed-refused : (s : State) (c : Call) → (listed_fault s c ≡ 0 → ⊥) → (refused_call (listed_fault s c) ≡ class_listed s c) × (s ≡ step_listed s c)
unfolding class_listed step_listed perform_listed is_refused refusal_of
class-listed-refused s c n = (
  rw (test-false (eqb (listed_fault s c) 0) (eqb-test (listed_fault s c) 0) n),
  cond_ind (eqb (listed_fault s c) 0) _ _ (λ (p : Performed). s ≡ p.state) (λ t. absurd (n ((eqb-test (listed_fault s c) 0).0 t))) (λ _. refl),
)

pub step-retired : (s : State) (c : Call) → T (is_retired (kind_of c.kind)) → step_listed s c ≡ s
step-retired s c t = sym (class-listed-refused s c (retired-refused s c t)).1

-- the two cases
pub listed-ind : (s : State) (c : Call) (P : State → Type 0) → P s → P (step s c) → P (step_listed s c)
listed-ind s c P p q = ⊎_elim (λ t. rw (step-retired s c t) p) (λ t. rw (step-direct s c t) q) (decide (is_retired (kind_of c.kind)))

-- ---- the run of a list

pub run-unretired : (s : State) (cs : List Call) → run_listed s cs ≡ run s (unretired cs)
unfolding run_listed run unretired
run-unretired s [] = refl
run-unretired s (c ∷ cs) =
    run-unretired (step_listed s c) cs
    ∙ cond_ind (is_retired (kind_of c.kind)) (unretired cs) (c ∷ unretired cs) (λ (ds : List Call). run (step_listed s c) (unretired cs) ≡ run s ds)
    (λ t. rw (step-retired s c t)) (λ t. rw (step-direct s c t))

narrows-other : (k : Kind) → T (not (is_retired k)) → T (not (is_unknown k)) → T (narrows k)
unfolding is_retired is_unknown narrows
narrows-other row_propagation t u = tt
narrows-other propagation t u = tt
narrows-other probing t u = tt
narrows-other tightening t u = absurd t
narrows-other removal t u = absurd t
narrows-other unknown t u = absurd u

-- "an accepted call is a visit, a settle or a probe"
pub unretired-narrows : (s : State) (cs : List Call) → Narrows s (unretired cs)
unfolding Narrows unretired
unretired-narrows s [] = tt
unretired-narrows s (c ∷ cs) =
    cond_ind (is_retired (kind_of c.kind)) (unretired cs) (c ∷ unretired cs) (Narrows s) (λ _. unretired-narrows s cs)
    (λ t. ((λ e. narrows-other (kind_of c.kind) t (accepted s c e).kind), unretired-narrows (step s c) cs))

-- such calls leave every row, right side and kind
step-rows : (s : State) (c : Call) → (call_fault s c ≡ 0 → T (narrows (kind_of c.kind))) → (step s c).model.rows ≡ s.model.rows
unfolding with_box
step-rows s c f = step-ind s c (λ r. r.model.rows ≡ s.model.rows)
    (λ e. ap (λ (r : State). r.model.rows) (act-narrowed (kind_of c.kind) s c (f e) (accepted s c e)).is) refl

pub run-rows : (s : State) (cs : List Call) → Narrows s cs → (run s cs).model.rows ≡ s.model.rows
unfolding run Narrows
run-rows s [] w = refl
run-rows s (c ∷ cs) w = run-rows (step s c) cs w.1 ∙ step-rows s c w.0
