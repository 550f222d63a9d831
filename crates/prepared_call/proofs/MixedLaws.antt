-- A prepared call is a call of demand 3's runs: its contract is an equation with `perform`, and a settle does not look at the table.
-- Assumes nothing.
use Rattle.std.specs.Prelude.{◌≡◌, ℕ, Bool, true, false, cond, eqb, List, [], ◌∷◌, ℤ}
use mathlib.Core.Logic.{inl, inr}
use mathlib.Core.Path.{◌∙◌, ap, refl, subst, sym}
use Rattle.model.specs.Rows.{Rows}
use Rattle.model.specs.State.{State, state_of, with_box}
use Rattle.reducer.specs.OpenCalls.{performed}
use Rattle.semantics.specs.Call.{Call, call_of, has_table, kind_of, narrows}
use Rattle.semantics.specs.CallChecks.{call_fault, lent_table, record_checks}
use Rattle.semantics.specs.Perform.{Answer, Performed, act, perform}
use Rattle.semantics.specs.Run.{run, step}
use Rattle.call_laws.proofs.Accepted.{fault-of-own}
use Rattle.demands.specs.TwoRuns.{Demand3, Narrows}
use Rattle.demands.proofs.Demand3.{demand-3}
use Rattle.prepared_call.specs.MixedRuns.{Demand3Mixed, Made, Mixed, PropagateIsMade, ProbeIsMade, last_of}

-- ---- the table of a settle

module _ (n m : ℕ) (A : Rows) (t : List ℕ) (budget : ℕ) where
  abbrev on : List ℤ → State
  on B = state_of n m B A t

  abbrev bare : List ℤ → State
  bare B = state_of n m B A []

  abbrev propagating : State → Call
  propagating s = call_of s 2 0 0 budget

  same-checks : (B : List ℤ) → call_fault (on B) (propagating (on B)) ≡ call_fault (bare B) (propagating (bare B))
  unfolding state_of call_of kind_of lent_table has_table record_checks
  same-checks B =
      fault-of-own (on B) (propagating (on B)) refl refl refl ∙ sym (fault-of-own (bare B) (propagating (bare B)) refl refl refl)

  -- with a table for none
  abbrev tabled : Performed → Performed
  tabled p = record { answer = p.answer; state = record { model = p.state.model; table = t } }

  same-act : (B : List ℤ) → tabled (perform (bare B) (propagating (bare B))) ≡ perform (on B) (propagating (on B))
  unfolding perform act kind_of state_of call_of with_box
  same-act B = rw (same-checks B) (both (eqb (call_fault (bare B) (propagating (bare B))) 0) _ _)
    where
      both : (b : Bool) (x y : Performed) → tabled (cond b x y) ≡ cond b (tabled x) (tabled y)
      both true x y = refl
      both false x y = refl

  with-table : (B B' : List ℤ) (a : Answer) → performed a (bare B') ≡ perform (bare B) (propagating (bare B))
      → performed a (on B') ≡ perform (on B) (propagating (on B))
  unfolding performed state_of
  with-table B B' a e = ap tabled e ∙ same-act B

pub propagate-is-made : PropagateIsMade
unfolding PropagateIsMade call_of kind_of narrows
propagate-is-made n m A B B' t budget a e = record {
  answer = a;
  call = call_of (state_of n m B A t) 2 0 0 budget;
  made = with-table n m A t budget B B' a e;
  narrow = λ _. tt;
}

pub probe-is-made : ProbeIsMade
unfolding ProbeIsMade call_of kind_of narrows
probe-is-made n m A B B' t t' variable budget a e = record {
  answer = a;
  call = call_of (state_of n m B A t) 3 0 variable budget;
  made = e;
  narrow = λ _. tt;
}

-- ---- runs

state-left : {s r : State} (c : Made s r) → r ≡ step s c.call
unfolding performed step
state-left c = ap (λ (p : Performed). p.state) c.made

pub mixed-run : (s : State) (rs : List State) → Mixed s rs → (cs : List Call) × (last_of s rs ≡ run s cs) × Narrows s cs
unfolding Mixed last_of run Narrows
mixed-run s [] w = ([], refl, tt)
mixed-run s (r ∷ rs) (inl c, w) =
    let h = mixed-run r rs w in
    let e = state-left c in
    (c.call ∷ h.0, h.1 ∙ ap (λ (q : State). run q h.0) e, (c.narrow, subst (λ (q : State). Narrows q h.0) e h.2))
mixed-run s (r ∷ rs) (inr e, w) =
    let h = mixed-run r rs w in
    (h.0, h.1 ∙ ap (λ (q : State). run q h.0) e, subst (λ (q : State). Narrows q h.0) e h.2)

pub demand-3-mixed : Demand3Mixed
unfolding Demand3Mixed Demand3
demand-3-mixed s before one two g v w =
    let r = run s before in
    let a = mixed-run r one v in
    let b = mixed-run r two w in
    let d = demand-3 s before a.0 b.0 g a.2 b.2 in
    record {
      same_end = rw (a.1, b.1) d.same_end;
      points1 = rw a.1 d.points1;
      points2 = rw b.1 d.points2;
      implied1 = rw a.1 d.implied1;
      implied2 = rw b.1 d.implied2;
    }
