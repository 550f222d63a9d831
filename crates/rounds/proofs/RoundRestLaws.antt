-- A round that changes nothing and comes to no None leaves the state, so every call of it is made on the state that it started from: its
-- propagation says that the box is quiet, and each probe without a Spent side that the sides span it.
use Prim.Native.Nat.{◌<◌, suc, zero, ℕ}
use lib.Dec.{T, T_not}
use mathlib.Core.Bool.{Bool, ◌||◌, false, not, true}
use mathlib.Core.List.{List, [], ◌++◌, ◌∷◌}
use mathlib.Core.Logic.{◌≢◌, inr}
use mathlib.Core.Path.{◌∙◌, ◌≡◌, ap, refl, subst, sym}
use native.Mathlib.Decide.{ℕ_discrete}
use native.Mathlib.Omega.{arith}
use Rattle.integer.proofs.Tests.{T→true, false→T, true→T}
use Rattle.model.specs.Box.{NonEmpty, empty_box, is_empty, is_free}
use Rattle.model.specs.State.{State, with_box}
use Rattle.model.specs.Valid.{ValidState}
use Rattle.model.proofs.BoxLaws.{is_empty-test}
use Rattle.row.proofs.ImpliedBoxLaws.{valid-non_empty}
use Rattle.semantics.specs.Call.{Call, call_of, kind_of}
use Rattle.semantics.specs.Perform.{act, perform}
use Rattle.semantics.specs.Run.{CallClass, answers_none, changed_call, class_of, run, step}
use Rattle.call_laws.specs.Fixpoint.{Fixpoint, ProbingFixpoint, SidesSpan}
use Rattle.call_laws.proofs.CallLaws.{perform-accepted, step-accepted}
use Rattle.demands.specs.Unmoved.{UnmovedFixpoint, UnmovedSpans, any_spent, side_spent}
use Rattle.demands.proofs.Unmoved.{run-empty, still-step, unmoved-fixpoint, unmoved-spans}
use Rattle.rounds.specs.RoundRest.{RoundRests}
use Rattle.rounds.specs.Round.{and_then, any_change, is_change, probe_call, probes, propagate_call, removals, round, round_budget, tightenings, upwards}
use Rattle.rounds.proofs.RoundLaws.{accepts-probe, accepts-propagation, change-append, run-append}
use Rattle.rounds.proofs.SpentLaws.{spent-append}

-- ---- flags of calls one after another

or_l : (a b : Bool) → (a || b) ≡ false → a ≡ false
or_l true b e = e
or_l false b e = refl

or_r : (a b : Bool) → (a || b) ≡ false → b ≡ false
or_r true b e = absurd (true→T false (sym e))
or_r false b e = e

-- ---- calls that change nothing

-- the calls cs from s change nothing, have no Spent side, and leave no empty box
pub record Still (s : State) (cs : List Call) : Type 0 where
  pub full : (run s cs).model.box ≢ empty_box (run s cs).model.n
  pub unchanged : any_change s cs ≡ false
  pub unspent : any_spent s cs ≡ false

not-changed : (k : CallClass) → is_change k ≡ false → k ≢ changed_call
unfolding is_change
not-changed k e q = T_not (is_change k) (false→T (is_change k) e) (subst (λ (z : CallClass). T (is_change z)) (sym q) tt)

-- so the state that the first call leaves is the one it is given
still-first : {s : State} {c : Call} {cs : List Call} → Still s (c ∷ cs) → (step s c ≡ s) × T (not (answers_none (perform s c).answer))
unfolding run any_change
still-first {s} {c} {cs} w = still-step s c (not-changed (class_of s c) (or_l (is_change (class_of s c)) (any_change (step s c) cs) w.unchanged))
    (λ e. w.full (run-empty (step s c) cs e))

still-rest : {s : State} {c : Call} {cs : List Call} → Still s (c ∷ cs) → Still (step s c) cs
unfolding run any_change any_spent
still-rest {s} {c} {cs} w = record {
  full = w.full;
  unchanged = or_r (is_change (class_of s c)) (any_change (step s c) cs) w.unchanged;
  unspent = or_r (side_spent (perform s c).answer) (any_spent (step s c) cs) w.unspent;
}

still-run : (s : State) (cs : List Call) → Still s cs → run s cs ≡ s
unfolding run
still-run s [] w = refl
still-run s (c ∷ cs) w = still-run (step s c) cs (still-rest w) ∙ (still-first w).0

-- both halves of calls that change nothing are such, and the second starts where the first did
module _ {s : State} (cs ds : List Call) (w : Still s (cs ++ ds)) where
  still_before : Still s cs
  still_before = record {
    full = λ e. w.full (subst (λ (r : State). r.model.box ≡ empty_box r.model.n) (sym (run-append s cs ds)) (run-empty (run s cs) ds e));
    unchanged = or_l (any_change s cs) (any_change (run s cs) ds) (sym (change-append s cs ds) ∙ w.unchanged);
    unspent = or_l (any_spent s cs) (any_spent (run s cs) ds) (sym (spent-append s cs ds) ∙ w.unspent);
  }

  still-there : Still (run s cs) ds
  still-there = record {
    full = λ e. w.full (subst (λ (r : State). r.model.box ≡ empty_box r.model.n) (sym (run-append s cs ds)) e);
    unchanged = or_r (any_change s cs) (any_change (run s cs) ds) (sym (change-append s cs ds) ∙ w.unchanged);
    unspent = or_r (any_spent s cs) (any_spent (run s cs) ds) (sym (spent-append s cs ds) ∙ w.unspent);
  }

-- of the calls of f, and then those of g
still-then : (f g : State → List Call) {s : State} → Still s (and_then f g s) → Still s (f s) × Still s (g s)
unfolding and_then
still-then f g {s} w =
    let a = still_before (f s) (g (run s (f s))) w in
    (a, subst (λ (r : State). Still r (g r)) (still-run s (f s) a) (still-there (f s) (g (run s (f s))) w))

-- of each turn of a loop
still-turn : (count : ℕ) (f : ℕ → State → List Call) {s : State} → Still s (upwards count f s) → (k : ℕ) → k < count → Still s (f k s)
unfolding upwards
still-turn zero f w k h = absurd (let z : ⊥ = omega arith in z)
still-turn (suc count) f {s} w k h =
    let p = still-then (upwards count f) (f count) w in go (ℕ_discrete k count) p.1 (λ l. still-turn count f p.0 k l)
  where
    go : Dec (k ≡ count) → Still s (f count s) → (k < count → Still s (f k s)) → Still s (f k s)
    go (yes e) last before = rw e last
    go (no e) last before = before (omega arith)

-- ---- a round

module _ (s : State) (v : ValidState s) (p : NonEmpty s.model.n s.model.box) where
  still-fixpoint : Still s (propagate_call s) → Fixpoint s.model.n s.model.m s.model.rows s.model.box
  unfolding propagate_call UnmovedFixpoint call_of kind_of act with_box answers_none
  still-fixpoint w =
      let M = s.model in
      let c = call_of s 2 0 0 round_budget in
      let e = accepts-propagation v in
      let q = still-first w in
      unmoved-fixpoint round_budget M.n M.m M.rows M.box v.model.some p (omega arith)
      (rw (perform-accepted s c e) at q.1)
      (ap (λ (r : State). r.model.box) (sym (step-accepted s c e) ∙ q.0))

  spans : (k : ℕ) → k < s.model.n → T (is_free s.model.box k) → Still s (probe_call k s)
      → SidesSpan s.model.n s.model.m s.model.rows s.model.box k
  unfolding probe_call UnmovedSpans call_of kind_of act with_box answers_none any_spent side_spent
  spans k h f w =
      let M = s.model in
      let g = T→true (is_free M.box k) f in
      let c = call_of s 3 0 k round_budget in
      let e = accepts-probe v h g in
      let u : Still s (c ∷ []) = rw g at w in
      let q = still-first u in
      let z = or_l (side_spent (perform s c).answer) false u.unspent in
      unmoved-spans k round_budget M.n M.m M.rows M.box s.table h p f
      (rw (perform-accepted s c e) at q.1)
      (false→T _ (rw (perform-accepted s c e) at z))
      (ap (λ (r : State). r.model.box) (sym (step-accepted s c e) ∙ q.0))

pub round-rests : RoundRests
unfolding RoundRests ProbingFixpoint round probes
round-rests s v full unchanged unspent =
    let w : Still s (round s) = record {
      full = λ e. T_not (is_empty (run s (round s)).model.n (run s (round s)).model.box)
          (false→T (is_empty (run s (round s)).model.n (run s (round s)).model.box) full)
          ((is_empty-test (run s (round s)).model.n (run s (round s)).model.box).1 e);
      unchanged = unchanged;
      unspent = unspent;
    } in
    let same = still-run s (round s) w in
    let a = still-then propagate_call (and_then removals (and_then tightenings probes)) w in
    let b = still-then removals (and_then tightenings probes) a.1 in
    let d = still-then tightenings probes b.1 in
    let p = valid-non_empty v.model.box (rw same at (false→T (is_empty (run s (round s)).model.n (run s (round s)).model.box) full)) in (
      same,
      rw same (inr (record {
        fixpoint = still-fixpoint s v p a.0;
        spans = λ k h f. spans s v p k h f (still-turn s.model.n probe_call d.1 k h);
      })),
    )
