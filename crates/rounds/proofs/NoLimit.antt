-- Rounds end: each that changes something lowers the measure, so with a limit above it they are never at the limit, and a higher limit
-- gives the same rounds.
use Prim.Native.Nat.{◌+◌, ◌<◌, ◌≤◌, suc, zero, ℕ}
use lib.Dec.{T, T_not, eqb, eqb→eq}
use mathlib.Core.Bool.{Bool, cond, false, not, true}
use mathlib.Core.List.{List, [], ◌∷◌}
use mathlib.Core.Logic.{◌≢◌, ⊎_elim}
use mathlib.Core.Path.{◌≡◌, ap, refl, subst, sym}
use native.Mathlib.Numerals.{add-one}
use native.Mathlib.Omega.{arith}
use Rattle.integer.proofs.Tests.{cond_ind, or_cases, true→T}
use Rattle.model.specs.Box.{is_empty}
use Rattle.semantics.specs.Run.{CallClass, changed_call, class_of, infeasible_call, refused_call, run, step, unchanged_call}
use Rattle.semantics.specs.Call.{Call}
use Rattle.demands.specs.Measure.{CallsLower, MeasureLimit, max_measure, measure}
use Rattle.model.specs.State.{State}
use Rattle.call_laws.proofs.Accepted.{accepted-valid}
use Rattle.demands.specs.Unmoved.{any_spent}
use Rattle.demands.proofs.Measure.{call-lowers, measure-limit, run-never}
use Rattle.rounds.specs.Round.{any_change, is_change, round}
use Rattle.rounds.specs.NoLimit.{EndsWithin, NeverAtLimit, NoLimit, RoundsEnd, RoundsGoOn, RoundsLower, WithoutLimit, all_rounds, no_limit, rounds_on}
use Rattle.rounds.specs.Rounds.{Rounds, RoundsAnswer, RoundsEnding, RoundsRun, after, at_limit, ended, infeasible, nothing_changed, refused_rounds, rounds_fault, rounds_from, run_rounds}

is-changed : (k : CallClass) → T (is_change k) → k ≡ changed_call
unfolding is_change
is-changed (refused_call number) t = absurd t
is-changed infeasible_call t = absurd t
is-changed changed_call t = refl
is-changed unchanged_call t = absurd t

-- a list of calls of which one changed something lowers the measure
pub calls-lower : (s : State) (cs : List Call) → T (any_change s cs) → measure (run s cs) < measure s
unfolding run any_change CallsLower
calls-lower s [] t = absurd t
calls-lower s (c ∷ cs) t =
    let a = is_change (class_of s c) in let b = any_change (step s c) cs in
    ⊎_elim
    (λ u. let l = (call-lowers s c).changed (is-changed (class_of s c) u) in let n = run-never (step s c) cs in omega arith)
    (λ u. let l = calls-lower (step s c) cs u in let n = (call-lowers s c).never in omega arith)
    (or_cases a b t)

pub round-lowers : RoundsLower
unfolding RoundsLower
round-lowers s e = calls-lower s (round s) (true→T (any_change s (round s)) e)

-- ---- rounds

abbrev is_limit : RoundsEnding → Bool
is_limit infeasible = false
is_limit nothing_changed = false
is_limit at_limit = true

not-limit : {e : RoundsEnding} → T (not (is_limit e)) → e ≢ at_limit
not-limit {e} t q = T_not (is_limit e) t (subst (λ (z : RoundsEnding). T (is_limit z)) (sym q) tt)

-- one round, and what comes of it
round-ind : (left made : ℕ) (last : Bool) (s : State) (P : Rounds → Type 0)
    → (T (is_empty (run s (round s)).model.n (run s (round s)).model.box) → P (record { ending = infeasible; rounds = suc made; spent = any_spent s (round s); calls = round s }))
    → (T (not (is_empty (run s (round s)).model.n (run s (round s)).model.box)) → T (any_change s (round s)) → P (after (round s) (rounds_from left (suc made) (any_spent s (round s)) (run s (round s)))))
    → (T (not (is_empty (run s (round s)).model.n (run s (round s)).model.box)) → T (not (any_change s (round s)))
    → P (record { ending = nothing_changed; rounds = suc made; spent = any_spent s (round s); calls = round s }))
    → P (rounds_from (suc left) made last s)
unfolding rounds_from
round-ind left made last s P f g h = cond_ind (is_empty (run s (round s)).model.n (run s (round s)).model.box) _ _ P f
    (λ t. cond_ind (any_change s (round s)) _ _ P (g t) (h t))

pick : (a b : Bool) (x y z w : Rounds) → (T b → y ≡ z) → cond a x (cond b y w) ≡ cond a x (cond b z w)
pick true b x y z w f = refl
pick false true x y z w f = f tt
pick false false x y z w f = refl

-- one round, and then those of `more`
next-round : (left made : ℕ) (last : Bool) (s : State) {more : Rounds} → (T (any_change s (round s)) → rounds_from left (suc made) (any_spent s (round s)) (run s (round s)) ≡ more)
    → rounds_from (suc left) made last s ≡ cond (is_empty (run s (round s)).model.n (run s (round s)).model.box) (record { ending = infeasible; rounds = suc made; spent = any_spent s (round s); calls = round s })
    (cond (any_change s (round s)) (after (round s) more) (record { ending = nothing_changed; rounds = suc made; spent = any_spent s (round s); calls = round s }))
unfolding rounds_from
next-round left made last s f = pick (is_empty (run s (round s)).model.n (run s (round s)).model.box) (any_change s (round s)) _ _ _ _ (λ u. ap (after (round s)) (f u))

module _ (left made : ℕ) (last : Bool) (s : State) (next : T (any_change s (round s)) → EndsWithin left (suc made) (any_spent s (round s)) (run s (round s))) where
  one-ends : (rounds_from (suc left) made last s).ending ≢ at_limit
  unfolding after
  one-ends = round-ind left made last s (λ r. r.ending ≢ at_limit) (λ _. not-limit tt) (λ _ u. (next u).ends) (λ _ _. not-limit tt)

  one-few : (rounds_from (suc left) made last s).rounds ≤ made + measure s + 1
  unfolding after
  one-few = round-ind left made last s (λ r. r.rounds ≤ made + measure s + 1)
      (λ _. omega arith)
      (λ _ u. let l = calls-lower s (round s) u in let q = (next u).few in omega arith)
      (λ _ _. omega arith)

  one_same : (more : ℕ) → measure s < more → rounds_from more made last s ≡ rounds_from (suc left) made last s
  unfolding rounds_from
  one_same zero h = absurd (let z : ⊥ = omega arith in z)
  one_same (suc more) h = pick (is_empty (run s (round s)).model.n (run s (round s)).model.box) (any_change s (round s)) _ _ _ _
      (λ u. let l = calls-lower s (round s) u in ap (after (round s)) ((next u).same more (omega arith)))

pub rounds-end : RoundsEnd
unfolding RoundsEnd
rounds-end zero made last s h = absurd (let z : ⊥ = omega arith in z)
rounds-end (suc left) made last s h =
    let next : T (any_change s (round s)) → EndsWithin left (suc made) (any_spent s (round s)) (run s (round s)) =
    λ u. let l = calls-lower s (round s) u in rounds-end left (suc made) (any_spent s (round s)) (run s (round s)) (omega arith) in
    record { ends = one-ends left made last s next; few = one-few left made last s next; same = one_same left made last s next }

pub rounds-go-on : RoundsGoOn
unfolding RoundsGoOn RoundsEnd rounds_on
rounds-go-on made last s = rw (add-one (measure s)) (next-round (measure s) made last s (λ u. let l = calls-lower s (round s) u in
    sym ((rounds-end (measure s) (suc made) (any_spent s (round s)) (run s (round s)) l).same (measure (run s (round s)) + 1) (omega arith))))

-- ---- the call

limit-enough : (limit : ℕ) (s : State) → max_measure < limit → T (eqb (rounds_fault s) 0) → measure s < limit
unfolding rounds_fault MeasureLimit
limit-enough limit s h t = let m = measure-limit s (accepted-valid s (eqb→eq _ 0 t)) in omega arith

pub no-limit : NoLimit
unfolding NoLimit all_rounds run_rounds RoundsEnd
no-limit limit s h = choose (eqb (rounds_fault s) 0) _ (λ t.
    ap (λ (r : Rounds). record { answer = ended r.ending r.rounds r.spent; calls = r.calls })
    ((rounds-end (measure s + 1) 0 false s (omega arith)).same limit (limit-enough limit s h t)))
  where
    choose : (a : Bool) {x y : RoundsRun} (z : RoundsRun) → (T a → x ≡ y) → cond a x z ≡ cond a y z
    choose true z f = f tt
    choose false z f = refl

abbrev answers_limit : RoundsAnswer → Bool
answers_limit (refused_rounds number) = false
answers_limit (ended e rounds spent) = is_limit e

limit_is : (e : RoundsEnding) → T (is_limit e) → e ≡ at_limit
limit_is infeasible t = absurd t
limit_is nothing_changed t = absurd t
limit_is at_limit t = refl

pub never-at-limit : NeverAtLimit
unfolding NeverAtLimit run_rounds RoundsEnd
never-at-limit limit s h k b e = cond_ind (eqb (rounds_fault s) 0) _ _ (λ (r : RoundsRun). T (answers_limit r.answer) → ⊥)
    (λ t u. (rounds-end limit 0 false s (limit-enough limit s h t)).ends (limit_is _ u))
    (λ _ z. absurd z)
    (subst (λ (a : RoundsAnswer). T (answers_limit a)) (sym e) tt)

pub without-limit : WithoutLimit
unfolding WithoutLimit NoLimit NeverAtLimit
without-limit s = (no-limit no_limit s (omega arith), never-at-limit no_limit s (omega arith))
