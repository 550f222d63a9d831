-- What `rounds_loop::make_rounds` and `rounds_call::run` need of the definitions: the rounds that are still to be made, and what all of
-- them mean. Assumes nothing.
use Prim.Native.Nat.{◌*◌, ◌+◌, ◌-◌, ◌<◌, ◌≤◌, suc, zero, ℕ}
use lib.Dec.{T, eqb, eqb→eq}
use borrow.Author.Tests.{ne_eqb}
use lib.IntN.{ℤ}
use mathlib.Core.Bool.{Bool, cond, false, true}
use mathlib.Core.List.{List, [], ◌++◌, append-nil}
use mathlib.Core.Path.{◌∙◌, ◌≡◌, ap, ap₂, refl, subst, sym}
use native.Mathlib.Numerals.{add-one}
use native.Mathlib.Omega.{arith}
use Rattle.integer.proofs.Tests.{cond_ind}
use Rattle.model.specs.Box.{is_empty}
use Rattle.model.proofs.BoxLaws.{is_empty-test}
use Rattle.call_laws.specs.Points.{PointOf, TableHolds}
use Rattle.model.specs.Valid.{ValidState}
use Rattle.semantics.specs.Run.{run}
use Rattle.semantics.specs.Call.{Call}
use Rattle.model.specs.State.{State}
use Rattle.call_laws.proofs.Accepted.{accepted-valid}
use Rattle.call_laws.proofs.ImplicationLaws.{zeros-hold}
use Rattle.call_laws.proofs.Preserved.{run-preserves}
use Rattle.demands.proofs.Demand2.{no-point}
use Rattle.rounds.specs.Round.{any_change, round}
use Rattle.demands.specs.Unmoved.{any_spent}
use Rattle.rounds.specs.NoLimit.{NeverAtLimit, NotReached}
use Rattle.rounds.specs.Rest.{EndsAtRest}
use Rattle.rounds.specs.Rounds.{Rounds, RoundsAnswer, RoundsEnding, RoundsRun, SamePoints, after, at_limit, ended, infeasible, nothing_changed, refused_rounds, rounds_fault, rounds_from, run_rounds}
use Rattle.rounds.proofs.RoundLaws.{Leads, leads-valid, run-append}
use Rattle.rounds.proofs.NoLimit.{never-at-limit}
use Rattle.rounds.proofs.RestLaws.{rounds-rest}

-- no further call: they end with e after k rounds, and b says whether a side was Spent in the last
unfoldable pub halt : RoundsEnding → ℕ → Bool → Rounds
halt e k b = record { ending = e; rounds = k; spent = b; calls = [] }

-- what `rest` does from t ends what `all` does from s
pub record Finishes (s : State) (all : Rounds) (t : State) (rest : Rounds) : Type 0 where
  pub ending : rest.ending ≡ all.ending
  pub rounds : rest.rounds ≡ all.rounds
  pub spent : rest.spent ≡ all.spent
  pub left : run t rest.calls ≡ run s all.calls

finishes-refl : (s : State) (all : Rounds) → Finishes s all s all
finishes-refl s all = record { ending = refl; rounds = refl; spent = refl; left = refl }

-- after a round that leads to u, where b says whether it changed something, and d whether a side was Spent in it
abbrev rest_after : (left made : ℕ) → State → Bool → Bool → Rounds
rest_after left made u b d =
    cond (is_empty u.model.n u.model.box) (halt infeasible made d) (cond b (rounds_from left made d u) (halt nothing_changed made d))

rounds-next : (left made : ℕ) (last : Bool) (s : State)
    → rounds_from (suc left) made last s ≡ after (round s) (rest_after left (suc made) (run s (round s)) (any_change s (round s)) (any_spent s (round s)))
unfolding rounds_from after halt
rounds-next left made last s = go (is_empty (run s (round s)).model.n (run s (round s)).model.box) (any_change s (round s)) (append-nil (round s))
  where
    go : (a b : Bool) → round s ++ [] ≡ round s
        → cond a (record { ending = infeasible; rounds = suc made; spent = any_spent s (round s); calls = round s })
        (cond b (after (round s) (rounds_from left (suc made) (any_spent s (round s)) (run s (round s)))) (record { ending = nothing_changed; rounds = suc made; spent = any_spent s (round s); calls = round s }))
        ≡ after (round s) (cond a (halt infeasible (suc made) (any_spent s (round s))) (cond b (rounds_from left (suc made) (any_spent s (round s)) (run s (round s))) (halt nothing_changed (suc made) (any_spent s (round s)))))
    go true b e = ap (λ (cs : List Call). record { ending = infeasible; rounds = suc made; spent = any_spent s (round s); calls = cs }) (sym e)
    go false true e = refl
    go false false e = ap (λ (cs : List Call). record { ending = nothing_changed; rounds = suc made; spent = any_spent s (round s); calls = cs }) (sym e)

rest-after : {s t u : State} {all : Rounds} {b d : Bool} (left made : ℕ) (last : Bool) → Leads t (round t) u b → d ≡ any_spent t (round t)
    → Finishes s all t (rounds_from (suc left) made last t) → Finishes s all u (rest_after left (suc made) u b d)
unfolding after
rest-after {s} {t} {all = all} left made last p q f =
    let r = rest_after left (suc made) (run t (round t)) (any_change t (round t)) (any_spent t (round t)) in
    let g : Finishes s all t (after (round t) r) = rw (sym (rounds-next left made last t)) f in
    rw (p.left, p.changed, q)
    (record { ending = g.ending; rounds = g.rounds; spent = g.spent; left = sym (run-append t (round t) r.calls) ∙ g.left })

-- `made` of the rounds from s are made, and `last` says whether a side was Spent in the last: what is left to do from the valid state t
-- ends them
pub record Rest (s : State) (limit made : ℕ) (last : Bool) (t : State) : Type 0 where
  pub within : made ≤ limit
  pub valid : ValidState t
  pub finishes : Finishes s (rounds_from limit 0 false s) t (rounds_from (limit - made) made last t)

pub no-round : (limit : ℕ) {s : State} → ValidState s → Rest s limit 0 false s
no-round limit {s} v =
    let e : limit - 0 ≡ limit = omega arith in record { within = omega arith; valid = v; finishes = rw e (finishes-refl s (rounds_from limit 0 false s)) }

pub at-limit : {s t : State} {limit made : ℕ} {last : Bool} → Rest s limit made last t → limit ≤ made
    → Finishes s (rounds_from limit 0 false s) t (halt at_limit made last)
unfolding rounds_from halt
at-limit {limit = limit} {made} w h = let e : limit - made ≡ 0 = omega (arith, w.within) in rw e at w.finishes

-- one more round
module _ {s t u : State} {limit made : ℕ} {last b d : Bool} (w : Rest s limit made last t) (h : made < limit) (p : Leads t (round t) u b)
    (q : d ≡ any_spent t (round t)) where
  round-made : Finishes s (rounds_from limit 0 false s) u (rest_after (limit - (made + 1)) (made + 1) u b d)
  round-made =
      let e : limit - made ≡ suc (limit - (made + 1)) = omega arith in
      subst (λ (k : ℕ). Finishes s (rounds_from limit 0 false s) u (rest_after (limit - (made + 1)) k u b d)) (sym (add-one made))
      (rest-after (limit - (made + 1)) made last p q (rw e at w.finishes))

  pub ends-empty : is_empty u.model.n u.model.box ≡ true → Finishes s (rounds_from limit 0 false s) u (halt infeasible (made + 1) d)
  ends-empty e = rw e at round-made

  pub ends-unchanged : is_empty u.model.n u.model.box ≡ false → b ≡ false
      → Finishes s (rounds_from limit 0 false s) u (halt nothing_changed (made + 1) d)
  ends-unchanged e f = rw (e, f) at round-made

  pub goes_on : is_empty u.model.n u.model.box ≡ false → b ≡ true → Rest s limit (made + 1) d u
  goes_on e f = record { within = omega arith; valid = leads-valid p w.valid; finishes = rw (e, f) at round-made }

-- ---- what they mean

-- an ending other than None
abbrev NotNone : RoundsEnding → Type 0
NotNone infeasible = ⊥
NotNone nothing_changed = Unit {0}
NotNone at_limit = Unit {0}

-- r ends at None only where its calls leave an empty box
abbrev NoneEmpty : State → Rounds → Type 0
NoneEmpty s r = r.ending ≡ infeasible → T (is_empty (run s r.calls).model.n (run s r.calls).model.box)

none-empty : (left made : ℕ) (last : Bool) (s : State) → NoneEmpty s (rounds_from left made last s)
unfolding rounds_from after
none-empty zero made last s = λ e. absurd (subst NotNone e tt)
none-empty (suc left) made last s =
    let r = run s (round s) in
    let more = rounds_from left (suc made) (any_spent s (round s)) r in
    cond_ind (is_empty r.model.n r.model.box) _ _ (NoneEmpty s) (λ t _. t)
    (λ _. cond_ind (any_change s (round s)) _ _ (NoneEmpty s)
    (λ _ e. rw (run-append s (round s) more.calls) (none-empty left (suc made) (any_spent s (round s)) r e)) (λ _ e. absurd (subst NotNone e tt)))

-- the rounds were not refused
abbrev Ended : RoundsAnswer → Type 0
Ended (refused_rounds number) = ⊥
Ended (ended e k b) = Unit {0}

abbrev ending_of : RoundsAnswer → RoundsEnding
ending_of (refused_rounds number) = at_limit
ending_of (ended e k b) = e

pub rounds-none : (limit : ℕ) (s : State) (k : ℕ) (b : Bool) → (run_rounds limit s).answer ≡ ended infeasible k b → (x : List ℤ) → PointOf s x → ⊥
unfolding run_rounds rounds_fault
rounds-none limit s k b = cond_ind (eqb (rounds_fault s) 0) _ _ (λ (r : RoundsRun). r.answer ≡ ended infeasible k b → (x : List ℤ) → PointOf s x → ⊥)
    (λ t e x p.
    let cs = (rounds_from limit 0 false s).calls in
    let o = run-preserves s cs in
    let v = o.valid (accepted-valid s (eqb→eq (rounds_fault s) 0 t)) in
    no-point v.model.some ((is_empty-test (run s cs).model.n (run s cs).model.box).0 (none-empty limit 0 false s (ap ending_of e))) ((o.points x).1 p))
    (λ _ e. absurd (subst Ended (sym e) tt))

pub rounds-mean : (limit : ℕ) (s : State) → SamePoints s (run s (run_rounds limit s).calls) (run_rounds limit s).answer
rounds-mean limit s =
    let cs = (run_rounds limit s).calls in
    let p = run-preserves s cs in
    let holds : (x : List ℤ) → PointOf s x → TableHolds s.model.n s.table x → TableHolds s.model.n (run s cs).table x =
    (λ x o t. rw p.sizes.0 at (p.holds x o t)) in
    record {
      points = p.points;
      fractional = p.fractional;
      no_point = rounds-none limit s;
      holds = holds;
      implied = λ e x o. holds x o (rw e (zeros-hold s.model.n (4 * (s.model.n * s.model.n)) x));
    }

-- ---- the call

module _ (limit : ℕ) (s : State) where
  abbrev pub Answers : RoundsAnswer → State → Type 0
  Answers a t = (a ≡ (run_rounds limit s).answer) × ((t ≡ run s (run_rounds limit s).calls) × (SamePoints s t a × (NotReached limit a × EndsAtRest t a)))

  answers : {a : RoundsAnswer} {t : State} → a ≡ (run_rounds limit s).answer → t ≡ run s (run_rounds limit s).calls → Answers a t
  unfolding NeverAtLimit
  answers e f = (e, (f, (rw (e, f) (rounds-mean limit s), (rw e (record { ends = never-at-limit limit s }), rw (e, f) (rounds-rest limit s)))))

  pub refuses : {number : ℕ} → number ≡ rounds_fault s → (number ≡ 0 → ⊥) → Answers (refused_rounds number) s
  unfolding run_rounds run
  refuses e h = let z = ne_eqb (rounds_fault s) 0 (λ q. h (e ∙ q)) in answers (rw (z, e) refl) (rw z refl)

  -- rounds that end so, and what they leave
  pub ends_so : {t : State} {e : RoundsEnding} {k : ℕ} {b : Bool} → Finishes s (rounds_from limit 0 false s) t (halt e k b)
      → let r = rounds_from limit 0 false s in (ended e k b ≡ ended r.ending r.rounds r.spent) × (t ≡ run s r.calls)
  unfolding run halt
  ends_so {b = b} f =
      let r = rounds_from limit 0 false s in
      (ap₂ (λ (x : RoundsEnding) (y : ℕ). ended x y b) f.ending f.rounds ∙ ap (ended r.ending r.rounds) f.spent, f.left)

  pub finished : {a : RoundsAnswer} {t : State} → rounds_fault s ≡ 0
      → let r = rounds_from limit 0 false s in a ≡ ended r.ending r.rounds r.spent → t ≡ run s r.calls → Answers a t
  unfolding run_rounds
  finished z e f = answers (rw z e) (rw z f)
