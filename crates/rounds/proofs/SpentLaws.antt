-- Whether a side of a probe was Spent, over calls one after another: the flag of a loop over probes, and of a round, whose other calls
-- are no probes. Assumes nothing.
use Prim.Native.Nat.{◌+◌, ◌≤◌, suc, zero, ℕ}
use lib.Dec.{T, eqb}
use mathlib.Core.Bool.{Bool, ◌||◌, cond, false, not, or_assoc, or-false, true}
use mathlib.Core.List.{List, [], ◌++◌, ◌∷◌}
use mathlib.Core.Path.{◌∙◌, ◌≡◌, ap, ap₂, refl, subst, sym}
use native.Mathlib.Numerals.{add-one}
use native.Mathlib.Omega.{arith}
use Rattle.integer.proofs.Tests.{cond_ind}
use Rattle.model.specs.Box.{is_empty, is_free}
use Rattle.model.specs.State.{State}
use Rattle.semantics.specs.Call.{Call, Kind, call_of, kind_of, probing, propagation, removal, row_propagation, tightening, unknown}
use Rattle.semantics.specs.CallChecks.{call_fault}
use Rattle.semantics.specs.Perform.{Performed, act, perform}
use Rattle.semantics.specs.Run.{run, step}
use Rattle.demands.specs.Unmoved.{any_spent, side_spent}
use Rattle.rounds.specs.Round.{and_then, probes, propagate_call, removals, remove_call, round, tighten_call, tighten_row, tightenings, unless_empty, upwards}
use Rattle.rounds.proofs.RoundLaws.{in_order}

pub spent-append : (s : State) (cs ds : List Call) → any_spent s (cs ++ ds) ≡ (any_spent s cs || any_spent (run s cs) ds)
unfolding run any_spent
spent-append s [] ds = refl
spent-append s (c ∷ cs) ds =
    let b = side_spent (perform s c).answer in
    ap (λ (x : Bool). b || x) (spent-append (step s c) cs ds) ∙ sym (or_assoc b (any_spent (step s c) cs) (any_spent (run (step s c) cs) ds))

-- ---- a loop over the calls of f 0, f 1, ..

-- b says it of the turns so far, which lead to t, and d of the next
pub spent-turn : (f : ℕ → State → List Call) (s : State) {t : State} {b d e : Bool} (i : ℕ) → t ≡ run s (upwards i f s) → b ≡ any_spent s (upwards i f s)
    → d ≡ any_spent t (f i t) → e ≡ (b || d) → e ≡ any_spent s (upwards (i + 1) f s)
unfolding upwards and_then
spent-turn f s {d = d} i l h g k =
    let cs = upwards i f s in
    rw (add-one i) (k ∙ ap₂ ◌||◌ h (subst (λ (x : State). d ≡ any_spent x (f i x)) l g) ∙ sym (spent-append s cs (f i (run s cs))))

-- all turns are made
pub spent-turns : (f : ℕ → State → List Call) (s : State) {b : Bool} {i count : ℕ} → i ≤ count → count ≤ i → b ≡ any_spent s (upwards i f s)
    → b ≡ any_spent s (upwards count f s)
spent-turns f s {b} {i} {count} h k e = let q : i ≡ count = omega arith in subst (λ (j : ℕ). b ≡ any_spent s (upwards j f s)) q e

-- the call c is made only where the test x holds
module _ (f : ℕ → State → List Call) (t : State) (i : ℕ) (x : Bool) (c : Call) (q : f i t ≡ cond x (c ∷ []) []) where
  pub spent-call : {d : Bool} → x ≡ true → d ≡ side_spent (perform t c).answer → d ≡ any_spent t (f i t)
  unfolding any_spent
  spent-call y g = rw (q, y) (g ∙ sym (or-false (side_spent (perform t c).answer)))

  pub spent-skip : x ≡ false → false ≡ any_spent t (f i t)
  unfolding any_spent
  spent-skip y = rw (q, y) refl

-- ---- calls that are no probes

abbrev is_probe : Kind → Bool
is_probe row_propagation = false
is_probe propagation = false
is_probe probing = true
is_probe tightening = false
is_probe removal = false
is_probe unknown = false

abbrev NoProbe : List Call → Type 0
NoProbe [] = Unit {0}
NoProbe (c ∷ cs) = T (not (is_probe (kind_of c.kind))) × NoProbe cs

other-call : (s : State) (c : Call) → T (not (is_probe (kind_of c.kind))) → side_spent (perform s c).answer ≡ false
unfolding perform act side_spent
other-call s c h = cond_ind (eqb (call_fault s c) 0) _ _ (λ (r : Performed). side_spent r.answer ≡ false) (λ _. of (kind_of c.kind) h) (λ _. refl)
  where
    of : (k : Kind) → T (not (is_probe k)) → side_spent (act k s c).answer ≡ false
    of row_propagation t = refl
    of propagation t = refl
    of probing t = absurd t
    of tightening t = refl
    of removal t = refl
    of unknown t = refl

no-probe-spent : (s : State) (cs : List Call) → NoProbe cs → any_spent s cs ≡ false
unfolding any_spent
no-probe-spent s [] h = refl
no-probe-spent s (c ∷ cs) h = ap₂ ◌||◌ (other-call s c h.0) (no-probe-spent (step s c) cs h.1)

no-probe-append : (cs ds : List Call) → NoProbe cs → NoProbe ds → NoProbe (cs ++ ds)
no-probe-append [] ds h k = k
no-probe-append (c ∷ cs) ds h k = (h.0, no-probe-append cs ds h.1 k)

no-probe-turns : (count : ℕ) (f : ℕ → State → List Call) → ((i : ℕ) (t : State) → NoProbe (f i t)) → (s : State) → NoProbe (upwards count f s)
unfolding upwards and_then
no-probe-turns zero f h s = tt
no-probe-turns (suc count) f h s =
    let cs = upwards count f s in no-probe-append cs (f count (run s cs)) (no-probe-turns count f h s) (h count (run s cs))

no-probe-if : (x : Bool) (c : Call) → T (not (is_probe (kind_of c.kind))) → NoProbe (cond x (c ∷ []) [])
no-probe-if x c h = cond_ind x _ _ NoProbe (λ _. (h, tt)) (λ _. tt)

-- ---- a round

abbrev before-probes : State → List Call
before-probes = and_then (and_then propagate_call removals) tightenings

no-probe-before : (s : State) → NoProbe (before-probes s)
unfolding and_then propagate_call removals tightenings tighten_row remove_call unless_empty tighten_call call_of kind_of
no-probe-before s =
    let t = run s (propagate_call s) in
    let cs = propagate_call s ++ removals t in
    let u = run s cs in
    no-probe-append cs (tightenings u)
    (no-probe-append (propagate_call s) (removals t) (tt, tt) (no-probe-turns t.model.m remove_call removed t))
    (no-probe-turns u.model.m tighten_row (λ r v. no-probe-turns v.model.n (tighten_call r) (tightened r) v) u)
  where
    removed : (r : ℕ) (t : State) → NoProbe (remove_call r t)
    removed r t = cond_ind (is_empty t.model.n t.model.box) _ _ NoProbe (λ _. tt) (λ _. (tt, tt))

    tightened : (r k : ℕ) (t : State) → NoProbe (tighten_call r k t)
    tightened r k t = no-probe-if (is_free t.model.box k) (call_of t 4 r k 0) tt

-- that of its probes, from the state that the calls before them lead to
pub round-spent : (s : State) {t : State} {e : Bool} → t ≡ run s (before-probes s) → e ≡ any_spent t (probes t) → e ≡ any_spent s (round s)
unfolding and_then
round-spent s {e = e} l h =
    let cs = before-probes s in
    subst (λ (x : State). e ≡ any_spent x (probes x)) l h
    ∙ sym (ap (λ (x : Bool). x || any_spent (run s cs) (probes (run s cs))) (no-probe-spent s cs (no-probe-before s)))
    ∙ sym (spent-append s cs (probes (run s cs)))
    ∙ ap (any_spent s) (in_order s)
