-- A list of zeros ties nothing: with it, and with no tie among the calls, the claims with ties are those without.
use Prim.Native.Nat.{ℕ}
use lib.IntN.{ℤ}
use lib.ListN.{length-replicate, replicate}
use mathlib.Core.List.{List, [], ◌∷◌}
use mathlib.Core.Logic.{◌↔◌}
use mathlib.Core.Path.{◌≡◌, refl}
use native.Mathlib.Omega.{arith}
use Rattle.model.specs.State.{State}
use Rattle.semantics.specs.Call.{Call}
use Rattle.semantics.specs.Run.{run, step}
use Rattle.call_laws.specs.Points.{PointOf}
use Rattle.call_laws.proofs.ImplicationLaws.{get_d-zeros}
use Rattle.demands.specs.TwoRuns.{Demand3, HandedIn, Narrows}
use Rattle.ties.specs.TiedRun.{HandedInTied, TiedCall, other, run_tied, step_tied}
use Rattle.ties.specs.TiedRuns.{Demand3Tied, NarrowsTied}
use Rattle.ties.specs.Ties.{TieHoldsOver, TiedPoint, TiedState, TiesHoldOver}
use Rattle.ties.proofs.TieAccepted.{ties-fault-none}

abbrev pub zeros : ℕ → List ℕ
zeros n = replicate n 0

abbrev pub untied : State → ℕ → TiedState
untied s n = record { state = s; ties = zeros n }

pub zeros-tie-nothing : (n m : ℕ) (x : List ℤ) (d : ℕ) → TiesHoldOver n (zeros m) x d
unfolding TieHoldsOver
zeros-tie-nothing n m x d = record { holds = λ j h. rw (get_d-zeros m j) tt }

pub untied-point : (s : State) (m : ℕ) (x : List ℤ) → TiedPoint (untied s m) x ↔ PointOf s x
untied-point s m x = ((λ p. p.point), (λ p. record { point = p; ties = zeros-tie-nothing s.model.n m x 1 }))

pub untied-handed-in : (s : State) → HandedIn s → HandedInTied (untied s s.model.n)
untied-handed-in s h = record {
  state = h;
  ties = (ties-fault-none s.model.n (zeros s.model.n)).1 (record { len = length-replicate s.model.n 0; places = λ i. rw (get_d-zeros s.model.n i) (omega arith) });
}

-- the calls as they are
pub others : List Call → List TiedCall
others [] = []
others (c ∷ cs) = other c ∷ others cs

pub run-others : (s : TiedState) (cs : List Call) → run_tied s (others cs) ≡ record { state = run s.state cs; ties = s.ties }
unfolding others run_tied run step_tied
run-others s [] = refl
run-others s (c ∷ cs) = run-others (record { state = step s.state c; ties = s.ties }) cs

narrows-others : (s : TiedState) (cs : List Call) → Narrows s.state cs → NarrowsTied s (others cs)
unfolding others Narrows NarrowsTied step_tied
narrows-others s [] p = tt
narrows-others s (c ∷ cs) p = (p.0, narrows-others (record { state = step s.state c; ties = s.ties }) cs p.1)

-- the demand without ties is a case of the one with them
pub without-ties : Demand3Tied → Demand3
unfolding Demand3Tied Demand3
without-ties d s before one two g p1 p2 =
    let z = untied s s.model.n in
    let b = run-others z before in
    let ends : (cs : List Call) → run_tied (run_tied z (others before)) (others cs) ≡ untied (run (run s before) cs) s.model.n =
    (λ cs. rw b (run-others (untied (run s before) s.model.n) cs)) in
    let t = rw (ends one, ends two) at (d z (others before) (others one) (others two) (untied-handed-in s g)
    (rw b (narrows-others (untied (run s before) s.model.n) one p1)) (rw b (narrows-others (untied (run s before) s.model.n) two p2))) in
    let there : (x : List ℤ) → PointOf s x → TiedPoint z x = (λ x p. (untied-point s s.model.n x).1 p) in
    record {
      same_end = t.same_end;
      points1 = λ x. ((λ p. ((t.points1 x).0 ((untied-point _ s.model.n x).1 p)).point), (λ p. ((t.points1 x).1 (there x p)).point));
      points2 = λ x. ((λ p. ((t.points2 x).0 ((untied-point _ s.model.n x).1 p)).point), (λ p. ((t.points2 x).1 (there x p)).point));
      implied1 = λ x p. t.implied1 x (there x p);
      implied2 = λ x p. t.implied2 x (there x p);
    }
