-- Demand 3: after the parting a run keeps every probed fixpoint inside its box, so two ends at rest lie inside each other.
use Prim.Native.Nat.{◌*◌, ◌<◌, ℕ}
use lib.Dec.{T}
use lib.IntN.{ℤ}
use lib.ListN.{length-replicate, replicate}
use mathlib.Core.List.{List, [], ◌∷◌}
use mathlib.Core.Logic.{◌↔◌, inl, inr, ⊎_elim}
use mathlib.Core.Path.{◌∙◌, ◌≡◌, refl, subst, sym}
use native.Mathlib.Omega.{arith}
use Rattle.model.specs.Box.{Inside}
use Rattle.model.specs.State.{State, with_box}
use Rattle.model.specs.Valid.{ValidModel, ValidState, ValidTable}
use Rattle.model.proofs.BoxLaws.{inside-antisymm, inside-refl, not-in-empty}
use Rattle.model.proofs.CheckLaws.{fault-none, table-fault-none}
use Rattle.semantics.specs.Call.{Call, kind_of, narrows}
use Rattle.semantics.specs.CallChecks.{call_fault}
use Rattle.semantics.specs.Run.{run, step}
use Rattle.call_laws.specs.Fixpoint.{ProbedFixpoint, ProbingFixpoint}
use Rattle.call_laws.specs.Points.{AtRest, PointOf, TableHolds}
use Rattle.call_laws.proofs.Accepted.{accepted, accepted-valid}
use Rattle.call_laws.proofs.CallLaws.{Narrowed, NarrowedTo, act-narrowed, narrowed-refl, step-ind}
use Rattle.call_laws.proofs.ImplicationLaws.{get_d-zeros, zeros-hold}
use Rattle.call_laws.proofs.Preserved.{Preserves, narrowed-inside, narrowed-points, preserves-trans, run-preserves, step-preserves}
use Rattle.demands.specs.TwoRuns.{Demand3, EveryModelHandedIn, HandedIn, Narrows}

-- ---- the models that are handed in

pub zeros-valid : (n : ℕ) → ValidTable n (replicate (4 * (n * n)) 0)
zeros-valid n = let z : ℕ = 0 in
    record { len = length-replicate (4 * (n * n)) z; bits = λ i. let e = get_d-zeros (4 * (n * n)) i in omega arith }

pub handed-in-valid : (s : State) → HandedIn s → ValidState s
handed-in-valid s h = accepted-valid s h.accepted

pub handed-in : EveryModelHandedIn
unfolding EveryModelHandedIn
handed-in M e = record {
  accepted = (table-fault-none M (replicate (4 * (M.n * M.n)) 0)).1 ((fault-none M).0 e, zeros-valid M.n);
  zeros = refl;
}

-- ---- a run of visits, settles and probes narrows the box

pub unchanged-narrowed : (s : State) → ValidModel s.model → NarrowedTo s s
unfolding with_box
unchanged-narrowed s v = record { box = s.model.box; table = s.table; is = refl; narrowed = narrowed-refl s v }

pub narrowed-trans : {s r u : State} → 0 < s.model.n → NarrowedTo s r → NarrowedTo r u → NarrowedTo s u
unfolding with_box
narrowed-trans {s} {r} {u} h p q = go (subst (λ (z : State). NarrowedTo z u) p.is q)
  where
    w : Narrowed s p.box p.table
    w = p.narrowed

    go : NarrowedTo (with_box s p.box p.table) u → NarrowedTo s u
    go q = record {
      box = q.box;
      table = q.table;
      is = q.is;
      narrowed = record {
        box = ⊎_elim (λ e. inl e) (λ i. inr (i.0, narrowed-inside w h i.0 i.1)) q.narrowed.box;
        keeps = λ o i. q.narrowed.keeps o (w.keeps o i);
        holds = λ x o i. q.narrowed.holds x ((narrowed-points w h x).1 o) (w.holds x o i);
        table = λ v. q.narrowed.table (w.table v);
      };
    }

pub step-narrowed : (s : State) (c : Call) → ValidModel s.model → (call_fault s c ≡ 0 → T (narrows (kind_of c.kind))) → NarrowedTo s (step s c)
step-narrowed s c v f =
    step-ind s c (NarrowedTo s) (λ e. act-narrowed (kind_of c.kind) s c (f e) (accepted s c e)) (unchanged-narrowed s v)

pub run-narrowed : (s : State) (cs : List Call) → ValidState s → Narrows s cs → NarrowedTo s (run s cs)
unfolding run Narrows
run-narrowed s [] v p = unchanged-narrowed s v.model
run-narrowed s (c ∷ cs) v p =
    narrowed-trans v.model.some (step-narrowed s c v.model p.0) (run-narrowed (step s c) cs ((step-preserves s c).valid v) p.1)

-- ---- two ends of such runs from s

-- a probed fixpoint at the one end lies inside the other
inside-other : {s : State} {P Q : List ℤ} {t u : List ℕ} → 0 < s.model.n → Narrowed s P t → Narrowed s Q u
    → ProbedFixpoint s.model.n s.model.m s.model.rows P → Inside s.model.n P Q
inside-other {s} {P} h a b p = b.keeps p (narrowed-inside a h p.fixpoint.non_empty (inside-refl s.model.n P))

same-box : {s : State} {P Q : List ℤ} {t u : List ℕ} → 0 < s.model.n → Narrowed s P t → Narrowed s Q u
    → ProbingFixpoint s.model.n s.model.m s.model.rows P → ProbingFixpoint s.model.n s.model.m s.model.rows Q → P ≡ Q
unfolding ProbingFixpoint
same-box h a b (inl e) (inl f) = e ∙ sym f
same-box {s} {P} {Q} h a b (inl e) (inr q) = absurd (not-in-empty s.model.n Q h q.fixpoint.non_empty (subst (Inside s.model.n Q) e (inside-other h b a q)))
same-box {s} {P} {Q} h a b (inr p) (inl f) = absurd (not-in-empty s.model.n P h p.fixpoint.non_empty (subst (Inside s.model.n P) f (inside-other h a b p)))
same-box h a b (inr p) (inr q) =
    inside-antisymm p.fixpoint.non_empty q.fixpoint.non_empty (inside-other h a b p) (inside-other h b a q)

-- at rest is judged with the rows of the state, which are those of s
pub same_end_lem : {s r u : State} → 0 < s.model.n → NarrowedTo s r → NarrowedTo s u → AtRest r → (r.model.box ≡ u.model.box) ↔ AtRest u
unfolding with_box
same_end_lem {s} {r} {u} h a b = rw (a.is, b.is) (λ p. (
  (λ e. subst (ProbingFixpoint s.model.n s.model.m s.model.rows) e p),
  (λ q. same-box h a.narrowed b.narrowed p q),
))

-- ---- the demand

pub demand-3 : Demand3
unfolding Demand3
demand-3 s before one two g p1 p2 =
    let k = run-preserves s before in
    let v = k.valid (handed-in-valid s g) in
    let ends : (cs : List Call) → Preserves s (run (run s before) cs) = (λ cs. preserves-trans k (run-preserves (run s before) cs)) in
    let implied : (cs : List Call) (x : List ℤ) → PointOf s x → TableHolds s.model.n (run (run s before) cs).table x =
    (λ cs x p. rw (ends cs).sizes.0 at ((ends cs).holds x p (rw g.zeros (zeros-hold s.model.n (4 * (s.model.n * s.model.n)) x)))) in
    record {
      same_end = same_end_lem v.model.some (run-narrowed (run s before) one v p1) (run-narrowed (run s before) two v p2);
      points1 = (ends one).points;
      points2 = (ends two).points;
      implied1 = implied one;
      implied2 = implied two;
    }
