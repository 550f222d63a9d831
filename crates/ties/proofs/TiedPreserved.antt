-- What every call, a tie among them, and so every list of calls keeps.
use Prim.Native.Nat.{◌*◌, ◌<◌, ℕ}
use lib.Dec.{eqb, eqb→eq}
use lib.IntN.{ℤ}
use mathlib.Core.List.{List, [], ◌∷◌}
use mathlib.Core.Path.{◌∙◌, ◌≡◌, refl, subst, sym}
use Rattle.integer.proofs.Tests.{cond_ind}
use Rattle.model.specs.State.{State}
use Rattle.semantics.specs.Run.{step}
use Rattle.semantics.specs.CallList.{run_list}
use Rattle.call_laws.specs.Points.{TableHolds}
use Rattle.call_laws.proofs.ImplicationLaws.{zeros-hold}
use Rattle.call_laws.proofs.Preserved.{Preserves, step-preserves}
use Rattle.demands.proofs.Demand3.{handed-in-valid}
use Rattle.demands.proofs.CallLists.{list-preserves}
use Rattle.ties.specs.TieCall.{TieCall, TiePerformed, perform_tie, tie, tie_fault, tie_state}
use Rattle.ties.specs.TiedRow.{tie_to}
use Rattle.ties.specs.TiedRun.{AnyTable, FilledFromEmpty, HandedInTied, KeepsTied, TieKeeps, TiedCall, listed, other, run_tied, step_tied, ties}
use Rattle.ties.specs.Ties.{TiedFractional, TiedPoint, TiedState, TiesHoldOver, ValidTiedState, ValidTies}
use Rattle.ties.proofs.TieAccepted.{tie-accepted, ties-fault-none}
use Rattle.ties.proofs.TieLaws.{said-link, tie-adds-none, tie-ind, tie-keeps, tie-valid, tied-fractional}

-- Point by point: no point is added, whatever the table; and a point at which the recorded implications hold stays, and those
-- recorded afterwards hold at it too. (The points as a whole stay only where the implications hold at all of them.)
pub record PreservesTied (s r : TiedState) : Type 0 where
  pub sizes : (r.state.model.n ≡ s.state.model.n) × (r.state.model.m ≡ s.state.model.m)
  pub adds : (x : List ℤ) → TiedPoint r x → TiedPoint s x
  pub fractional : (x : List ℤ) (d : ℕ) → TiedFractional r x d → TiedFractional s x d
  pub keeps : (x : List ℤ) → TiedPoint s x → TableHolds s.state.model.n s.state.table x → TiedPoint r x × TableHolds r.state.model.n r.state.table x
  pub valid : ValidTiedState s → ValidTiedState r

preserves-refl : (s : TiedState) → PreservesTied s s
preserves-refl s = record { sizes = (refl, refl); adds = λ x p. p; fractional = λ x d p. p; keeps = λ x p i. (p, i); valid = λ v. v }

pub preserves-trans : {s r u : TiedState} → PreservesTied s r → PreservesTied r u → PreservesTied s u
preserves-trans p q = record {
  sizes = (q.sizes.0 ∙ p.sizes.0, q.sizes.1 ∙ p.sizes.1);
  adds = λ x z. p.adds x (q.adds x z);
  fractional = λ x d z. p.fractional x d (q.fractional x d z);
  keeps = λ x z i. let o = p.keeps x z i in q.keeps x o.0 o.1;
  valid = λ v. q.valid (p.valid v);
}

-- ---- a call of the five kinds: the box and rows have the same points, so with the same ties too

pub preserves-of : (s : TiedState) (r : State) → Preserves s.state r → PreservesTied s (record { state = r; ties = s.ties })
preserves-of s r p =
    let n = p.sizes.0 in
    record {
      sizes = p.sizes;
      adds = λ x z. record { point = (p.points x).0 z.point; ties = subst (λ (q : ℕ). TiesHoldOver q s.ties x 1) n z.ties };
      fractional = λ x d z. record { point = p.fractional x d z.point; ties = subst (λ (q : ℕ). TiesHoldOver q s.ties x d) n z.ties };
      keeps = λ x z i. (
        record { point = (p.points x).1 z.point; ties = subst (λ (q : ℕ). TiesHoldOver q s.ties x 1) (sym n) z.ties },
        p.holds x z.point i,
      );
      valid = λ v. record { state = p.valid v.state; ties = subst (λ (q : ℕ). ValidTies q s.ties) (sym n) v.ties };
    }

-- ---- a tie

tie-preserves : (s : TiedState) (k j : ℕ) → ValidTiedState s → k < s.state.model.n → j < s.state.model.n → PreservesTied s (tie s k j).state
unfolding tie_state tie_to
tie-preserves s k j v kn jn = tie-ind s k j (PreservesTied s) (preserves-refl s) (λ w w2 t c. record {
  sizes = (refl, refl);
  adds = λ x p. (tied-fractional s x).1 (tie-adds-none s k j w v kn jn w2 c x 1 ((tied-fractional (tie_state s k j w) x).0 p));
  fractional = λ x d p. tie-adds-none s k j w v kn jn w2 c x d p;
  keeps = λ x p i. (
    (tied-fractional (tie_state s k j w) x).1 (tie-keeps s k j w v kn jn w2 c x 1 (said-link s k j w x kn jn w2 c t p i) ((tied-fractional s x).0 p)),
    i,
  );
  valid = λ _. tie-valid s k j w v kn jn w2 c;
})

perform-preserves : (s : TiedState) (c : TieCall) → PreservesTied s (perform_tie s c).state
unfolding perform_tie
perform-preserves s c =
    cond_ind (eqb (tie_fault s c) 0) _ _ (λ (r : TiePerformed). PreservesTied s r.state)
    (λ t. let a = tie-accepted s c (eqb→eq (tie_fault s c) 0 t) in tie-preserves s c.k c.j a.valid a.k a.j)
    (λ _. preserves-refl s)

-- ---- any call, any list

pub step-preserves-tied : (s : TiedState) (c : TiedCall) → PreservesTied s (step_tied s c)
unfolding step_tied
step-preserves-tied s (other c) = preserves-of s (step s.state c) (step-preserves s.state c)
step-preserves-tied s (listed xs) = preserves-of s (run_list s.state xs).state (list-preserves s.state xs)
step-preserves-tied s (ties c) = perform-preserves s c

pub run-preserves-tied : (s : TiedState) (cs : List TiedCall) → PreservesTied s (run_tied s cs)
unfolding run_tied
run-preserves-tied s [] = preserves-refl s
run-preserves-tied s (c ∷ cs) = preserves-trans (step-preserves-tied s c) (run-preserves-tied (step_tied s c) cs)

-- ---- the promises

pub adds-no-point : AnyTable
unfolding AnyTable
adds-no-point s cs = let p = run-preserves-tied s cs in record { points = p.adds; fractional = p.fractional }

pub tie-promised : (s : TiedState) (c : TieCall) → TieKeeps s (perform_tie s c).state
tie-promised s c = let p = perform-preserves s c in
    record { adds = record { points = p.adds; fractional = p.fractional }; keeps = λ x z i. (p.keeps x z i).0 }

pub handed-in-tied-valid : (s : TiedState) → HandedInTied s → ValidTiedState s
handed-in-tied-valid s h =
    record { state = handed-in-valid s.state h.state; ties = (ties-fault-none s.state.model.n s.ties).0 h.ties }

pub handed-in-holds : (s : TiedState) → HandedInTied s → (x : List ℤ) → TableHolds s.state.model.n s.state.table x
handed-in-holds s h x = rw h.state.zeros (zeros-hold s.state.model.n (4 * (s.state.model.n * s.state.model.n)) x)

pub keeps-tied : {s r : TiedState} → HandedInTied s → PreservesTied s r → KeepsTied s r
keeps-tied {s} {r} h p = record {
  sizes = p.sizes;
  points = λ x. (p.adds x, λ z. (p.keeps x z (handed-in-holds s h x)).0);
  fractional = p.fractional;
  implied = λ x z. subst (λ (q : ℕ). TableHolds q r.state.table x) p.sizes.0 (p.keeps x z (handed-in-holds s h x)).1;
  valid = p.valid (handed-in-tied-valid s h);
}

pub filled-from-empty : FilledFromEmpty
unfolding FilledFromEmpty
filled-from-empty s cs h = keeps-tied h (run-preserves-tied s cs)
