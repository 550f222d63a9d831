-- Demand 3 with ties in the first list: after the parting the ties and rows stay, and the box narrows and keeps every probed
-- fixpoint inside it, so that two ends at rest lie inside each other.
use Prim.Native.Nat.{ℕ}
use lib.Dec.{eqb, eqb→eq}
use mathlib.Core.List.{List, [], ◌∷◌}
use mathlib.Core.Path.{◌∙◌, ◌≡◌, ap, refl, subst}
use Rattle.integer.proofs.Tests.{cond_ind}
use Rattle.model.specs.State.{State}
use Rattle.model.specs.Valid.{ValidState}
use Rattle.semantics.specs.CallList.{calls_made, run_list}
use Rattle.call_laws.proofs.CallLaws.{NarrowedTo}
use Rattle.demands.proofs.CallLists.{list-made, list-narrows}
use Rattle.demands.proofs.Demand3.{narrowed-trans, run-narrowed, same_end_lem, step-narrowed, unchanged-narrowed}
use Rattle.ties.specs.TieCall.{TieCall, TiePerformed, perform_tie, tie_fault}
use Rattle.ties.specs.TiedRun.{KeepsTied, TiedCall, listed, other, run_tied, step_tied, ties}
use Rattle.ties.specs.TiedRuns.{Demand3Tied, Demand3TiedLists, NarrowsTied}
use Rattle.ties.specs.Ties.{TiedState, ValidTiedState}
use Rattle.ties.proofs.TiedPreserved.{handed-in-tied-valid, keeps-tied, preserves-trans, run-preserves-tied, step-preserves-tied}

-- a call list is a run of calls that narrow
list-narrowed : (s : State) (xs : List ℕ) → ValidState s → NarrowedTo s (run_list s xs).state
list-narrowed s xs v = rw (list-made s xs) (run-narrowed s (calls_made s xs) v (list-narrows s xs))

-- a tie that is refused leaves the state
refused-tie : (s : TiedState) (c : TieCall) → (tie_fault s c ≡ 0 → ⊥) → (perform_tie s c).state ≡ s
unfolding perform_tie
refused-tie s c ne =
    cond_ind (eqb (tie_fault s c) 0) _ _ (λ (r : TiePerformed). r.state ≡ s) (λ t. absurd (ne (eqb→eq (tie_fault s c) 0 t))) (λ _. refl)

run-narrowed-tied : (s : TiedState) (cs : List TiedCall) → ValidTiedState s → NarrowsTied s cs → NarrowedTo s.state (run_tied s cs).state
unfolding run_tied NarrowsTied step_tied
run-narrowed-tied s [] v p = unchanged-narrowed s.state v.state.model
run-narrowed-tied s (other c ∷ cs) v p =
    narrowed-trans v.state.model.some (step-narrowed s.state c v.state.model p.0)
    (run-narrowed-tied (step_tied s (other c)) cs ((step-preserves-tied s (other c)).valid v) p.1)
run-narrowed-tied s (listed xs ∷ cs) v p =
    narrowed-trans v.state.model.some (list-narrowed s.state xs v.state)
    (run-narrowed-tied (step_tied s (listed xs)) cs ((step-preserves-tied s (listed xs)).valid v) p)
run-narrowed-tied s (ties c ∷ cs) v p =
    subst (λ (r : TiedState). NarrowedTo r.state (run_tied (perform_tie s c).state cs).state) (refused-tie s c p.0)
    (run-narrowed-tied (step_tied s (ties c)) cs ((step-preserves-tied s (ties c)).valid v) p.1)

-- the list as it stands at the parting is that of both ends
pub ties-stay : (s : TiedState) (cs : List TiedCall) → NarrowsTied s cs → (run_tied s cs).ties ≡ s.ties
unfolding run_tied NarrowsTied step_tied
ties-stay s [] p = refl
ties-stay s (other c ∷ cs) p = ties-stay (step_tied s (other c)) cs p.1
ties-stay s (listed xs ∷ cs) p = ties-stay (step_tied s (listed xs)) cs p
ties-stay s (ties c ∷ cs) p = ties-stay (step_tied s (ties c)) cs p.1 ∙ ap (λ (r : TiedState). r.ties) (refused-tie s c p.0)

pub demand-3-tied : Demand3Tied
unfolding Demand3Tied
demand-3-tied s before one two g p1 p2 =
    let b = run-preserves-tied s before in
    let v = b.valid (handed-in-tied-valid s g) in
    let r = run_tied s before in
    let ends : (cs : List TiedCall) → KeepsTied s (run_tied r cs) = (λ cs. keeps-tied g (preserves-trans b (run-preserves-tied r cs))) in
    record {
      same_end = same_end_lem v.state.model.some (run-narrowed-tied r one v p1) (run-narrowed-tied r two v p2);
      points1 = (ends one).points;
      points2 = (ends two).points;
      implied1 = (ends one).implied;
      implied2 = (ends two).implied;
    }

pub demand-3-tied-lists : Demand3TiedLists
unfolding Demand3TiedLists Demand3Tied NarrowsTied run_tied
demand-3-tied-lists s before one two g = demand-3-tied s before (listed one ∷ []) (listed two ∷ []) g tt tt
