-- A list's promises from the first of them, and that no answer of a list hides another. Assumes nothing.
use Prim.Native.Nat.{ℕ}
use mathlib.Core.List.{List}
use mathlib.Core.Path.{◌≡◌, ap, subst, sym}
use Rattle.call.specs.Classes.{counts_of}
use Rattle.call.specs.declared.Counts.{Counts}
use Rattle.flat_list.specs.ListAnswers.{list_answer}
use Rattle.std.specs.Prelude.{Result, Ok, Err}
use Rattle.call.specs.declared.Counts.{Counts}
use Rattle.model.specs.declared.refusal.Refusal.{Refusal}
use Rattle.model.proofs.RefusalLaws.{number_of-injective}
use Rattle.model.specs.State.{State}
use Rattle.semantics.specs.CallList.{ListRun, run_list}
use Rattle.semantics.specs.Run as lists
use Rattle.demands.specs.TwoLists.{CountsAddUp, Demand3Lists, ListMeans}
use Rattle.demands.specs.TwoRuns.{EveryModelHandedIn}
use Rattle.demands.proofs.CallLists.{counts-add-up, demand-3-lists, list-means}
use Rattle.demands.proofs.Demand3.{handed-in}

-- all promises, from the first
pub list-promised : (s : State) (xs : List ℕ) (w : ListRun) → w ≡ run_list s xs
    → (w ≡ run_list s xs) × (ListMeans s w × ((EveryModelHandedIn × Demand3Lists) × CountsAddUp))
list-promised s xs w e = (e, (subst (ListMeans s) (sym e) (list-means s xs), ((handed-in, demand-3-lists), counts-add-up)))

counts_of-injective : (x y : Counts) → counts_of x ≡ counts_of y → x ≡ y
unfolding counts_of
counts_of-injective x y e = ap (λ (k : lists.Counts). let r : Counts = record { refused = k.refusals; infeasible = k.infeasibles; changed = k.changes; unchanged = k.unchanges } in r) e

pub list_answer-injective : (r s : Result Counts Refusal) → list_answer r ≡ list_answer s → r ≡ s
unfolding list_answer
list_answer-injective (Err x) (Err y) e = ap Err (number_of-injective x y cc)
list_answer-injective (Err x) (Ok y) e = cc
list_answer-injective (Ok x) (Err y) e = cc
list_answer-injective (Ok x) (Ok y) e = cc (counts_of-injective x y cc)
