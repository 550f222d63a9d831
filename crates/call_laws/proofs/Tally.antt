-- The four counts of a list of calls add up to the number of the calls.
use Prim.Native.Nat.{◌+◌, ℕ}
use lib.ListN.{length}
use mathlib.Core.List.{List, [], ◌∷◌}
use mathlib.Core.Path.{◌≡◌}
use native.Mathlib.Omega.{arith}
use Rattle.model.specs.State.{State}
use Rattle.semantics.specs.Call.{Call}
use Rattle.semantics.specs.Run.{CallClass, Counts, changed_call, class_listed, count_call, infeasible_call, no_counts, refused_call, step_listed, tally, unchanged_call}

abbrev pub total : Counts → ℕ
total k = k.refusals + k.infeasibles + k.changes + k.unchanges

pub count-total : (q : CallClass) (k : Counts) → total (count_call q k) ≡ total k + 1
unfolding count_call
count-total (refused_call number) k = omega arith
count-total infeasible_call k = omega arith
count-total changed_call k = omega arith
count-total unchanged_call k = omega arith

pub tally-total : (k : Counts) (s : State) (cs : List Call) → total (tally k s cs) ≡ total k + length cs
unfolding tally
tally-total k s [] = omega arith
tally-total k s (c ∷ cs) = omega (arith, tally-total (count_call (class_listed s c) k) (step_listed s c) cs, count-total (class_listed s c) k)

pub tally-length : (s : State) (cs : List Call) → total (tally no_counts s cs) ≡ length cs
unfolding no_counts
tally-length s cs = omega (arith, tally-total no_counts s cs)
