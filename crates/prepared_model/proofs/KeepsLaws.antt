-- What is kept in the workspace: nothing, or the set and the box, which stand between its head and its rows.
use Prim.Native.Nat.{ℕ}
use lib.Dec.{T, T_not}
use lib.IntN.{ℤ}
use mathlib.Core.Bool.{not}
use mathlib.Core.List.{List}
use mathlib.Core.Path.{◌≡◌, refl}
use native.Mathlib.Omega.{arith}
use Rattle.semantics.specs.Perform.{Answer}
use Rattle.semantics.specs.Run.{answers_none}
use Rattle.prepared_model.specs.Keeps.{Keeps}
use Rattle.prepared_model.specs.Layout.{box_in, variables_of}
use Rattle.prepared_model.specs.SameBut.{SameBut}

pub keeps-none : (W : List ℕ) (a : Answer) (Q : List ℤ) → T (answers_none a) → Keeps W W a Q
keeps-none W a Q z = record { variables = refl; rows = refl; infeasible = λ _. refl; box = λ y. absurd (T_not (answers_none a) y z) }

pub keeps-box : {n : ℕ} {W W' : List ℕ} (a : Answer) {Q : List ℤ} → n ≡ variables_of W → SameBut 4 264 W W' → box_in n W' ≡ Q
    → T (not (answers_none a)) → Keeps W W' a Q
keeps-box a e s b z = record {
  variables = s.before 1 (omega arith);
  rows = s.before 2 (omega arith);
  infeasible = λ y. absurd (T_not (answers_none a) z y);
  box = λ _. rw e at b;
}
