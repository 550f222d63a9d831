-- What the answers mean for whatever model has the bounds B of n variables.
use Rattle.std.specs.Prelude.{◌≤◌, ℕ, T, ℤ, not, List, ◌≡◌}
use Rattle.model.specs.Model.{Model}
use Rattle.model.specs.State.{State}
use Rattle.model.specs.Valid.{ValidModel}
use Rattle.semantics.specs.CallChecks.{max_budget}
use Rattle.semantics.specs.CallList.{calls_made}
use Rattle.semantics.specs.Propagate.{is_spent, propagate}
use Rattle.demands.specs.Passes.{passes_made}

-- "a settle budget that is never spent": by no accepted model with these bounds; and check 15 does not refuse it
pub record EnoughFor (n : ℕ) (B : List ℤ) (budget : ℕ) : Type 0 where
  pub not_spent : (M : Model) → ValidModel M → M.n ≡ n → M.box ≡ B
      → T (not (is_spent (propagate budget M.n M.m M.rows M.box).ending))
  pub accepted : (1 ≤ budget) × (budget ≤ max_budget)

-- "The passes actually made never exceed it.": those that the list xs makes from any state with these bounds, whatever its rows, kinds
-- and table are; from one that is refused it makes none
pub record PassesAtMost (n : ℕ) (B : List ℤ) (xs : List ℕ) (passes : ℕ) : Type 0 where
  pub within : (s : State) → s.model.n ≡ n → s.model.box ≡ B → passes_made s (calls_made s xs) ≤ passes
