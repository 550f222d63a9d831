-- What a call on a prepared model keeps in the workspace, a propagation or a probe: of the workspace W before, W' after, the answer a and
-- the box B' that was left.
use Rattle.std.specs.Prelude.{ℕ, T, ℤ, not, List, ◌≡◌}
use Rattle.semantics.specs.Perform.{Answer}
use Rattle.semantics.specs.Run.{answers_none}
use Rattle.prepared_model.specs.Layout.{box_in, rows_in, variables_of}

pub record Keeps (W W' : List ℕ) (a : Answer) (B' : List ℤ) : Type 0 where
  -- n and m stay
  pub variables : variables_of W' ≡ variables_of W
  pub rows : rows_in W' ≡ rows_in W
  -- a call that ends infeasible keeps nothing: the box that the workspace knows is the parent's, which the next sibling is compared with
  pub infeasible : T (answers_none a) → W' ≡ W
  -- any other keeps the box that it left
  pub box : T (not (answers_none a)) → box_in (variables_of W) W' ≡ B'
