-- What the sides of a probe of a prepared model ask for and leave, whatever the workspace holds.
use Rattle.std.specs.Prelude.{ℕ, ℤ, List, ◌≡◌}
use Rattle.model.specs.Box.{NonEmpty, at, is_empty}
use Rattle.model.specs.Limits.{max_bound, min_bound}
use Rattle.model.specs.Valid.{Between, ValidBox}
use Rattle.prepared_model.specs.Layout.{rows_in, variables_of}
use Rattle.prepared_row.specs.Looking.{Sized}
use Rattle.propagation.specs.Results.{propagation_of}
use Rattle.propagation.specs.declared.Propagation.{Propagation}
use Rattle.semantics.specs.Propagate.{is_none}

-- a workspace whose n and m these are, and a box of them that is not empty
pub record Boxed (n m : ℕ) (W : List ℕ) (B : List ℤ) : Type 0 where
  pub variables : n ≡ variables_of W
  pub rows : m ≡ rows_in W
  pub sized : Sized n m W B
  pub non_empty : NonEmpty n B

-- a side's box S after it was propagated: valid, and empty exactly if the answer is infeasible
pub record SideLeft (n : ℕ) (p : Propagation) (S : List ℤ) : Type 0 where
  pub valid : ValidBox n S
  pub none : is_none (propagation_of p S).ending ≡ is_empty n S

-- every bound is in its range
abbrev pub InRange : List ℤ → Type 0
InRange B = (i : ℕ) → Between min_bound max_bound (at B i)
