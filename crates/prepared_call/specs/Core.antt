-- What the functions below the open call ask and give: W is the workspace, B the box and R the list of reasons that they are lent.
use Rattle.std.specs.Prelude.{◌≡◌, ℕ, not, T, List, [], length, ℤ}
use Rattle.model.specs.Box.{NonEmpty}
use Rattle.model.specs.Rows.{Rows}
use Rattle.model.specs.Valid.{ValidBox}
use Rattle.prepared_checks.specs.Checks.{Accepting}
use Rattle.prepared_model.specs.Layout.{box_in, dirty_of, rows_in, variables_of}
use Rattle.prepared_model.specs.Prepared.{Ours, Prepared}
use Rattle.prepared_model.specs.Reasons.{reasons_from}
use Rattle.prepared_model.specs.SameBut.{SameBut}
use Rattle.prepared_propagation.specs.declared.PreparedEnd.{PreparedEnd}
use Rattle.propagation.specs.Results.{propagation_of}
use Rattle.row_set.specs.Readers.{Calm}
use Rattle.semantics.specs.Propagate.{is_none, propagate_from}

-- a box that is not empty, and room for a set of rows
pub record Running (W : List ℕ) (B : List ℤ) (D R : List ℕ) : Type 0 where
  pub accepting : Accepting W B R
  pub non_empty : NonEmpty (variables_of W) B
  pub set : length D ≡ 4

-- the passes came to p, and left the box B', the rows D' to look at and the reasons R'
pub record Ran (budget : ℕ) (W : List ℕ) (B : List ℤ) (R : List ℕ) (p : PreparedEnd) (B' : List ℤ) (D' R' : List ℕ) : Type 0 where
  pub valid : T (not (is_none (propagation_of p.end []).ending)) → ValidBox (variables_of W) B' × NonEmpty (variables_of W) B'
  pub set : length D' ≡ 4
  pub answer : (A : Rows) → Prepared W A → propagation_of p.end B' ≡ propagate_from budget 0 0 (variables_of W) (rows_in W) A B
  pub calm : (A : Rows) → Prepared W A → Calm (variables_of W) (rows_in W) A B' D'
  pub reasons : (A : Rows) → Prepared W A
      → record { movers = R'; infeasible = p.row } ≡ reasons_from budget (variables_of W) (rows_in W) A B R

-- what can be kept
pub record Keeping (W : List ℕ) (B : List ℤ) (D : List ℕ) : Type 0 where
  pub ours : Ours W
  pub box : ValidBox (variables_of W) B
  pub set : length D ≡ 4

-- the set and then the box were written, and nothing else
pub record Kept (W : List ℕ) (B : List ℤ) (D W' : List ℕ) : Type 0 where
  pub between : List ℕ
  pub first : SameBut 4 8 W between
  pub second : SameBut 8 264 between W'
  pub set : dirty_of between ≡ D
  pub box : box_in (variables_of W) W' ≡ B
