-- What a prepared workspace knows of a box: nothing here asks for it, since a lent workspace may hold anything; what is promised is
-- promised where it is so.
use Rattle.std.specs.Prelude.{ℕ, ◌+ℤ◌, pos, ℤ, ◌≤ℤ◌, Bool, List, Some, is_some, ◌≡◌}
use Rattle.model.specs.Box.{width}
use Rattle.model.specs.Rows.{Rows}
use Rattle.prepared_model.specs.Layout.{decode, fall_of, rise_of}
use Rattle.prepared_model.specs.Reasons.{ending_row, reasons_to}
use Rattle.prepared_row.specs.Looking.{Looking}
use Rattle.row_set.specs.Readers.{Calm, Hearers}
use Rattle.semantics.specs.Propagate.{pass_to}
use Rattle.prepared_propagation.specs.declared.pass.PassEnd.{PassEnd}

-- its sets are those of the rows that hear, and the rows that are not to be looked at move nothing
pub record Known (n m : ℕ) (W : List ℕ) (B : List ℤ) (D : List ℕ) : Type 0 where
  pub hearers : Hearers n m (decode n m W) (rise_of W) (fall_of W)
  pub calm : Calm n m (decode n m W) B D

-- a pass over the box B came to this: its end, the bounds that it moved and the box that it left
pub record PassMade (n m : ℕ) (A : Rows) (B : List ℤ) (over : Bool) (moved : ℕ) (Q : List ℤ) : Type 0 where
  pub ended : (pass_to n m A B).ended ≡ over
  pub moves : (pass_to n m A B).moved ≡ moved
  pub box : (pass_to n m A B).box ≡ Q

-- all that a pass is known to do where the workspace knows the box: the rows that are not to be looked at then move nothing, and the
-- reasons S are those of all rows, with the row that ended it
pub record PassTold (n m : ℕ) (A : Rows) (B : List ℤ) (R : List ℕ) (p : PassEnd) (Q : List ℤ) (D S : List ℕ) : Type 0 where
  pub made : PassMade n m A B (is_some p.infeasible) p.moved Q
  pub calm : Calm n m A Q D
  pub movers : reasons_to n m A B R ≡ S
  pub infeasible : (r : ℕ) → p.infeasible ≡ Some r → r ≡ ending_row n m A B

-- after a pass that no row ended: all is as before, and the bounds moved are no more than the width that was lost
pub record PassLeft (n m : ℕ) (W : List ℕ) (B : List ℤ) (moved : ℕ) (Q seen : List ℤ) (D : List ℕ) : Type 0 where
  pub looking : Looking n m W Q seen D
  pub width : (pos moved +ℤ width n Q) ≤ℤ width n B
