-- Boxes that propagation leaves as they are, and boxes that probing leaves as they are (01's quiet and at rest), as properties.
use Rattle.std.specs.Prelude.{◌<◌, ℕ, T, ℤ, List, ◌⊎◌, ◌≡◌}
use Rattle.model.specs.Box.{Inside, NonEmpty, empty_box, is_free}
use Rattle.model.specs.Rows.{Rows, row_at}
use Rattle.row.specs.Kinds.{propagate_row_of}
use Rattle.semantics.specs.Probe.{fix, hull}

-- "A box is quiet when it is not void and no visit changes it."
pub record Fixpoint (n m : ℕ) (A : Rows) (B : List ℤ) : Type 0 where
  pub non_empty : NonEmpty n B
  pub same : (i : ℕ) → i < m → (propagate_row_of n (row_at n A i) B).box ≡ B

-- "The largest quiet box inside a box contains every other quiet one inside it": Q is that of B, and there is one.
pub record GreatestFixpoint (n m : ℕ) (A : Rows) (B Q : List ℤ) : Type 0 where
  pub fixpoint : Fixpoint n m A Q
  pub inside : Inside n Q B
  pub greatest : (P : List ℤ) → Fixpoint n m A P → Inside n P B → Inside n P Q

-- "both sides have a largest quiet box that is not void, and the smallest box containing the two is the box itself"
pub record SidesSpan (n m : ℕ) (A : Rows) (B : List ℤ) (k : ℕ) : Type 0 where
  pub q0 : List ℤ
  pub q1 : List ℤ
  pub greatest0 : GreatestFixpoint n m A (fix n B k 0) q0
  pub greatest1 : GreatestFixpoint n m A (fix n B k 1) q1
  pub span : hull n q0 q1 ≡ B

-- "is quiet and for each free 0-1 variable .."
pub record ProbedFixpoint (n m : ℕ) (A : Rows) (B : List ℤ) : Type 0 where
  pub fixpoint : Fixpoint n m A B
  pub spans : (k : ℕ) → k < n → T (is_free B k) → SidesSpan n m A B k

-- "A box is at rest when it is void, or is quiet and .." : a probing fixpoint
unfoldable pub ProbingFixpoint : ℕ → ℕ → Rows → List ℤ → Type 0
ProbingFixpoint n m A B = (B ≡ empty_box n) ⊎ ProbedFixpoint n m A B
