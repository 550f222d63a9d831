-- Which rows a pass may pass over: a row is clean, its mark 1, only if propagating it moves nothing. Its mark is 2 where it is dirty, and
-- 0 until it was propagated first.
use Rattle.std.specs.Prelude.{◌*◌, ◌+◌, ◌<◌, ◌≤◌, ℕ, eqb, ℤ, get_or, length, Bool, ◌&&◌, ◌||◌, not, true, List, ◌≡◌}
use Rattle.model.specs.Box.{NonEmpty, at, lower, upper}
use Rattle.model.specs.Rows.{Rows, row_at}
use Rattle.model.specs.Valid.{ValidModel}
use Rattle.model.specs.Model.{model_of}
use Rattle.row.specs.Outcome.{unchanged}
use Rattle.row.specs.Kinds.{propagate_row_of}
use Rattle.row_index.specs.Index.{ColumnSigns, Index, RowSteps, sign_of}

-- the invariant; of the empty box it says nothing
pub record Clean (n m : ℕ) (A : Rows) (B : List ℤ) (marks : List ℕ) : Type 0 where
  pub same : NonEmpty n B → (r : ℕ) → r < m → get_or marks r 0 ≡ 1
      → propagate_row_of n (row_at n A r) B ≡ record { outcome = unchanged; moved = 0; box = B }

-- the index, the marks, and the copy of the box by which a row's moves are found
pub record Watched (n m : ℕ) (A : Rows) (B : List ℤ) (across signs : List ℕ) (seen : List ℤ) (marks : List ℕ) : Type 0 where
  pub index : Index n m A.coefs across signs
  pub copied : NonEmpty n B → seen ≡ B
  pub clean : Clean n m A B marks

-- ---- what a box that moved leaves clean

-- whether a row of the given kind with a coefficient of the sign s reads the lower bound (1) or the upper one (2): a ≤ row the lower
-- one where its coefficient is above 0 and the upper one where it is below, an = row both where it is not 0
unfoldable pub reads : ℕ → ℕ → ℕ → Bool
reads kind s bound = eqb s bound || (eqb kind 1 && not (eqb s 3))

-- no bound of variable j that row r reads differs
pub record Unread (n : ℕ) (C : List ℤ) (K : List ℕ) (r : ℕ) (old new : List ℤ) (j : ℕ) : Type 0 where
  pub low : reads (get_or K r 0) (sign_of (at C (r * n + j))) 1 ≡ true → lower new j ≡ lower old j
  pub high : reads (get_or K r 0) (sign_of (at C (r * n + j))) 2 ≡ true → upper new j ≡ upper old j

-- two boxes that differ only at variables to which the steps from `start` lead, and the marks that go with the old one
pub record Remarks (n m : ℕ) (C : List ℤ) (signs steps : List ℕ) (start : ℕ) (old new : List ℤ) (marks : List ℕ) : Type 0 where
  pub columns : ColumnSigns n m C signs
  pub old_len : length old ≡ 2 * n
  pub new_len : length new ≡ 2 * n
  pub marks_len : m ≤ length marks
  pub steps_len : start + n ≤ length steps
  pub forward : (j : ℕ) → j < n → 0 < get_or steps (start + j) 0
  pub within : (j : ℕ) → j < n → j + get_or steps (start + j) 0 ≤ n
  pub between : (j : ℕ) → j < n → (k : ℕ) → j < k → k < j + get_or steps (start + j) 0 → (lower new k ≡ lower old k) × (upper new k ≡ upper old k)

-- ---- a row is propagated

pub record Propagable (n m : ℕ) (B : List ℤ) (A : Rows) (across signs : List ℕ) (seen : List ℤ) (marks : List ℕ) : Type 0 where
  pub valid : ValidModel (model_of n m B A)
  pub non_empty : NonEmpty n B
  pub watched : Watched n m A B across signs seen marks
  pub room : m ≤ length marks

-- ---- the rows of a box are tested

pub record Testable (n m : ℕ) (B : List ℤ) (A : Rows) (across marks : List ℕ) : Type 0 where
  pub valid : ValidModel (model_of n m B A)
  pub steps : RowSteps n m A.coefs across
  pub clean : Clean n m A B marks
  pub room : m ≤ length marks
