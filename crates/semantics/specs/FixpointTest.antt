-- A computable test for a box that no row's propagation changes (01's quiet box), and the search for the first row that would.
use Rattle.std.specs.Prelude.{ℕ, ℤ, Bool, List}
use Rattle.integer.specs.Index.{all}
use Rattle.model.specs.Box.{same_list}
use Rattle.model.specs.Rows.{Rows, row_at}
use Rattle.row.specs.Kinds.{propagate_row_of}
use Rattle.semantics.specs.Lowest.{lowest}

-- propagating row i leaves the box as it is
abbrev pub row_leaves : ℕ → Rows → List ℤ → ℕ → Bool
row_leaves n A B i = same_list (propagate_row_of n (row_at n A i) B).box B

-- no row moves a bound
unfoldable pub is_fixpoint : ℕ → ℕ → Rows → List ℤ → Bool
is_fixpoint n m A B = all m (row_leaves n A B)

-- 02 (C-13): "the lowest row whose visit changes the box"; m where none does. A visit that answers None changes it: it becomes void.
unfoldable pub first_moving : ℕ → ℕ → Rows → List ℤ → ℕ
first_moving n m A B = lowest m (row_leaves n A B)
