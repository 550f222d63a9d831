-- What the search for the first row that would change a box needs: calm rows may be passed over.
use Prim.Native.Nat.{◌+◌, ◌<◌, ◌≤◌, ℕ}
use lib.Dec.{T}
use lib.IntN.{ℤ}
use mathlib.Core.Bool.{false}
use mathlib.Core.List.{List}
use mathlib.Core.Path.{◌≡◌}
use native.Mathlib.Decide.{dec_lt, ℕ_discrete}
use native.Mathlib.Omega.{arith}
use Rattle.integer.proofs.IndexLaws.{all-at, all-i}
use Rattle.marked_row.proofs.MarkedRowLaws.{moves-none}
use Rattle.model.specs.Box.{NonEmpty}
use Rattle.model.specs.Rows.{Rows, row_at}
use Rattle.model.proofs.BoxLaws.{same_list-refl}
use Rattle.propagation.proofs.SearchLaws.{Passed}
use Rattle.row.specs.Kinds.{row_moves_of}
use Rattle.row_set.specs.Bits.{bit_at}
use Rattle.row_set.specs.Readers.{Calm}
use Rattle.semantics.specs.FixpointTest.{row_leaves}

module _ (n m : ℕ) (A : Rows) (B : List ℤ) (D : List ℕ) (h : 0 < n) (p : NonEmpty n B) (c : Calm n m A B D) where
  pub calm-passed : (r s : ℕ) → Passed n A B h p r → s ≤ m → ((i : ℕ) → r ≤ i → i < s → bit_at D i ≡ 0) → Passed n A B h p s
  calm-passed r s t k f = all-i s (row_leaves n A B) (λ i b. go i b (dec_lt i r))
    where
      go : (i : ℕ) → i < s → Dec (i < r) → T (row_leaves n A B i)
      go i b (yes a) = all-at r (row_leaves n A B) t i a
      go i b (no a) = rw (c.same p i (omega arith) (f i (omega arith) b)) (same_list-refl B)

  -- row r, which was tested, leaves the box too
  pub calm-tested : (r s : ℕ) → Passed n A B h p r → r < m → row_moves_of n (row_at n A r) B ≡ false → s ≤ m
      → ((i : ℕ) → r + 1 ≤ i → i < s → bit_at D i ≡ 0) → Passed n A B h p s
  calm-tested r s t b e = calm-passed (r + 1) s (all-i (r + 1) (row_leaves n A B) (λ i k. go i k (ℕ_discrete i r)))
    where
      go : (i : ℕ) → i < r + 1 → Dec (i ≡ r) → T (row_leaves n A B i)
      go i k (yes d) = rw (d, moves-none (row_at n A r) h e p) (same_list-refl B)
      go i k (no d) = all-at r (row_leaves n A B) t i (omega arith)
