-- What the search for the first row that would change a box needs: what the test of a row says, and that clean rows may be passed over.
use Prim.Native.Nat.{◌<◌, ℕ}
use lib.Dec.{T}
use lib.IntN.{ℤ}
use lib.ListN.{get_or}
use mathlib.Core.Bool.{Bool, false, not, true}
use mathlib.Core.List.{List}
use mathlib.Core.Path.{◌∙◌, ◌≡◌, refl, sym}
use Rattle.integer.specs.Index.{all}
use Rattle.integer.proofs.Tests.{false→T, true→T}
use Rattle.model.specs.Box.{NonEmpty}
use Rattle.model.specs.Rows.{Rows, row_at}
use Rattle.model.proofs.BoxLaws.{same_list-refl, same_list→eq}
use Rattle.row.specs.Kinds.{propagate_row_of, row_moves_of}
use Rattle.row.specs.Outcome.{is_unchanged}
use Rattle.row.proofs.KindLaws.{kinded-stays}
use Rattle.row_marks.specs.Marks.{Clean}
use Rattle.marked_row.proofs.MarkedRowLaws.{moves-none}
use Rattle.semantics.specs.FixpointTest.{first_moving, row_leaves}
use Rattle.call_laws.proofs.LowestLaws.{lowest-all, lowest-is}

module _ (n : ℕ) (A : Rows) (B : List ℤ) (h : 0 < n) (p : NonEmpty n B) where
  pub row_stays : (r : ℕ) → row_moves_of n (row_at n A r) B ≡ false → T (row_leaves n A B r)
  row_stays r e = rw (moves-none (row_at n A r) h e p) (same_list-refl B)

  row_moved : (r : ℕ) → row_moves_of n (row_at n A r) B ≡ true → T (not (row_leaves n A B r))
  unfolding row_moves_of is_unchanged
  row_moved r e = go (row_leaves n A B r) refl
    where
      go : (x : Bool) → row_leaves n A B r ≡ x → T (not x)
      go false f = tt
      go true f =
          let q = same_list→eq (propagate_row_of n (row_at n A r) B).box B (true→T (row_leaves n A B r) f) in
          false→T true (sym e ∙ rw (kinded-stays (row_at n A r) h p q) refl)

  -- the rows below r leave the box
  abbrev pub Passed : ℕ → Type 0
  Passed r = T (all r (row_leaves n A B))

  -- a clean row leaves it
  pub clean_stays : (m : ℕ) {marks : List ℕ} → Clean n m A B marks → (r : ℕ) → r < m → get_or marks r 0 ≡ 1 → T (row_leaves n A B r)
  clean_stays m c r k f = rw (c.same p r k f) (same_list-refl B)

  -- the search ends at the first row that moves a bound, or at m
  pub found : (m r : ℕ) → r < m → Passed r → row_moves_of n (row_at n A r) B ≡ true → r ≡ first_moving n m A B
  unfolding first_moving
  found m r k t e = sym (lowest-is (row_leaves n A B) m r k t (row_moved r e))

  pub none_found : (m : ℕ) → Passed m → m ≡ first_moving n m A B
  unfolding first_moving
  none_found m t = sym (lowest-all (row_leaves n A B) m t)
