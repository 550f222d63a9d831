-- Who moved what: one row more of a pass, one that ended it, and one pass more.
use Prim.Native.Nat.{◌+◌, ◌-◌, ◌<◌, ◌≤◌, suc, zero, ℕ}
use lib.Dec.{T, T_not, ltb, lt→ltb, not_T}
use lib.IntN.{ℤ}
use lib.ListN.{replicate}
use mathlib.Core.Bool.{false, not, true}
use mathlib.Core.List.{List}
use mathlib.Core.Path.{◌∙◌, ◌≡◌, sym}
use native.Mathlib.Decide.{ℕ_discrete}
use native.Mathlib.Numerals.{add-one}
use native.Mathlib.Omega.{arith}
use Rattle.integer.proofs.IndexLaws.{all-i}
use Rattle.integer.proofs.Tests.{T→true}
use Rattle.model.specs.Box.{is_empty}
use Rattle.model.specs.Rows.{Rows, row_at}
use Rattle.row.specs.Kinds.{propagate_row_of}
use Rattle.semantics.specs.Propagate.{pass_to}
use Rattle.call_laws.proofs.LowestLaws.{lowest-is}
use Rattle.call_laws.proofs.PropagateLaws.{pass-ended}
use Rattle.prepared_model.specs.Reasons.{Reasons, ending_row, no_row, reasons_from, reasons_of, reasons_to}
use Rattle.prepared_model.specs.RowReasons.{row_reasons}

module _ (n : ℕ) (A : Rows) (B : List ℤ) (R : List ℕ) where
  pub reasons-suc : (r : ℕ) {P : List ℤ} → (pass_to n r A B).ended ≡ false → (pass_to n r A B).box ≡ P
      → reasons_to n (suc r) A B R ≡ row_reasons r P (propagate_row_of n (row_at n A r) P) (reasons_to n r A B R)
  unfolding reasons_to
  reasons-suc r e p = rw (e, p)

  pub reasons-next : (r : ℕ) {P : List ℤ} → (pass_to n r A B).ended ≡ false → (pass_to n r A B).box ≡ P
      → reasons_to n (r + 1) A B R ≡ row_reasons r P (propagate_row_of n (row_at n A r) P) (reasons_to n r A B R)
  reasons-next r e p = rw (add-one r) (reasons-suc r e p)

  reasons-stay : (m : ℕ) → T (pass_to n m A B).ended → reasons_to n (suc m) A B R ≡ reasons_to n m A B R
  unfolding reasons_to
  reasons-stay m t = rw (T→true (pass_to n m A B).ended t)

  -- after a row that was infeasible no row moves anything
  pub reasons-ended : (r m : ℕ) → r ≤ m → T (pass_to n r A B).ended → reasons_to n m A B R ≡ reasons_to n r A B R
  reasons-ended r zero h t = let z : r ≡ 0 = omega arith in rw z
  reasons-ended r (suc m) h t = go (ℕ_discrete r (suc m)) (λ k. reasons-ended r m k t)
    where
      go : Dec (r ≡ suc m) → (r ≤ m → reasons_to n m A B R ≡ reasons_to n r A B R) → reasons_to n (suc m) A B R ≡ reasons_to n r A B R
      go (yes d) w = rw d
      go (no d) w = reasons-stay m (rw (pass-ended n r A B m (omega arith) t) t) ∙ w (omega arith)

-- the row with which a pass is ended
pub ending-is : (n m r : ℕ) (A : Rows) (B : List ℤ) → r < m → (pass_to n r A B).ended ≡ false → (pass_to n (r + 1) A B).ended ≡ true → ending_row n m A B ≡ r
unfolding ending_row
ending-is n m r A B h e t = lowest-is _ m r h (all-i r _ before) (let u = rw (add-one r) at t in rw u tt)
  where
    before : (i : ℕ) → i < r → T (not (pass_to n (suc i) A B).ended)
    before i k = not_T (pass_to n (suc i) A B).ended (λ u. let f = pass-ended n (suc i) A B r (omega arith) u in T_not (pass_to n r A B).ended (rw e tt) (rw f u))

-- ---- one pass more, after `made` of `budget` that gave the reasons R; W is what the whole comes to

module _ (budget made n m : ℕ) (A : Rows) (B : List ℤ) (R : List ℕ) {W : Reasons} (h : made < budget) (w : reasons_from (budget - made) n m A B R ≡ W) where
  left_one : reasons_from (suc (budget - (made + 1))) n m A B R ≡ W
  left_one = let k : suc (budget - (made + 1)) ≡ budget - made = omega arith in rw k w

  pub told-infeasible : (pass_to n m A B).ended ≡ true → W ≡ record { movers = reasons_to n m A B R; infeasible = ending_row n m A B }
  unfolding reasons_from
  told-infeasible e = sym left_one ∙ rw e

  pub told-converged : (pass_to n m A B).ended ≡ false → (pass_to n m A B).moved ≡ 0 → W ≡ record { movers = reasons_to n m A B R; infeasible = no_row }
  unfolding reasons_from
  told-converged e z = sym left_one ∙ rw (e, z)

  pub told_moved : (pass_to n m A B).ended ≡ false → 0 < (pass_to n m A B).moved
      → reasons_from (budget - (made + 1)) n m A (pass_to n m A B).box (reasons_to n m A B R) ≡ W
  unfolding reasons_from
  told_moved e z = sym (sym left_one ∙ rw (e, T→true (ltb 0 (pass_to n m A B).moved) (lt→ltb 0 (pass_to n m A B).moved z)))

pub told-all : (budget made n m : ℕ) (A : Rows) (B : List ℤ) (R : List ℕ) {W : Reasons} → budget ≤ made → reasons_from (budget - made) n m A B R ≡ W
    → W ≡ record { movers = R; infeasible = no_row }
unfolding reasons_from
told-all budget made n m A B R h w = let k : budget - made ≡ 0 = omega arith in sym w ∙ rw k

-- ---- a call that fills the list

module _ (budget n m : ℕ) (A : Rows) (B : List ℤ) (k : ℕ) where
  pub reasons-empty : is_empty n B ≡ true → reasons_of budget n m A B k ≡ record { movers = replicate k no_row; infeasible = no_row }
  unfolding reasons_of
  reasons-empty e = rw e

  pub reasons-some : is_empty n B ≡ false → reasons_of budget n m A B k ≡ reasons_from budget n m A B (replicate k no_row)
  unfolding reasons_of
  reasons-some e = rw e
