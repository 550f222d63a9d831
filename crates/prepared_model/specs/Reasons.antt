-- Who moved what, of the passes over all rows in their order: "which variables' bounds moved, and for each the row that moved it last;
-- where infeasible, the row that was" (D-61). Nothing here knows which rows a prepared call looks at.
use Rattle.std.specs.Prelude.{suc, zero, ℕ, ltb, ℤ, replicate, cond, not, List}
use Rattle.model.specs.Box.{is_empty}
use Rattle.model.specs.Rows.{Rows, row_at}
use Rattle.row.specs.Kinds.{propagate_row_of}
use Rattle.semantics.specs.Lowest.{lowest}
use Rattle.semantics.specs.Propagate.{pass_to}
use Rattle.prepared_model.specs.RowReasons.{row_reasons}

-- 2³² − 1 where no row did
abbrev pub no_row : ℕ
no_row = 4_294_967_295

-- rows 0 to i − 1 of the pass over B, after the reasons R; after a row that was infeasible no row moves anything
unfoldable pub reasons_to : ℕ → ℕ → Rows → List ℤ → List ℕ → List ℕ
reasons_to n zero A B R = R
reasons_to n (suc i) A B R =
    let P = (pass_to n i A B).box in
    let S = reasons_to n i A B R in
    cond (pass_to n i A B).ended S (row_reasons i P (propagate_row_of n (row_at n A i) P) S)

-- the lowest row with which the pass over B is ended
unfoldable pub ending_row : ℕ → ℕ → Rows → List ℤ → ℕ
ending_row n m A B = lowest m (λ r. not (pass_to n (suc r) A B).ended)

-- of each bound the row that moved it last, and the row that was infeasible
pub record Reasons : Type 0 where
  pub movers : List ℕ
  pub infeasible : ℕ

-- `left` passes may still be made, as in `propagate_from`; those that are made gave the reasons R
unfoldable pub reasons_from : (left : ℕ) → ℕ → ℕ → Rows → List ℤ → List ℕ → Reasons
reasons_from zero n m A B R = record { movers = R; infeasible = no_row }
reasons_from (suc left) n m A B R =
    let p = pass_to n m A B in
    let S = reasons_to n m A B R in
    let again : Reasons = reasons_from left n m A p.box S in
    cond p.ended (record { movers = S; infeasible = ending_row n m A B })
    (cond (ltb 0 p.moved) again (record { movers = S; infeasible = no_row }))

-- a propagation, as in `propagate`, that tells k numbers: in the empty box no row moves anything, and none is infeasible
unfoldable pub reasons_of : (budget : ℕ) → ℕ → ℕ → Rows → List ℤ → (k : ℕ) → Reasons
reasons_of budget n m A B k =
    let R = replicate k no_row in
    cond (is_empty n B) (record { movers = R; infeasible = no_row }) (reasons_from budget n m A B R)
