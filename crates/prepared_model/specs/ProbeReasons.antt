-- Who moved what in the two sides of a probe: "Also told, in a lent list that may be empty: which variables' bounds moved, and for each
-- the row that moved it last; where infeasible, the row that was" (D-61). A bound of the box that a probe leaves has a reason in each
-- side: so the two sides are told, one after the other, each as a propagation of its own (D-69).
use Rattle.std.specs.Prelude.{◌/◌, ℕ, ℤ, replicate, cond, List, ◌++◌}
use Rattle.model.specs.Box.{is_empty}
use Rattle.model.specs.Rows.{Rows}
use Rattle.semantics.specs.Probe.{fix}
use Rattle.prepared_model.specs.Reasons.{Reasons, no_row, reasons_of}

-- the reasons of side 0 and then those of side 1, and of each side the row that was infeasible
pub record ProbeReasons : Type 0 where
  pub movers : List ℕ
  pub row0 : ℕ
  pub row1 : ℕ

-- side v of k, "the box with k set to v", that tells h numbers
unfoldable pub side_reasons : (k v budget : ℕ) → ℕ → ℕ → Rows → List ℤ → (h : ℕ) → Reasons
side_reasons k v budget n m A B h = reasons_of budget n m A (fix n B k v) h

unfoldable pub both_reasons : Reasons → Reasons → ProbeReasons
both_reasons s0 s1 = record { movers = s0.movers ++ s1.movers; row0 = s0.infeasible; row1 = s1.infeasible }

-- a probe of k that tells `len` numbers, half of them of each side; the sides of the empty box are not tried
unfoldable pub probe_reasons : (k budget : ℕ) → ℕ → ℕ → Rows → List ℤ → (len : ℕ) → ProbeReasons
probe_reasons k budget n m A B len =
    cond (is_empty n B) (record { movers = replicate len no_row; row0 = no_row; row1 = no_row })
    (both_reasons (side_reasons k 0 budget n m A B (len / 2)) (side_reasons k 1 budget n m A B (len / 2)))
