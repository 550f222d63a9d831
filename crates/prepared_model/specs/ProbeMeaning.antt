-- What the reasons of a probe mean: "which variables' bounds moved, and for each the row that moved it last; where infeasible, the row
-- that was" (D-61), of each side, and of the box that the probe leaves (`probe-reasons-mean`).
use Rattle.std.specs.Prelude.{◌*◌, ◌/◌, ◌<◌, ℕ, T, ℤ, get_or, not, List, ◌++◌, ◌↔◌, ◌≡◌}
use Rattle.model.specs.Box.{at}
use Rattle.model.specs.Rows.{Rows}
use Rattle.semantics.specs.Probe.{fix, probe}
use Rattle.semantics.specs.Propagate.{Propagated, is_none, propagate}
use Rattle.semantics.specs.Run.{probe_infeasible}
use Rattle.prepared_model.specs.Meaning.{ReasonsMean}
use Rattle.prepared_model.specs.ProbeReasons.{probe_reasons, side_reasons}

-- side v of k, as it was settled
abbrev pub side_of : (k v budget : ℕ) → ℕ → ℕ → Rows → List ℤ → Propagated
side_of k v budget n m A B = propagate budget n m A (fix n B k v)

-- side v, where it is feasible, tells a row for bound i
abbrev pub MovedIn : (k v budget : ℕ) → ℕ → ℕ → Rows → List ℤ → (i : ℕ) → Type 0
MovedIn k v budget n m A B i = T (not (is_none (side_of k v budget n m A B).ending)) → get_or (side_reasons k v budget n m A B (2 * n)).movers i 0 < m

-- a probe of k in B, with the table t, that tells 4n numbers
pub record ProbeReasonsMean (k budget n m : ℕ) (A : Rows) (B : List ℤ) (t : List ℕ) : Type 0 where
  -- they are those of the two sides, each of which says what a propagation's do
  pub halves : (probe_reasons k budget n m A B (4 * n)).movers ≡ (side_reasons k 0 budget n m A B (2 * n)).movers ++ (side_reasons k 1 budget n m A B (2 * n)).movers
  pub side0 : ReasonsMean budget n m A (fix n B k 0)
  pub side1 : ReasonsMean budget n m A (fix n B k 1)
  -- a side that is infeasible tells the row that was
  pub row0 : T (is_none (side_of k 0 budget n m A B).ending) → (probe_reasons k budget n m A B (4 * n)).row0 < m
  pub row1 : T (is_none (side_of k 1 budget n m A B).ending) → (probe_reasons k budget n m A B (4 * n)).row1 < m
  -- a bound of the box that is left, but for k's, moved exactly if it moved in each side that is feasible
  pub moved : T (not (probe_infeasible (probe k budget n m A B t).ending)) → (i : ℕ) → i < 2 * n → (i / 2 ≡ k → ⊥)
      → (at (probe k budget n m A B t).box i ≡ at B i → ⊥) ↔ (MovedIn k 0 budget n m A B i × MovedIn k 1 budget n m A B i)
